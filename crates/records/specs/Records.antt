-- Records: which slices their handles stand for, and how they are made of columns.
use Rattle.std.specs.Prelude.{◌≡◌, ℕ, ◌+◌, ◌<◌, ◌≤◌, Bool, ◌&&◌, List, length, Ok, Err, Result, ◌==◌, slice_index}
use Rattle.exact.specs.declared.RootTwoPower.{RootTwoPower}
use Rattle.exact.specs.declared.SliceCount.{SliceCount}
use Rattle.functions.specs.Meanings.{Meaning, Laws}
use Rattle.slicing.specs.declared.Component.{Component}
use Rattle.slicing.specs.Columns.{Columns as Four}
use Rattle.slicing.specs.Trimming.{trimmed_width, trimmed}
use Rattle.columns.specs.declared.four.Columns.{Columns}
use Rattle.columns.specs.Columns.{handles_of, AllStand, LowestSlices}
use Rattle.records.specs.declared.record.Record.{Record}
use Rattle.records.specs.declared.excess.Excess.{Excess}
use Rattle.records.specs.declared.excess.Excess.TheVariants.{Power, Width}

-- the handles of a component, in a record
abbrev pub recorded : Record → Component → List ℕ
recorded r = handles_of r.handles

-- The handles of a record stand for the slices of x.
unfoldable pub RecordStands : Meaning → Record → Four → Type 0
RecordStands v r x = AllStand v r.handles x

-- whether slices j and j+1 of a column have the same handle, and whether they have in all four
abbrev pub same_handles : List ℕ → ℕ → Bool
same_handles hs j = slice_index hs j == slice_index hs (j + 1)

abbrev pub all_same_handles : Columns 24 → ℕ → Bool
all_same_handles hs j = same_handles hs.a j && (same_handles hs.b j && (same_handles hs.c j && same_handles hs.d j))

-- In every store in order in which the handles stand for columns, it is the width to which they are trimmed.
unfoldable pub LeastWidth : Columns 24 → ℕ → Type 0
LeastWidth hs w = (v : Meaning) (x : Four) → Laws v → AllStand v hs x → w ≡ trimmed_width x (length hs.a)

-- the record of the lowest slices of columns
pub record CutTo (hs : Columns 24) (power : RootTwoPower) (width : SliceCount) (r : Record) : Type 0 where
  pub powered : r.power ≡ power
  pub lowest : LowestSlices hs width.0 r.handles

-- a record of columns of so many slices with the power k, trimmed
pub record Recorded (v : Meaning) (k count : ℕ) (x : Four) (r : Record) : Type 0 where
  pub powered : r.power.0 ≡ k
  pub wide : length r.handles.a ≡ trimmed_width x count
  pub stand : RecordStands v r (trimmed count x)

-- Columns are recorded, or their power is above 40, or else their width is above 22.
abbrev pub TrimmedTo : Meaning → ℕ → ℕ → Four → Result Record Excess → Type 0
TrimmedTo v k count x (Ok r) = Recorded v k count x r
TrimmedTo v k count x (Err (Power p)) = (p.0 ≡ k) × (40 < k)
TrimmedTo v k count x (Err (Width w)) = (w.0 ≡ trimmed_width x count) × (k ≤ 40) × (22 < trimmed_width x count)

unfoldable pub ColumnsTrimmed : Columns 24 → ℕ → Result Record Excess → Type 0
ColumnsTrimmed hs k r = (v : Meaning) (x : Four) → Laws v → AllStand v hs x → TrimmedTo v k (length hs.a) x r

-- columns with the handles of a record
pub record Widened (r : Record) (hs : Columns 24) : Type 0 where
  pub slices : length hs.a ≡ length r.handles.a
  pub handles : (k : Component) → handles_of hs k ≡ recorded r k
