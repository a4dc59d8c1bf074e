-- Records made of columns.
use Rattle.std.proofs.Common.{◌≡◌, ℕ, ◌<◌, ◌≤◌, length, take, Ok, Err, refl, ap, ◌∙◌, subst}
use Rattle.exact.specs.declared.RootTwoPower.{RootTwoPower}
use Rattle.exact.specs.declared.SliceCount.{SliceCount}
use Rattle.functions.specs.Meanings.{Meaning}
use Rattle.slicing.specs.Columns.{Columns as Four}
use Rattle.slicing.specs.Trimming.{trimmed_width, trimmed}
use Rattle.columns.specs.declared.four.Columns.{Columns}
use Rattle.columns.proofs.Lowest.{lowest_stand, all_slices}
use Rattle.columns.specs.Columns.{AllStand, LowestSlices}
use Rattle.records.specs.declared.record.Record.{Record}
use Rattle.records.specs.declared.excess.Excess.TheVariants.{Power, Width}
use Rattle.records.specs.Records.{RecordStands, LeastWidth, CutTo, ColumnsTrimmed, Widened}

-- a record that is cut from columns
pub cut_stands : (v : Meaning) (hs : Columns 24) (power : RootTwoPower) (width : SliceCount) (r : Record) (x : Four) → width.0 ≤ length hs.a → CutTo hs power width r → AllStand v hs x
    → AllStand v r.handles (λ k. take width.0 (x k))
cut_stands v hs power width r x l c h = lowest_stand hs width.0 r.handles c.lowest v x l h

module _ (hs : Columns 24) (power : RootTwoPower) (width : SliceCount) (few : width.0 ≤ length hs.a) (least : LeastWidth hs width.0) where
  pub trimmed_high : 40 < power.0 → ColumnsTrimmed hs power.0 (Err (Power power))
  unfolding ColumnsTrimmed
  trimmed_high l v x laws h = (refl, l)

  pub trimmed_wide : power.0 ≤ 40 → 22 < width.0 → ColumnsTrimmed hs power.0 (Err (Width width))
  unfolding ColumnsTrimmed LeastWidth
  trimmed_wide low l v x laws h = (least v x laws h, low, subst (λ (w : ℕ). 22 < w) (least v x laws h) l)

  pub trimmed_done : (r : Record) → CutTo hs power width r → ColumnsTrimmed hs power.0 (Ok r)
  unfolding ColumnsTrimmed LeastWidth trimmed RecordStands
  trimmed_done r c v x laws h =
      let e : width.0 ≡ trimmed_width x (length hs.a) = least v x laws h in
      record {
        powered = ap (λ (p : RootTwoPower). p.0) c.powered;
        wide = c.lowest.slices ∙ e;
        stand = subst (λ (w : ℕ). AllStand v r.handles (λ k. take w (x k))) e (cut_stands v hs power width r x few c h);
      }

-- the columns of a record stand for what it stands for
pub widened_stands : (v : Meaning) (r : Record) (hs : Columns 24) (x : Four) → Widened r hs → RecordStands v r x → AllStand v hs x
unfolding AllStand RecordStands
widened_stands v r hs x w h k = rw (w.handles k) (h k)

pub widened : (r : Record) (hs : Columns 24) (width : ℕ) → width ≡ length r.handles.a → LowestSlices r.handles width hs → Widened r hs
widened r hs width e l = record { slices = l.slices ∙ e; handles = all_slices r.handles width hs l e }
