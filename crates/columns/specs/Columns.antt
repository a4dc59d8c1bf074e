-- Columns of handles: which slices they stand for, and what is made of them.
use Rattle.std.specs.Prelude.{◌≡◌, ℕ, suc, ◌-◌, ◌<◌, Bool, List, ◌++◌, length, take, replicate, Some, Ok, Err, Result}
use Rattle.exact.specs.declared.Qubit.{Qubit}
use Rattle.functions.specs.declared.faults.StoreFault.{StoreFault}
use Rattle.functions.specs.Tables.{Table, literal}
use Rattle.functions.specs.Meanings.{Meaning, qubits_of, under}
use Rattle.functions.specs.Growth.{Built, StandFor}
use Rattle.slicing.specs.declared.Component.{Component}
use Rattle.slicing.specs.declared.Component.TheVariants.{A, B, C, D}
use Rattle.slicing.specs.Columns.{Column}
use Rattle.slicing.specs.Columns.{Columns as Four}
use Rattle.slicing.specs.Operations.{all_repeated, fixed_column, chosen_column, flipped_column, flip_plan, sums_plan, added}
use Rattle.columns.specs.declared.four.Columns.{Columns}

-- the handles of a component's column
abbrev pub handles_of : {N : ℕ} → Columns N → Component → List ℕ
handles_of x A = x.a
handles_of x B = x.b
handles_of x C = x.c
handles_of x D = x.d

-- The handles of four columns stand for the slices of x.
unfoldable pub AllStand : {N : ℕ} → Meaning → Columns N → Four → Type 0
AllStand v hs x = (k : Component) → StandFor v (handles_of hs k) (x k)

-- The column answered, if any, has this number of slices; and so have the four columns answered.
abbrev pub Wide : ℕ → Result (List ℕ) StoreFault → Type 0
Wide slices (Ok hs) = length hs ≡ slices
Wide slices (Err e) = Unit {0}

abbrev pub Sliced : {N : ℕ} → ℕ → Result (Columns N) StoreFault → Type 0
Sliced slices (Ok hs) = length hs.a ≡ slices
Sliced slices (Err e) = Unit {0}

-- A plan is built, and the handles answered stand for the slices of a column.
abbrev pub ColumnBuilt : Meaning → Meaning → List Table → Column → Result (List ℕ) StoreFault → Type 0
ColumnBuilt v w plan ss r = Built v w plan r (λ hs. StandFor w hs ss)

-- What fixing a column answers: every slice with qubit q set to a bit is made, and nothing else.
unfoldable pub ColumnFixed : Meaning → Meaning → List ℕ → Qubit → Bool → Result (List ℕ) StoreFault → Type 0
ColumnFixed v w hs q b r =
    (ss : Column) → StandFor v hs ss → q.0 < qubits_of v
    → ColumnBuilt v w (fixed_column (qubits_of v) q.0 b ss) (fixed_column (qubits_of v) q.0 b ss) r

-- What choosing between two columns answers, by a handle of the function f.
unfoldable pub ColumnChosen : Meaning → Meaning → ℕ → List ℕ → List ℕ → Result (List ℕ) StoreFault → Type 0
ColumnChosen v w hf hp hq r =
    (f : Table) (ps qs : Column) → under v hf ≡ Some f → StandFor v hp ps → StandFor v hq qs
    → ColumnBuilt v w (chosen_column (qubits_of v) f ps qs) (chosen_column (qubits_of v) f ps qs) r

-- What turning qubit q in a column answers, by a handle of its literal.
unfoldable pub ColumnFlipped : Meaning → Meaning → List ℕ → Qubit → ℕ → Result (List ℕ) StoreFault → Type 0
ColumnFlipped v w hs q hv r =
    (ss : Column) → StandFor v hs ss → q.0 < qubits_of v → under v hv ≡ Some (literal (qubits_of v) q.0)
    → ColumnBuilt v w (flip_plan (qubits_of v) q.0 ss) (flipped_column (qubits_of v) q.0 ss) r

-- What adding two columns answers, with a handle of the first carry e.
unfoldable pub ColumnsAdded : Meaning → Meaning → List ℕ → List ℕ → ℕ → Result (List ℕ) StoreFault → Type 0
ColumnsAdded v w hp hq he r =
    (ps qs : Column) (e : Table) → StandFor v hp ps → StandFor v hq qs → under v he ≡ Some e
    → ColumnBuilt v w (sums_plan (qubits_of v) e e ps qs) (added (qubits_of v) e ps qs) r

-- Each top slice stands there once more: nothing is made.
pub record TopsRepeated {N : ℕ} (hs r : Columns N) : Type 0 where
  pub slices : length r.a ≡ suc (length hs.a)
  pub stand : (v : Meaning) (x : Four) → AllStand v hs x → AllStand v r (all_repeated x)

-- the n places of a column: its handles, and then 0
abbrev pub places : ℕ → List ℕ → List ℕ
places n hs = hs ++ replicate (n - length hs) 0

-- the lowest slices of four columns, as many as the width
pub record LowestSlices {N M : ℕ} (hs : Columns N) (width : ℕ) (r : Columns M) : Type 0 where
  pub slices : length r.a ≡ width
  pub lowest : (k : Component) → handles_of r k ≡ take width (places N (handles_of hs k))
