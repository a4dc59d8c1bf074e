-- Operations on columns in a store that has grown since: what they make, by the setting of the earlier meaning.
use Rattle.std.proofs.Common.{◌≡◌, ℕ, ◌<◌, Bool, List, Some, Result, subst}
use Rattle.exact.specs.declared.Qubit.{Qubit}
use Rattle.functions.specs.declared.faults.StoreFault.{StoreFault}
use Rattle.functions.specs.Tables.{Table}
use Rattle.functions.specs.Meanings.{Setting, Meaning, qubits_of, under}
use Rattle.functions.specs.Growth.{Grew, StandFor}
use Rattle.slicing.specs.Columns.{Column}
use Rattle.slicing.specs.Operations.{fixed_column, chosen_column, sums_plan, added}
use Rattle.columns.specs.Columns.{ColumnBuilt, ColumnFixed, ColumnChosen, ColumnsAdded}
use Rattle.columns.proofs.Making.{inside_too}

pub fixed_later : (v u w : Meaning) (fs : List Table) (hs : List ℕ) (q : Qubit) (b : Bool) (r : Result (List ℕ) StoreFault) → Grew v u fs → ColumnFixed u w hs q b r
    → (ss : Column) → StandFor u hs ss → q.0 < qubits_of v → ColumnBuilt u w (fixed_column (qubits_of v) q.0 b ss) (fixed_column (qubits_of v) q.0 b ss) r
unfolding ColumnFixed
fixed_later v u w fs hs q b r g m ss h l =
    subst (λ (s : Setting). ColumnBuilt u w (fixed_column s.qubits q.0 b ss) (fixed_column s.qubits q.0 b ss) r) g.setting (m ss h (inside_too v u q.0 g.setting l))

pub chosen_later : (v u w : Meaning) (fs : List Table) (hf : ℕ) (hp hq : List ℕ) (r : Result (List ℕ) StoreFault) → Grew v u fs → ColumnChosen u w hf hp hq r
    → (f : Table) (ps qs : Column) → under u hf ≡ Some f → StandFor u hp ps → StandFor u hq qs → ColumnBuilt u w (chosen_column (qubits_of v) f ps qs) (chosen_column (qubits_of v) f ps qs) r
unfolding ColumnChosen
chosen_later v u w fs hf hp hq r g m f ps qs kf kp kq =
    subst (λ (s : Setting). ColumnBuilt u w (chosen_column s.qubits f ps qs) (chosen_column s.qubits f ps qs) r) g.setting (m f ps qs kf kp kq)

pub added_later : (v u w : Meaning) (fs : List Table) (hp hq : List ℕ) (he : ℕ) (r : Result (List ℕ) StoreFault) → Grew v u fs → ColumnsAdded u w hp hq he r
    → (ps qs : Column) (e : Table) → StandFor u hp ps → StandFor u hq qs → under u he ≡ Some e → ColumnBuilt u w (sums_plan (qubits_of v) e e ps qs) (added (qubits_of v) e ps qs) r
unfolding ColumnsAdded
added_later v u w fs hp hq he r g m ps qs e kp kq ke =
    subst (λ (s : Setting). ColumnBuilt u w (sums_plan s.qubits e e ps qs) (added s.qubits e ps qs) r) g.setting (m ps qs e kp kq ke)
