-- A column with a qubit turned, from what its three steps answered.
use Rattle.std.proofs.Common.{ℕ, ◌<◌, true, false, List, ◌++◌, Ok, Err, Result}
use Rattle.exact.specs.declared.Qubit.{Qubit}
use Rattle.functions.specs.declared.faults.StoreFault.{StoreFault}
use Rattle.functions.specs.Tables.{literal}
use Rattle.functions.specs.Meanings.{Meaning, qubits_of}
use Rattle.functions.specs.Growth.{Grew, Built, StandFor}
use Rattle.functions.proofs.Growth.{grew_then, built_after, built_stopped}
use Rattle.functions.proofs.Handles.{stand_for_keeps}
use Rattle.slicing.specs.Columns.{Column}
use Rattle.slicing.specs.Operations.{fixed_column, chosen_column, flipped_column, flip_plan}
use Rattle.columns.specs.Columns.{ColumnBuilt, ColumnFixed, ColumnChosen, ColumnFlipped}
use Rattle.columns.proofs.Later.{fixed_later, chosen_later}

module _ (v w₁ w₂ w₃ : Meaning) (hs : List ℕ) (q : Qubit) (hv : ℕ) where
  pub flip_stopped_low : (e : StoreFault) → ColumnFixed v w₁ hs q false (Err e) → ColumnFlipped v w₁ hs q hv (Err e)
  unfolding ColumnFixed ColumnFlipped flip_plan
  flip_stopped_low e m ss h l k = built_stopped _ _ v w₁ (fixed_column (qubits_of v) q.0 false ss) _ e (m ss h l)

  module _ (low : List ℕ) (m₁ : ColumnFixed v w₁ hs q false (Ok low)) where
    low_made : (ss : Column) → StandFor v hs ss → q.0 < qubits_of v → Grew v w₁ (fixed_column (qubits_of v) q.0 false ss) × StandFor w₁ low (fixed_column (qubits_of v) q.0 false ss)
    unfolding ColumnFixed Built
    low_made ss h l = m₁ ss h l

    high_made : (r : Result (List ℕ) StoreFault) → ColumnFixed w₁ w₂ hs q true r → (ss : Column) → StandFor v hs ss → q.0 < qubits_of v
        → ColumnBuilt w₁ w₂ (fixed_column (qubits_of v) q.0 true ss) (fixed_column (qubits_of v) q.0 true ss) r
    high_made r m ss h l =
        let a = (low_made ss h l).0 in
        fixed_later v w₁ w₂ (fixed_column (qubits_of v) q.0 false ss) hs q true r a m ss (stand_for_keeps v w₁ _ a hs ss h) l

    pub flip_stopped_high : (e : StoreFault) → ColumnFixed w₁ w₂ hs q true (Err e) → ColumnFlipped v w₂ hs q hv (Err e)
    unfolding ColumnFlipped flip_plan
    flip_stopped_high e m ss h l k =
        let b = built_stopped _ (λ x. StandFor w₂ x (flipped_column (qubits_of v) q.0 ss)) w₁ w₂ (fixed_column (qubits_of v) q.0 true ss) (flipped_column (qubits_of v) q.0 ss) e (high_made (Err e) m ss h l) in
        built_after _ v w₁ w₂ (fixed_column (qubits_of v) q.0 false ss) (fixed_column (qubits_of v) q.0 true ss ++ flipped_column (qubits_of v) q.0 ss) (Err e) (low_made ss h l).0 b

    pub flip_done : (high : List ℕ) → ColumnFixed w₁ w₂ hs q true (Ok high) → (r : Result (List ℕ) StoreFault) → ColumnChosen w₂ w₃ hv low high r → ColumnFlipped v w₃ hs q hv r
    unfolding ColumnFlipped flip_plan flipped_column Built
    flip_done high m₂ r m ss h l k =
        let n = qubits_of v in
        let lo : Column = fixed_column n q.0 false ss in
        let hi : Column = fixed_column n q.0 true ss in
        let a : Grew v w₁ lo × StandFor w₁ low lo = low_made ss h l in
        let b : Grew w₁ w₂ hi × StandFor w₂ high hi = high_made (Ok high) m₂ ss h l in
        let g : Grew v w₂ (lo ++ hi) = grew_then lo hi a.0 b.0 in
        let c = chosen_later v w₂ w₃ (lo ++ hi) hv low high r g m (literal n q.0) lo hi (g.keeps hv _ k) (stand_for_keeps w₁ w₂ hi b.0 low lo a.1) b.1 in
        built_after _ v w₁ w₃ lo (hi ++ chosen_column n (literal n q.0) lo hi) r a.0
        (built_after _ w₁ w₂ w₃ hi (chosen_column n (literal n q.0) lo hi) r b.0 c)
