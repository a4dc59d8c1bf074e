-- Both odd sums of the lowest slices, from what their calls answered.
use Rattle.std.proofs.Common.{◌≡◌, ℕ, Bool, false, ◌&&◌, eqb, List, [], ◌∷◌, get_or, Some, Ok, Err, Result, ap, ◌∙◌, ap₂, arith}
use Rattle.functions.specs.declared.faults.StoreFault.{StoreFault}
use Rattle.functions.specs.Tables.{Table, constant}
use Rattle.functions.specs.Meanings.{Setting, Meaning, Laws, qubits_of, under}
use Rattle.functions.specs.Growth.{Grew, Built}
use Rattle.functions.specs.Answers.{Made, combine_asked}
use Rattle.functions.proofs.Growth.{grew_none, grew_then, stopped_after, built_stopped}
use Rattle.functions.proofs.Handles.{under_0, stand_for_at}
use Rattle.functions.proofs.Asked.{combination}
use Rattle.adder.specs.Slices.{turned}
use Rattle.adder.proofs.Slices.{turned_rule}
use Rattle.slicing.specs.declared.Component.{Component}
use Rattle.slicing.specs.declared.Component.TheVariants.{A, B, C, D}
use Rattle.slicing.specs.Columns.{Columns as Four}
use Rattle.slicing.specs.Divisions.{lowest_odd_sum, odd_a_c, odd_b_d, divisible}
use Rattle.columns.specs.declared.four.Columns.{Columns}
use Rattle.columns.specs.Columns.{handles_of, AllStand}
use Rattle.columns.proofs.Standing.{as_many, all_keep}
use Rattle.columns.proofs.Comparing.{same_by_handles}
use Rattle.reductions.specs.Reductions.{AskedDivisible}

-- the handle of a lowest slice
lowest : (v : Meaning) (hs : Columns 24) (x : Four) → AllStand v hs x → (k : Component) → under v (get_or (handles_of hs k) 0 0) ≡ Some (get_or (x k) 0 [])
unfolding AllStand
lowest v hs x h k = stand_for_at v (handles_of hs k) (x k) 0 (h k) (omega (arith, hs.some, as_many hs k))

-- the odd sum of two lowest slices, in a store with the setting of v
odd_sum_made : (v u w : Meaning) (fs : List Table) (hs : Columns 24) (k j : Component) (r : Result ℕ StoreFault) → Grew v u fs → Made u w (combine_asked u 150 (get_or (handles_of hs k) 0 0) (get_or (handles_of hs j) 0 0) 0) r
    → (x : Four) → AllStand v hs x → Built u w (lowest_odd_sum (qubits_of v) (x k) (x j) ∷ []) r (λ h. under w h ≡ Some (lowest_odd_sum (qubits_of v) (x k) (x j)))
unfolding lowest_odd_sum
odd_sum_made v u w fs hs k j r g m x h =
    let n = qubits_of v in
    let h' = all_keep v u fs g hs x h in
    combination v u w 150 (get_or (handles_of hs k) 0 0) (get_or (handles_of hs j) 0 0) 0 (get_or (x k) 0 []) (get_or (x j) 0 []) (constant n false) (turned n (get_or (x k) 0 []) (get_or (x j) 0 [])) r g.setting
    (lowest u hs x h' k) (lowest u hs x h' j) (under_0 u ∙ ap (λ (s : Setting). Some (constant s.qubits false)) g.setting) (turned_rule n (get_or (x k) 0 []) (get_or (x j) 0 [])) m

module _ (v w₁ w₂ : Meaning) (hs : Columns 24) where
  pub asked_stopped_a_c : (e : StoreFault) → Made v w₁ (combine_asked v 150 (get_or hs.a 0 0) (get_or hs.c 0 0) 0) (Err e) → AskedDivisible v w₁ hs (Err e)
  unfolding AskedDivisible odd_a_c
  asked_stopped_a_c e m x h = built_stopped _ _ v w₁ (lowest_odd_sum (qubits_of v) (x A) (x C) ∷ []) _ e (odd_sum_made v v w₁ [] hs A C (Err e) (grew_none v) m x h)

  module _ (k : ℕ) (m₁ : Made v w₁ (combine_asked v 150 (get_or hs.a 0 0) (get_or hs.c 0 0) 0) (Ok k)) where
    first : (x : Four) → AllStand v hs x → Grew v w₁ (odd_a_c (qubits_of v) x ∷ []) × (under w₁ k ≡ Some (odd_a_c (qubits_of v) x))
    unfolding Built odd_a_c
    first x h = odd_sum_made v v w₁ [] hs A C (Ok k) (grew_none v) m₁ x h

    second : (r : Result ℕ StoreFault) → Made w₁ w₂ (combine_asked w₁ 150 (get_or hs.b 0 0) (get_or hs.d 0 0) 0) r → (x : Four) → AllStand v hs x
        → Built w₁ w₂ (odd_b_d (qubits_of v) x ∷ []) r (λ h. under w₂ h ≡ Some (odd_b_d (qubits_of v) x))
    unfolding odd_b_d
    second r m x h = odd_sum_made v w₁ w₂ _ hs B D r (first x h).0 m x h

    pub asked_stopped_b_d : (e : StoreFault) → Made w₁ w₂ (combine_asked w₁ 150 (get_or hs.b 0 0) (get_or hs.d 0 0) 0) (Err e) → AskedDivisible v w₂ hs (Err e)
    unfolding AskedDivisible Built
    asked_stopped_b_d e m x h = stopped_after (odd_a_c (qubits_of v) x ∷ []) (odd_b_d (qubits_of v) x ∷ []) (first x h).0 (second (Err e) m x h)

    pub asked_both : Laws w₂ → (j : ℕ) → Made w₁ w₂ (combine_asked w₁ 150 (get_or hs.b 0 0) (get_or hs.d 0 0) 0) (Ok j) → (b : Bool) → b ≡ (eqb k 0 && eqb j 0) → AskedDivisible v w₂ hs (Ok b)
    unfolding AskedDivisible Built divisible
    asked_both laws j m b e x h =
        let n = qubits_of v in
        let p = first x h in
        let q : Grew w₁ w₂ (odd_b_d n x ∷ []) × (under w₂ j ≡ Some (odd_b_d n x)) = second (Ok j) m x h in
        let g : Grew v w₂ (odd_a_c n x ∷ (odd_b_d n x ∷ [])) = grew_then (odd_a_c n x ∷ []) (odd_b_d n x ∷ []) p.0 q.0 in
        let zero : under w₂ 0 ≡ Some (constant n false) = under_0 w₂ ∙ ap (λ (s : Setting). Some (constant s.qubits false)) g.setting in
        (g, e ∙ ap₂ ◌&&◌ (same_by_handles w₂ laws k 0 (odd_a_c n x) (constant n false) (q.0.keeps k _ p.1) zero) (same_by_handles w₂ laws j 0 (odd_b_d n x) (constant n false) q.1 zero))
