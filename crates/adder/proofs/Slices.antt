-- One slice of an addition, from what its three calls answered.
use Rattle.std.proofs.Common.{◌≡◌, ℕ, ◌+◌, ◌*◌, Bool, true, false, cond, ◌&&◌, ◌||◌, [], ◌∷◌, Some, Ok, Err, Result, refl, ap, ◌∙◌, ap₂}
use Rattle.exact.specs.Indices.{listing}
use Rattle.exact.proofs.Listings.{listing_same, at_listing}
use Rattle.functions.specs.declared.faults.StoreFault.{StoreFault}
use Rattle.functions.specs.Tables.{Table, value_at, constant, combined, digit, differ, parity, majority}
use Rattle.functions.specs.Meanings.{Meaning, qubits_of, under}
use Rattle.functions.specs.Growth.{Grew, Built}
use Rattle.functions.specs.Answers.{Made, combine_asked}
use Rattle.functions.proofs.Values.{constant_at}
use Rattle.functions.proofs.NamedRules.{combined_150, combined_232}
use Rattle.functions.proofs.Handles.{under_0}
use Rattle.functions.proofs.Growth.{built_after, built_stopped}
use Rattle.functions.proofs.Asked.{combination, made_keeps}
use Rattle.adder.specs.Slices.{turned, slice_sum, next_carry, slice_plan, SliceAdded, SliceLaws}

-- the odd sum with the constant 0
pub turned_rule : (n : ℕ) (q e : Table) → combined n 150 q e (constant n false) ≡ turned n q e
unfolding parity turned
turned_rule n q e = combined_150 n q e (constant n false)
    ∙ listing_same n _ _ (λ x l. ap (λ (b : Bool). differ (value_at q x) (differ (value_at e x) b)) (constant_at n false x l) ∙ ap (differ (value_at q x)) (same_bit (value_at e x)))
  where
    same_bit : (b : Bool) → differ b false ≡ b
    same_bit true = refl
    same_bit false = refl

sum_rule : (n : ℕ) (p q e c : Table) → combined n 150 p (turned n q e) c ≡ slice_sum n p q e c
unfolding slice_sum
sum_rule n p q e c = combined_150 n p (turned n q e) c

carry_rule : (n : ℕ) (p q e c : Table) → combined n 232 p (turned n q e) c ≡ next_carry n p q e c
unfolding next_carry
carry_rule n p q e c = combined_232 n p (turned n q e) c

pub slice_law : SliceLaws
unfolding slice_sum next_carry parity majority turned
slice_law n p q e c x l =
    ap₂ (λ (a b : Bool). digit a + 2 * digit b)
    (at_listing false n _ x l ∙ ap (λ (d : Bool). differ (value_at p x) (differ d (value_at c x))) d_at)
    (at_listing false n _ x l ∙ ap (λ (d : Bool). cond (value_at p x) (d || value_at c x) (d && value_at c x)) d_at)
    ∙ adds_up (value_at p x) (differ (value_at q x) (value_at e x)) (value_at c x)
  where
    d_at : value_at (listing n (λ y. differ (value_at q y) (value_at e y))) x ≡ differ (value_at q x) (value_at e x)
    d_at = at_listing false n (λ y. differ (value_at q y) (value_at e y)) x l

    adds_up : (a b c : Bool) → digit (differ a (differ b c)) + 2 * digit (cond a (b || c) (b && c)) ≡ digit a + digit b + digit c
    adds_up true true true = refl
    adds_up true true false = refl
    adds_up true false true = refl
    adds_up true false false = refl
    adds_up false true true = refl
    adds_up false true false = refl
    adds_up false false true = refl
    adds_up false false false = refl

module _ (v w₁ w₂ w₃ : Meaning) (hp hq he hc : ℕ) where
  -- the first call, and where it stops the slice
  turned_built : (r : Result ℕ StoreFault) → Made v w₁ (combine_asked v 150 hq he 0) r → (q e : Table) → under v hq ≡ Some q → under v he ≡ Some e → Built v w₁ (turned (qubits_of v) q e ∷ []) r (λ k. under w₁ k ≡ Some (turned (qubits_of v) q e))
  turned_built r m q e iq ie = combination v v w₁ 150 hq he 0 q e (constant (qubits_of v) false) (turned (qubits_of v) q e) r refl iq ie (under_0 v) (turned_rule (qubits_of v) q e) m

  pub stopped_first : (x : StoreFault) → Made v w₁ (combine_asked v 150 hq he 0) (Err x) → SliceAdded v w₁ hp hq he hc (Err x)
  unfolding SliceAdded slice_plan
  stopped_first x m p q e c ip iq ie ic = built_stopped _ _ v w₁ (turned (qubits_of v) q e ∷ []) _ x (turned_built (Err x) m q e iq ie)

  module _ (d : ℕ) (m₁ : Made v w₁ (combine_asked v 150 hq he 0) (Ok d)) where
    -- the second call
    sum_built : (r : Result ℕ StoreFault) → Made w₁ w₂ (combine_asked w₁ 150 hp d hc) r → (p q e c : Table) → under v hp ≡ Some p → under v hq ≡ Some q → under v he ≡ Some e → under v hc ≡ Some c → Built v w₂ (turned (qubits_of v) q e ∷ (slice_sum (qubits_of v) p q e c ∷ [])) r (λ k. under w₂ k ≡ Some (slice_sum (qubits_of v) p q e c))
    unfolding Built
    sum_built r m p q e c ip iq ie ic =
        let a : Grew v w₁ (turned (qubits_of v) q e ∷ []) × (under w₁ d ≡ Some (turned (qubits_of v) q e)) = turned_built (Ok d) m₁ q e iq ie in
        built_after _ v w₁ w₂ (turned (qubits_of v) q e ∷ []) (slice_sum (qubits_of v) p q e c ∷ []) r a.0
        (combination v w₁ w₂ 150 hp d hc p (turned (qubits_of v) q e) c (slice_sum (qubits_of v) p q e c) r a.0.setting (a.0.keeps hp p ip) a.1 (a.0.keeps hc c ic) (sum_rule (qubits_of v) p q e c) m)

    pub stopped_second : (x : StoreFault) → Made w₁ w₂ (combine_asked w₁ 150 hp d hc) (Err x) → SliceAdded v w₂ hp hq he hc (Err x)
    unfolding SliceAdded slice_plan
    stopped_second x m p q e c ip iq ie ic = built_stopped _ _ v w₂ (turned (qubits_of v) q e ∷ (slice_sum (qubits_of v) p q e c ∷ [])) _ x (sum_built (Err x) m p q e c ip iq ie ic)

    module _ (s : ℕ) (m₂ : Made w₁ w₂ (combine_asked w₁ 150 hp d hc) (Ok s)) where
      -- the third call
      carry_built : (r : Result ℕ StoreFault) → Made w₂ w₃ (combine_asked w₂ 232 hp d hc) r → (p q e c : Table) → under v hp ≡ Some p → under v hq ≡ Some q → under v he ≡ Some e → under v hc ≡ Some c → Built v w₃ (slice_plan (qubits_of v) p q e c) r (λ k. under w₃ k ≡ Some (next_carry (qubits_of v) p q e c))
      unfolding Built slice_plan
      carry_built r m p q e c ip iq ie ic =
          let a : Grew v w₁ (turned (qubits_of v) q e ∷ []) × (under w₁ d ≡ Some (turned (qubits_of v) q e)) = turned_built (Ok d) m₁ q e iq ie in
          let b : Grew v w₂ (turned (qubits_of v) q e ∷ (slice_sum (qubits_of v) p q e c ∷ [])) × (under w₂ s ≡ Some (slice_sum (qubits_of v) p q e c)) = sum_built (Ok s) m₂ p q e c ip iq ie ic in
          built_after _ v w₂ w₃ (turned (qubits_of v) q e ∷ (slice_sum (qubits_of v) p q e c ∷ [])) (next_carry (qubits_of v) p q e c ∷ []) r b.0
          (combination v w₂ w₃ 232 hp d hc p (turned (qubits_of v) q e) c (next_carry (qubits_of v) p q e c) r b.0.setting (b.0.keeps hp p ip) (made_keeps w₁ w₂ (combine_asked w₁ 150 hp d hc) (Ok s) m₂ d (turned (qubits_of v) q e) a.1) (b.0.keeps hc c ic) (carry_rule (qubits_of v) p q e c) m)

      pub stopped_third : (x : StoreFault) → Made w₂ w₃ (combine_asked w₂ 232 hp d hc) (Err x) → SliceAdded v w₃ hp hq he hc (Err x)
      unfolding SliceAdded Built
      stopped_third x m p q e c ip iq ie ic = carry_built (Err x) m p q e c ip iq ie ic

      pub slice_added : (k : ℕ) → Made w₂ w₃ (combine_asked w₂ 232 hp d hc) (Ok k) → SliceAdded v w₃ hp hq he hc (Ok (record { sum = s; carry = k }))
      unfolding SliceAdded Built
      slice_added k m p q e c ip iq ie ic =
          let a = carry_built (Ok k) m p q e c ip iq ie ic in
          let b : Grew v w₂ (turned (qubits_of v) q e ∷ (slice_sum (qubits_of v) p q e c ∷ [])) × (under w₂ s ≡ Some (slice_sum (qubits_of v) p q e c)) = sum_built (Ok s) m₂ p q e c ip iq ie ic in
          (a.0, record { sum = made_keeps w₂ w₃ (combine_asked w₂ 232 hp d hc) (Ok k) m s (slice_sum (qubits_of v) p q e c) b.1; carry = a.1 })
