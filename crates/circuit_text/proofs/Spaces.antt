-- The spaces of a line, one after another.
use Rattle.std.proofs.Common.{◌≡◌, ℕ, zero, suc, ◌+◌, ◌<◌, ◌≤◌, true, false, cond, eqb, List, [], ◌∷◌, length, get_or, drop, Some, None, refl, ap, ◌∙◌, add-one, arith}
use Rattle.std.specs.List.{position_or_len, position}
use Rattle.std.proofs.lemmas.List.Sums.{fails_before_first, passes_at_first}
use Rattle.std.proofs.lemmas.Bool.{cond-true, cond-false}
use Rattle.std.proofs.lemmas.Bool.Decides.{nat_tests}
use Rattle.circuit_text.specs.Columns.{after_spaces}

first_at : (m : ℕ) (bs : List ℕ) (i : ℕ) → i < length bs → eqb (get_or bs i 0) 32 ≡ true → ((k : ℕ) → k < i → eqb (get_or bs k 0) 32 ≡ false) → after_spaces (suc m) bs ≡ suc i + after_spaces m (drop (suc i) bs)
unfolding after_spaces
first_at m [] i l e h = absurd (let b : ⊥ = omega arith in b)
first_at m (b ∷ bs) zero l e h = let q : after_spaces (suc m) (b ∷ bs) ≡ suc (after_spaces m bs) = ap suc (cond-true _ _ _ e) in omega (arith, q)
first_at m (b ∷ bs) (suc i) l e h =
    let q : after_spaces (suc m) (b ∷ bs) ≡ suc (after_spaces (suc m) bs) = ap suc (cond-false _ _ _ (h 0 (omega arith))) in
    omega (arith, q, first_at m bs i (omega arith) e (λ k q. h (suc k) (omega arith)))

none_at : (m : ℕ) (bs : List ℕ) → ((k : ℕ) → k < length bs → eqb (get_or bs k 0) 32 ≡ false) → after_spaces (suc m) bs ≡ length bs
unfolding after_spaces
none_at m [] h = refl
none_at m (b ∷ bs) h = ap suc (cond-false _ _ _ (h 0 (omega arith)) ∙ none_at m bs (λ k q. h (suc k) (omega arith)))

-- what stands up to the first space, or that there is none
pub space_found : (m : ℕ) (bs : List ℕ) (i : ℕ) → Some i ≡ position (λ b. eqb b 32) bs → (i < length bs) × (after_spaces (suc m) bs ≡ i + 1 + after_spaces m (drop (i + 1) bs))
space_found m bs i e =
    let n = position_or_len (λ b. eqb b 32) bs in
    let q : (i ≡ n) × (n < length bs) = grind (arith, nat_tests) in
    let w : i < length bs = omega (arith, q) in
    let f = first_at m bs i w (ap (λ k. eqb (get_or bs k 0) 32) q.0 ∙ passes_at_first (λ b. eqb b 32) bs 0 q.1) (λ k l. fails_before_first (λ b. eqb b 32) bs k 0 (omega (arith, q.0))) in
    (w, omega (arith, f, ap (λ k. after_spaces m (drop k bs)) (add-one i)))

pub no_space : (m : ℕ) (bs : List ℕ) → None ≡ position (λ b. eqb b 32) bs → after_spaces (suc m) bs ≡ length bs
no_space m bs e =
    let n = position_or_len (λ b. eqb b 32) bs in
    let q : length bs ≤ n = grind (arith, nat_tests) in
    none_at m bs (λ k l. fails_before_first (λ b. eqb b 32) bs k 0 (omega (arith, q)))

pub spaces_none : (bs : List ℕ) → after_spaces 0 bs ≡ 0
unfolding after_spaces
spaces_none bs = refl

pub spaces_within : (n : ℕ) (bs : List ℕ) → after_spaces n bs ≤ length bs
unfolding after_spaces
spaces_within zero bs = omega arith
spaces_within (suc n) [] = omega arith
spaces_within (suc n) (b ∷ bs) = elim (eqb b 32) as (λ q. suc (cond q (after_spaces n bs) (after_spaces (suc n) bs)) ≤ suc (length bs)) [ true ↦ omega (arith, spaces_within n bs) | false ↦ omega (arith, spaces_within (suc n) bs) ]
