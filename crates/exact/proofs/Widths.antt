-- The width holds every entry, and no smaller one does.
use Rattle.std.proofs.Common.{◌≡◌, ℕ, zero, suc, ◌+◌, ◌-◌, ◌/◌, ◌^◌, ◌<◌, ◌≤◌, eqb, List, [], ◌∷◌, ℤ, arith, pow_mono}
use lib.Signed.{mag}
use Rattle.std.proofs.lemmas.Bool.{eqb-true, eqb-false, cond_both}
use Rattle.exact.specs.declared.Quadruple.{Quadruple}
use Rattle.exact.proofs.Integers.{range_from, range_to}
use Rattle.exact.specs.States.{bits_within, width_of, width, EntryFits, AllFit}

-- ---- bits of a natural number
bits_enough : (f n : ℕ) → n ≤ f → n < 2 ^ bits_within f n
unfolding bits_within
bits_enough zero n h = omega arith
bits_enough (suc f) n h = cond_both (eqb n 0) zero (suc (bits_within f (n / 2))) (λ b. n < 2 ^ b)
    (λ e. let z = eqb-true n 0 e in omega arith)
    (λ e.
    let z = eqb-false n 0 e in
    let k : n / 2 ≤ f = omega arith in
    let r = bits_enough f (n / 2) k in
    let d : 2 ^ suc (bits_within f (n / 2)) ≡ 2 ^ bits_within f (n / 2) + 2 ^ bits_within f (n / 2) = omega arith in
    omega arith)

bits_least : (f n k : ℕ) → n < 2 ^ k → bits_within f n ≤ k
unfolding bits_within
bits_least zero n k h = omega arith
bits_least (suc f) n zero h = cond_both (eqb n 0) zero (suc (bits_within f (n / 2))) (λ b. b ≤ 0) (λ e. omega arith) (λ e. let z = eqb-false n 0 e in absurd (omega arith))
bits_least (suc f) n (suc k) h = cond_both (eqb n 0) zero (suc (bits_within f (n / 2))) (λ b. b ≤ suc k) (λ e. omega arith)
    (λ e. let d : 2 ^ suc k ≡ 2 ^ k + 2 ^ k = omega arith in let l : n / 2 < 2 ^ k = omega arith in let r = bits_least f (n / 2) k l in omega arith)

-- ---- an entry
pub entry_fits : (z : ℤ) (w : ℕ) → width_of z ≤ w → EntryFits w z
entry_fits z w h =
    let m : 2 ^ bits_within (mag z) (mag z) ≤ 2 ^ (w - 1) = pow_mono (let l : bits_within (mag z) (mag z) ≤ w - 1 = omega arith in l) in
    let b : mag z < 2 ^ bits_within (mag z) (mag z) = bits_enough (mag z) (mag z) (omega arith) in
    let l : mag z < 2 ^ (w - 1) = omega arith in
    let r = range_from z (2 ^ (w - 1)) l in
    record { not_below = r.0; below = r.1 }

pub entry_least : (z : ℤ) (w : ℕ) → 1 ≤ w → EntryFits w z → width_of z ≤ w
entry_least z w h f = let l = bits_least (mag z) (mag z) (w - 1) (range_to z (2 ^ (w - 1)) f.not_below f.below) in omega arith

-- ---- lists
pub at_least_one : (v : List Quadruple) → 1 ≤ width v
unfolding width
at_least_one [] = omega arith
at_least_one (q ∷ v) = let h = at_least_one v in omega arith

pub fits : (v : List Quadruple) (w : ℕ) → width v ≤ w → AllFit w v
unfolding width
fits [] w h = tt
fits (q ∷ v) w h = (
  record {
    a = entry_fits q.a w (omega arith);
    b = entry_fits q.b w (omega arith);
    c = entry_fits q.c w (omega arith);
    d = entry_fits q.d w (omega arith);
  },
  fits v w (omega arith),
)

pub holds : (v : List Quadruple) → AllFit (width v) v
holds v = fits v (width v) (omega arith)

pub least : (v : List Quadruple) (w : ℕ) → 1 ≤ w → AllFit w v → width v ≤ w
unfolding width
least [] w h f = h
least (q ∷ v) w h f =
    let r = least v w h f.1 in
    let a = entry_least q.a w h f.0.a in
    let b = entry_least q.b w h f.0.b in
    let c = entry_least q.c w h f.0.c in
    let d = entry_least q.d w h f.0.d in
    omega arith
