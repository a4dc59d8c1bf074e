-- The nearest whole number, and the share of a weight.
use Rattle.std.proofs.Common.{◌≡◌, ℕ, ◌+◌, ◌*◌, ◌/◌, ◌%◌, ◌^◌, ◌<◌, ◌≤◌, ℤ, pos, negsuc, nat_abs, sym, ap, ◌∙◌, mod-lt, add-mul, div-add-mod', div-mul-le_self, mul_left_comm, arith, pow_pos, pow_mono, w64, SFits, of_z}
use native.Mathlib.Nat.{div-eq_of_lt, div-eq_of_lt-le}
use Rattle.std.proofs.lemmas.Nat.{one_shl, pow_below}
use Rattle.exact.specs.Laws.{Nearest}
use Rattle.exact.specs.Shares.{nearest}

-- ---- rounding
quotient_low : (n m : ℕ) → (n / m) * m ≤ n
quotient_low n m = div-mul-le_self n m

quotient_high : (n m : ℕ) → 0 < m → n < (n / m) * m + m
quotient_high n m h = let e = div-add-mod' n m in let r : n % m < m = mod-lt n h in omega arith

regroup : (s m : ℕ) → s * (2 * m) ≡ 2 * (s * m)
regroup s m = omega (arith, mul_left_comm s 2 m)

pub rounded : (n m : ℕ) → 0 < m → Nearest n m (nearest n m)
unfolding nearest
rounded n m h =
    let e = regroup ((2 * n + m) / (2 * m)) m in
    let l = quotient_low (2 * n + m) (2 * m) in
    let u = quotient_high (2 * n + m) (2 * m) (let p : 0 < 2 * m = omega arith in p) in
    record { not_above = omega arith; not_below = omega arith }

pub only : (n m s : ℕ) → Nearest n m s → s ≡ nearest n m
unfolding nearest
only n m s h =
    let e = regroup s m in
    let f : (s + 1) * (2 * m) ≡ s * (2 * m) + 2 * m = omega (arith, add-mul s 1 (2 * m)) in
    let l : s * (2 * m) ≤ 2 * n + m = omega (arith, h.not_above) in
    let u : 2 * n + m < (s + 1) * (2 * m) = omega (arith, h.not_below) in
    sym (div-eq_of_lt-le (2 * m) l u)

-- less than half is rounded to nothing
nearest_none : (n m : ℕ) → 2 * n < m → nearest n m ≡ 0
unfolding nearest
nearest_none n m h = div-eq_of_lt (omega arith)

pub too_small : (w k : ℕ) → w < 2 ^ 64 → 75 ≤ k → 0 ≡ nearest (1000 * w) (2 ^ k)
too_small w k h l = let p : 2 ^ 75 ≤ 2 ^ k = pow_mono l in sym (nearest_none (1000 * w) (2 ^ k) (omega arith))

-- the code's 2^k, in 128 bits
abbrev pub unit : ℕ → ℕ
unit k = (1 * 2 ^ k) % 2 ^ 128

pub unit_is : (k : ℕ) → k < 75 → unit k ≡ 2 ^ k
unit_is k h = one_shl k 128 (omega arith)

pub record UnitRange (k : ℕ) : Type 0 where
  pub positive : 0 < unit k
  pub small : unit k < 2 ^ 75

pub unit_range : (k : ℕ) → k < 75 → UnitRange k
unit_range k h =
    let e : unit k ≡ 2 ^ k = unit_is k h in
    let l : 2 ^ k < 2 ^ 75 = pow_below k 75 h in
    let p : 0 < 2 ^ k = pow_pos k in
    record { positive = omega arith; small = omega arith }

pub quotient : (w k : ℕ) → k < 75 → (2000 * w + unit k) / (2 * unit k) ≡ nearest (1000 * w) (2 ^ k)
unfolding nearest
quotient w k h =
    let d : 2000 * w ≡ 2 * (1000 * w) = omega arith in
    ap (λ (u : ℕ). (2000 * w + u) / (2 * u)) (unit_is k h) ∙ ap (λ (n : ℕ). (n + 2 ^ k) / (2 * 2 ^ k)) d

-- a signed number is 0 exactly if its bits are
pub zero_from : (z : ℤ) → SFits w64 z → of_z w64 z ≡ 0 → nat_abs z ≡ 0
zero_from (pos n) f e = e
zero_from (negsuc n) f e = let h : n < 2 ^ 63 = f.sfits in absurd (let b : ⊥ = omega arith in b)

pub not_zero : (z : ℤ) → (of_z w64 z ≡ 0 → ⊥) → nat_abs z ≡ 0 → ⊥
not_zero (pos n) h e = h e
not_zero (negsuc n) h e = omega arith
