-- Halves of sums of signed 32-bit numbers, computed in 64 bits.
use Rattle.std.proofs.Common.{◌≡◌, ℕ, suc, ◌-◌, ◌/◌, ◌%◌, ◌^◌, ◌<◌, Bool, true, false, cond, ℤ, pos, negsuc, ◌+ℤ◌, ◌-ℤ◌, neg_ℤ, Some, None, sym, refl, ap, ◌∙◌, ap₂, arith, w32, w64, SFits, to_z, of_z}
use lib.IntN.{+ℤ_comm}
use lib.Signed.{mag, quot_z, rem_z}
use borrow.Author.Differences.{ints}
use Rattle.std.proofs.lemmas.Int.{to_z-of_z}
use Rattle.std.proofs.lemmas.Bool.{eqb-false, ne_eqb, or_from}
use Rattle.exact.specs.declared.Quadruple.{Quadruple}
use Rattle.exact.specs.Quadruples.{quadruple, half, odd, over-√2, division, half_sum}
use Rattle.exact.proofs.Integers.{range_from, range_to}
use Rattle.exact.proofs.Expressions.{quadruple_path}
use Rattle.exact.proofs.Division.{halves}

-- ---- the code's sum, quotient and remainder
abbrev wide : ℤ → ℤ
wide x = to_z w64 (of_z w64 (to_z w32 (of_z w32 x)))

abbrev pub wide_sum : ℤ → ℤ → ℤ
wide_sum x y = to_z w64 (of_z w64 (wide x +ℤ wide y))

wide_sum_is : (x y : ℤ) → SFits w32 x → SFits w32 y → wide_sum x y ≡ x +ℤ y
wide_sum_is x y f g = omega (arith, ints)

sum_small : (x y : ℤ) → SFits w32 x → SFits w32 y → mag (x +ℤ y) < 2 ^ 32
sum_small x y f g =
    let a = range_from x (2 ^ 31) f.sfits in
    let b = range_from y (2 ^ 31) g.sfits in
    range_to (x +ℤ y) (2 ^ 32) (omega (arith, ints)) (omega (arith, ints))

rest_even : (s : ℤ) → of_z w64 (rem_z s (pos 2)) ≡ 0 → odd s ≡ false
rest_even (pos n) e = ne_eqb (n % 2) 1 (λ h. omega arith)
rest_even (negsuc n) e = ne_eqb (suc n % 2) 1 (λ h. go (suc n % 2) h e)
  where
    go : (m : ℕ) → m ≡ 1 → of_z w64 (neg_ℤ (pos m)) ≡ 0 → ⊥
    go m h e = let f : 2 ^ 64 - 1 ≡ 0 = ap (λ (k : ℕ). of_z w64 (neg_ℤ (pos k))) (sym h) ∙ e in omega arith

quotient_half : (s : ℤ) → odd s ≡ false → quot_z s (pos 2) ≡ half s
quotient_half (pos n) e = refl
quotient_half (negsuc n) e = ap (λ (m : ℕ). neg_ℤ (pos m)) (go n (eqb-false (suc n % 2) 1 e))
  where
    go : (n : ℕ) → (suc n % 2 ≡ 1 → ⊥) → suc n / 2 ≡ suc (n / 2)
    go n f = omega arith

half_small : (s : ℤ) → mag s < 2 ^ 32 → SFits w32 (half s)
half_small (pos n) h = record { sfits = omega arith }
half_small (negsuc n) h = record { sfits = omega arith }

narrow : (z : ℤ) → SFits w32 z → to_z w32 (of_z w32 (to_z w64 (of_z w64 z))) ≡ z
narrow z f = omega (arith, ints)

pub even_sum : (x y : ℤ) → SFits w32 x → SFits w32 y → of_z w64 (rem_z (wide_sum x y) (pos 2)) ≡ 0
    → Some (to_z w32 (of_z w32 (to_z w64 (of_z w64 (quot_z (wide_sum x y) (pos 2)))))) ≡ half_sum x y
even_sum x y f g e =
    let s : wide_sum x y ≡ x +ℤ y = wide_sum_is x y f g in
    let o : odd (x +ℤ y) ≡ false = rest_even (x +ℤ y) (ap (λ (t : ℤ). of_z w64 (rem_z t (pos 2))) (sym s) ∙ e) in
    ap (λ (t : ℤ). Some (to_z w32 (of_z w32 (to_z w64 (of_z w64 t))))) (ap (λ (t : ℤ). quot_z t (pos 2)) s ∙ quotient_half (x +ℤ y) o)
    ∙ ap (λ (t : ℤ). Some t) (narrow (half (x +ℤ y)) (half_small (x +ℤ y) (sum_small x y f g)))
    ∙ ap (λ (b : Bool). cond b None (Some (half (x +ℤ y)))) (sym o)

-- ---- what an answer says
record Even (x y h : ℤ) : Type 0 where
  even : odd (x +ℤ y) ≡ false
  halved : h ≡ half (x +ℤ y)

was_even : (x y h : ℤ) → Some h ≡ half_sum x y → Even x y h
was_even x y h e = go (odd (x +ℤ y)) refl e
  where
    go : (b : Bool) → odd (x +ℤ y) ≡ b → Some h ≡ cond b None (Some (half (x +ℤ y))) → Even x y h
    go true o e = absurd (let z : ◌≡◌ {A = ℕ} 0 1 = cc in let b : ⊥ = omega arith in b)
    go false o e = record { even = o; halved = cc }

double_of : (x y h : ℤ) → Even x y h → h +ℤ h ≡ x +ℤ y
double_of x y h e = ap (λ (z : ℤ). z +ℤ z) e.halved ∙ (halves x y e.even).sum

-- (x − y)/2 is (x + y)/2 − y, and (y − x)/2 is (x + y)/2 − x
lower_half : (x y h : ℤ) → Even x y h → h -ℤ y ≡ half (x -ℤ y)
lower_half x y h e = go x y h (half (x -ℤ y)) (double_of x y h e) (halves x y e.even).down
  where
    go : (x y h k : ℤ) → h +ℤ h ≡ x +ℤ y → k +ℤ k ≡ x -ℤ y → h -ℤ y ≡ k
    go x y h k e f = omega (arith, ints)

upper_half : (x y h : ℤ) → Even x y h → h -ℤ x ≡ half (y -ℤ x)
upper_half x y h e = go x y h (half (y -ℤ x)) (double_of x y h e) (halves x y e.even).up
  where
    go : (x y h k : ℤ) → h +ℤ h ≡ x +ℤ y → k +ℤ k ≡ y -ℤ x → h -ℤ x ≡ k
    go x y h k e f = omega (arith, ints)

-- and it fits 32 bits where x and y do
within : (x y h : ℤ) → SFits w32 x → SFits w32 y → h +ℤ h ≡ x +ℤ y → SFits w32 (h -ℤ y)
within x y h f g e =
    let a = range_from x (2 ^ 31) f.sfits in
    let b = range_from y (2 ^ 31) g.sfits in
    record { sfits = range_to (h -ℤ y) (2 ^ 31) (omega (arith, ints)) (omega (arith, ints)) }

-- ---- the division of a quadruple, whose parts went through their bits
abbrev pub passed : ℤ → ℤ
passed z = to_z w32 (of_z w32 z)

even : (x y h : ℤ) → SFits w32 x → SFits w32 y → Some h ≡ half_sum (passed x) (passed y) → Even x y h
even x y h f g e = was_even x y h (e ∙ ap₂ half_sum (to_z-of_z w32 x f) (to_z-of_z w32 y g))

difference_is : (h y : ℤ) → SFits w32 h → SFits w32 y → SFits w32 (h -ℤ y) → passed (passed h -ℤ passed y) ≡ h -ℤ y
difference_is h y f g k = ap passed (ap₂ (λ (s t : ℤ). s -ℤ t) (to_z-of_z w32 h f) (to_z-of_z w32 y g)) ∙ to_z-of_z w32 (h -ℤ y) k

module _ (x y h : ℤ) (f : SFits w32 x) (g : SFits w32 y) (k : SFits w32 h) (e : Some h ≡ half_sum (passed x) (passed y)) where
  lower_is : passed (passed h -ℤ passed y) ≡ half (x -ℤ y)
  lower_is = difference_is h y k g (within x y h f g (double_of x y h (even x y h f g e))) ∙ lower_half x y h (even x y h f g e)

  upper_is : passed (passed h -ℤ passed x) ≡ half (y -ℤ x)
  upper_is = difference_is h x k f (within y x h g f (double_of x y h (even x y h f g e) ∙ +ℤ_comm x y)) ∙ upper_half x y h (even x y h f g e)

  half_is : passed h ≡ half (x +ℤ y)
  half_is = to_z-of_z w32 h k ∙ (even x y h f g e).halved

  sum_even : odd (x +ℤ y) ≡ false
  sum_even = (even x y h f g e).even

pub record AllFour (q : Quadruple) : Type 0 where
  pub a : SFits w32 q.a
  pub b : SFits w32 q.b
  pub c : SFits w32 q.c
  pub d : SFits w32 q.d

pub both_even : (q : Quadruple) (ac bd : ℤ) → AllFour q → SFits w32 ac → SFits w32 bd → Some ac ≡ half_sum (passed q.a) (passed q.c) → Some bd ≡ half_sum (passed q.b) (passed q.d)
    → Some (quadruple (passed (passed bd -ℤ passed q.d)) (passed ac) (passed bd) (passed (passed ac -ℤ passed q.a))) ≡ division q
both_even q ac bd f k l e h =
    ap (λ (p : Quadruple). Some p) (quadruple_path (lower_is q.b q.d bd f.b f.d l h) (half_is q.a q.c ac f.a f.c k e) (half_is q.b q.d bd f.b f.d l h) (upper_is q.a q.c ac f.a f.c k e))
    ∙ ap (λ (b : Bool). cond b None (Some (over-√2 q))) (sym (or_from (odd (q.a +ℤ q.c)) (odd (q.b +ℤ q.d)) (sum_even q.a q.c ac f.a f.c k e) (sum_even q.b q.d bd f.b f.d l h)))
