-- Dividing a quadruple by √2.
use Rattle.std.proofs.Common.{◌≡◌, ℕ, suc, ◌+◌, ◌/◌, ◌%◌, false, ℤ, pos, negsuc, ◌+ℤ◌, ◌-ℤ◌, nat_abs, ap, ◌∙◌, arith}
use borrow.Author.Differences.{ints}
use Rattle.std.proofs.lemmas.Bool.{eqb-false, ne_eqb, or_parts, or_from}
use Rattle.exact.specs.declared.Quadruple.{Quadruple}
use Rattle.exact.specs.Quadruples.{times-√2, half, odd, odd_sum, over-√2}
use Rattle.exact.proofs.Expressions.{quadruple_path}

half_of : (z : ℤ) → odd z ≡ false → half z +ℤ half z ≡ z
half_of (pos n) e = let f = eqb-false (n % 2) 1 e in ap pos (go n f)
  where
    go : (n : ℕ) → (n % 2 ≡ 1 → ⊥) → n / 2 + n / 2 ≡ n
    go n f = omega arith
half_of (negsuc n) e = let f = eqb-false (suc n % 2) 1 e in ap negsuc (go n f)
  where
    go : (n : ℕ) → (suc n % 2 ≡ 1 → ⊥) → suc (n / 2 + n / 2) ≡ n
    go n f = omega arith

double_abs : (y : ℤ) → nat_abs (y +ℤ y) % 2 ≡ 0
double_abs (pos n) = omega arith
double_abs (negsuc n) = omega arith

pub even_from : (z y : ℤ) → z ≡ y +ℤ y → odd z ≡ false
even_from z y e = ne_eqb (nat_abs z % 2) 1 (go (nat_abs z % 2) (ap (λ (t : ℤ). nat_abs t % 2) e ∙ double_abs y))
  where
    go : (m : ℕ) → m ≡ 0 → m ≡ 1 → ⊥
    go m p q = omega arith

pub no_odd_sum : (q : Quadruple) → odd_sum (times-√2 q) ≡ false
no_odd_sum q = or_from (odd ((q.b -ℤ q.d) +ℤ (q.b +ℤ q.d))) (odd ((q.a +ℤ q.c) +ℤ (q.c -ℤ q.a)))
    (even_from ((q.b -ℤ q.d) +ℤ (q.b +ℤ q.d)) q.b (e₁ q.b q.d))
    (even_from ((q.a +ℤ q.c) +ℤ (q.c -ℤ q.a)) q.c (e₂ q.a q.c))
  where
    e₁ : (x y : ℤ) → (x -ℤ y) +ℤ (x +ℤ y) ≡ x +ℤ x
    e₁ x y = omega (arith, ints)

    e₂ : (x y : ℤ) → (x +ℤ y) +ℤ (y -ℤ x) ≡ y +ℤ y
    e₂ x y = omega (arith, ints)

-- of two integers with an even sum, the halves of the sum and of both differences
pub record Halves (x y : ℤ) : Type 0 where
  pub sum : half (x +ℤ y) +ℤ half (x +ℤ y) ≡ x +ℤ y
  pub up : half (y -ℤ x) +ℤ half (y -ℤ x) ≡ y -ℤ x
  pub down : half (x -ℤ y) +ℤ half (x -ℤ y) ≡ x -ℤ y

pub halves : (x y : ℤ) → odd (x +ℤ y) ≡ false → Halves x y
halves x y e =
    let s : half (x +ℤ y) +ℤ half (x +ℤ y) ≡ x +ℤ y = half_of (x +ℤ y) e in
    record {
      sum = s;
      up = half_of (y -ℤ x) (even_from (y -ℤ x) (half (x +ℤ y) -ℤ x) (f (half (x +ℤ y)) x y s));
      down = half_of (x -ℤ y) (even_from (x -ℤ y) (half (x +ℤ y) -ℤ y) (g (half (x +ℤ y)) x y s));
    }
  where
    f : (h x y : ℤ) → h +ℤ h ≡ x +ℤ y → y -ℤ x ≡ (h -ℤ x) +ℤ (h -ℤ x)
    f h x y s = omega (arith, ints)

    g : (h x y : ℤ) → h +ℤ h ≡ x +ℤ y → x -ℤ y ≡ (h -ℤ y) +ℤ (h -ℤ y)
    g h x y s = omega (arith, ints)

-- √2 times the division gives back the quadruple
pub divided : (q : Quadruple) → odd_sum q ≡ false → times-√2 (over-√2 q) ≡ q
divided q e =
    let p = or_parts (odd (q.a +ℤ q.c)) (odd (q.b +ℤ q.d)) e in
    let x = halves q.a q.c p.0 in
    let y = halves q.b q.d p.1 in
    quadruple_path
    (e₁ (half (q.a +ℤ q.c)) (half (q.c -ℤ q.a)) q.a q.c x.sum x.up)
    (e₂ (half (q.b -ℤ q.d)) (half (q.b +ℤ q.d)) q.b q.d y.down y.sum)
    (e₃ (half (q.a +ℤ q.c)) (half (q.c -ℤ q.a)) q.a q.c x.sum x.up)
    (e₄ (half (q.b +ℤ q.d)) (half (q.b -ℤ q.d)) q.b q.d y.sum y.down)
  where
    e₁ : (s t x y : ℤ) → s +ℤ s ≡ x +ℤ y → t +ℤ t ≡ y -ℤ x → s -ℤ t ≡ x
    e₁ s t x y f g = omega (arith, ints)

    e₂ : (s t x y : ℤ) → s +ℤ s ≡ x -ℤ y → t +ℤ t ≡ x +ℤ y → s +ℤ t ≡ x
    e₂ s t x y f g = omega (arith, ints)

    e₃ : (s t x y : ℤ) → s +ℤ s ≡ x +ℤ y → t +ℤ t ≡ y -ℤ x → s +ℤ t ≡ y
    e₃ s t x y f g = omega (arith, ints)

    e₄ : (s t x y : ℤ) → s +ℤ s ≡ x +ℤ y → t +ℤ t ≡ x -ℤ y → s -ℤ t ≡ y
    e₄ s t x y f g = omega (arith, ints)
