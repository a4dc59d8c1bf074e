-- Quadruples (a, b, c, d), which stand for aω³ + bω² + cω + d, where ω⁴ = −1, ω² is the imaginary unit and √2 = ω − ω³.
use Rattle.std.specs.Prelude.{ℕ, zero, suc, ◌/◌, ◌%◌, Bool, cond, ◌||◌, ℤ, pos, negsuc, ◌+ℤ◌, ◌-ℤ◌, ◌*ℤ◌, neg_ℤ, Some, None, Option, ◌==◌, unsigned_abs}
use Rattle.exact.specs.declared.Quadruple.{Quadruple}

abbrev pub quadruple : ℤ → ℤ → ℤ → ℤ → Quadruple
quadruple a b c d = record { a = a; b = b; c = c; d = d }

abbrev pub zero_quadruple : Quadruple
zero_quadruple = quadruple (pos 0) (pos 0) (pos 0) (pos 0)

abbrev pub one_quadruple : Quadruple
one_quadruple = quadruple (pos 0) (pos 0) (pos 0) (pos 1)

abbrev pub add : Quadruple → Quadruple → Quadruple
add p q = quadruple (p.a +ℤ q.a) (p.b +ℤ q.b) (p.c +ℤ q.c) (p.d +ℤ q.d)

-- the product, by ω⁴ = −1
abbrev pub multiply : Quadruple → Quadruple → Quadruple
multiply p q = quadruple
    (p.a *ℤ q.d +ℤ p.b *ℤ q.c +ℤ p.c *ℤ q.b +ℤ p.d *ℤ q.a)
    (p.b *ℤ q.d +ℤ p.c *ℤ q.c +ℤ p.d *ℤ q.b -ℤ p.a *ℤ q.a)
    (p.c *ℤ q.d +ℤ p.d *ℤ q.c -ℤ p.a *ℤ q.b -ℤ p.b *ℤ q.a)
    (p.d *ℤ q.d -ℤ p.a *ℤ q.c -ℤ p.b *ℤ q.b -ℤ p.c *ℤ q.a)

-- the complex conjugate, by which ω becomes ω⁷ = −ω³
abbrev pub conjugate : Quadruple → Quadruple
conjugate q = quadruple (neg_ℤ q.c) (neg_ℤ q.b) (neg_ℤ q.a) q.d

-- times ω, once and k times
abbrev pub times_ω : Quadruple → Quadruple
times_ω q = quadruple q.b q.c q.d (neg_ℤ q.a)

abbrev pub times_power_of_ω : ℕ → Quadruple → Quadruple
times_power_of_ω zero q = q
times_power_of_ω (suc k) q = times_ω (times_power_of_ω k q)

-- times √2, once and k times
abbrev pub times-√2 : Quadruple → Quadruple
times-√2 q = quadruple (q.b -ℤ q.d) (q.a +ℤ q.c) (q.b +ℤ q.d) (q.c -ℤ q.a)

unfoldable pub times_power_of_√2 : ℕ → Quadruple → Quadruple
times_power_of_√2 zero q = q
times_power_of_√2 (suc k) q = times-√2 (times_power_of_√2 k q)

-- half of an even integer
abbrev pub half : ℤ → ℤ
half (pos n) = pos (n / 2)
half (negsuc n) = negsuc (n / 2)

abbrev pub odd : ℤ → Bool
odd z = unsigned_abs z % 2 == 1

-- a+c or b+d is odd: the quadruple is not √2 times another
abbrev pub odd_sum : Quadruple → Bool
odd_sum q = odd (q.a +ℤ q.c) || odd (q.b +ℤ q.d)

-- divided by √2, where no sum is odd
abbrev pub over-√2 : Quadruple → Quadruple
over-√2 q = quadruple (half (q.b -ℤ q.d)) (half (q.a +ℤ q.c)) (half (q.b +ℤ q.d)) (half (q.c -ℤ q.a))

-- the division by √2, and half of a sum, where they are whole
abbrev pub division : Quadruple → Option Quadruple
division q = cond (odd_sum q) None (Some (over-√2 q))

abbrev pub half_sum : ℤ → ℤ → Option ℤ
half_sum x y = cond (odd (x +ℤ y)) None (Some (half (x +ℤ y)))
