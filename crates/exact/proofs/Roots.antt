-- Times √2, and the same amplitude.
use Rattle.std.proofs.Common.{◌≡◌, ℕ, zero, suc, ◌+◌, ◌-◌, ◌≤◌, List, [], ◌∷◌, ℤ, pos, ◌+ℤ◌, ◌-ℤ◌, neg_ℤ, nat_abs, sym, refl, ap, ◌∙◌, ap₂, arith}
use borrow.Author.Differences.{ints}
use Rattle.exact.specs.declared.Amplitude.{Amplitude}
use Rattle.exact.specs.declared.Quadruple.{Quadruple}
use Rattle.exact.specs.Quadruples.{quadruple, one_quadruple, multiply, conjugate, times_ω, times-√2, times_power_of_√2}
use Rattle.exact.specs.States.{amplitude, SameAmplitude}
use Rattle.exact.specs.Squares.{Square, square, square_quadruple, add_squares}
use Rattle.exact.proofs.Ring.{num, plus, minus, eval, normal, solve}
use Rattle.exact.proofs.Expressions.{quadruple_path, four, vars, multiply_expr, conjugate_expr, whole_expr, root_expr, times_√2_expr, parts, eval_quadruple, solve_quadruple, whole_is, one_times, ω_times, √2_times}

pub by_ω : (q : Quadruple) → times_ω q ≡ multiply (times_ω one_quadruple) q
by_ω q = sym (ω_times one_quadruple q ∙ ap times_ω (one_times q))

pub by-√2 : (q : Quadruple) → times-√2 q ≡ multiply (times-√2 one_quadruple) q
by-√2 q = sym (√2_times one_quadruple q ∙ ap times-√2 (one_times q))

-- two integers are known by their sum and difference
first_of : (x y z t : ℤ) → x -ℤ y ≡ z -ℤ t → x +ℤ y ≡ z +ℤ t → x ≡ z
first_of x y z t e f = omega (arith, ints)

second_of : (x y z t : ℤ) → x -ℤ y ≡ z -ℤ t → x +ℤ y ≡ z +ℤ t → y ≡ t
second_of x y z t e f = omega (arith, ints)

swapped : (x y z t : ℤ) → x +ℤ y ≡ z +ℤ t → y +ℤ x ≡ t +ℤ z
swapped x y z t e = omega (arith, ints)

pub injective : (p q : Quadruple) → times-√2 p ≡ times-√2 q → p ≡ q
injective p q e =
    let bd : p.b -ℤ p.d ≡ q.b -ℤ q.d = ap (λ (x : Quadruple). x.a) e in
    let ac : p.c +ℤ p.a ≡ q.c +ℤ q.a = swapped p.a p.c q.a q.c (ap (λ (x : Quadruple). x.b) e) in
    let db : p.b +ℤ p.d ≡ q.b +ℤ q.d = ap (λ (x : Quadruple). x.c) e in
    let ca : p.c -ℤ p.a ≡ q.c -ℤ q.a = ap (λ (x : Quadruple). x.d) e in
    quadruple_path
    (second_of p.c p.a q.c q.a ca ac) (first_of p.b p.d q.b q.d bd db)
    (first_of p.c p.a q.c q.a ca ac) (second_of p.b p.d q.b q.d bd db)

pub square_path : {s t : Square} → s.whole ≡ t.whole → s.root ≡ t.root → s ≡ t
square_path e f i = record { whole = e i; root = f i }

pub doubles_square : (q : Quadruple) → square (times-√2 q) ≡ add_squares (square q) (square q)
unfolding eval eval_quadruple normal
doubles_square q =
    let ρ : List ℤ = parts (q ∷ []) in
    square_path
    (ap nat_abs (sym (whole_is ρ (times_√2_expr (vars 0))) ∙ solve ρ (whole_expr (times_√2_expr (vars 0))) (plus (whole_expr (vars 0)) (whole_expr (vars 0))) refl ∙ ap₂ (λ (x y : ℤ). x +ℤ y) (whole_is ρ (vars 0)) (whole_is ρ (vars 0))))
    (solve ρ (root_expr (times_√2_expr (vars 0))) (plus (root_expr (vars 0)) (root_expr (vars 0))) refl)

-- a number times its conjugate
pub of_modulus : (q : Quadruple) → multiply q (conjugate q) ≡ square_quadruple (square q)
unfolding eval eval_quadruple normal
of_modulus q =
    let ρ : List ℤ = parts (q ∷ []) in
    solve_quadruple (q ∷ []) (multiply_expr (vars 0) (conjugate_expr (vars 0))) (four (minus (root_expr (vars 0))) (num (pos 0)) (root_expr (vars 0)) (whole_expr (vars 0))) refl refl refl refl
    ∙ ap (λ (w : ℤ). quadruple (neg_ℤ (square q).root) (pos 0) (square q).root w) (whole_is ρ (vars 0))

-- ---- several times √2
pub powers_injective : (n : ℕ) (p q : Quadruple) → times_power_of_√2 n p ≡ times_power_of_√2 n q → p ≡ q
unfolding times_power_of_√2
powers_injective zero p q e = e
powers_injective (suc n) p q e = powers_injective n p q (injective (times_power_of_√2 n p) (times_power_of_√2 n q) e)

pub powers_add : (m n : ℕ) (q : Quadruple) → times_power_of_√2 m (times_power_of_√2 n q) ≡ times_power_of_√2 (m + n) q
unfolding times_power_of_√2
powers_add zero n q = let e : n ≡ 0 + n = omega arith in ap (λ (k : ℕ). times_power_of_√2 k q) e
powers_add (suc m) n q = ap times-√2 (powers_add m n q) ∙ ap (λ (k : ℕ). times_power_of_√2 k q) e
  where
    e : suc (m + n) ≡ suc m + n
    e = omega arith

-- ---- the same amplitude: equal quadruples at any common power
module _ (x y : Amplitude) (n : ℕ) (hx : x.power.0 ≤ n) (hy : y.power.0 ≤ n) where
  more : ℕ
  more = (n - x.power.0) - (y.power.0 - x.power.0)

  first_more : n - x.power.0 ≡ more + (y.power.0 - x.power.0)
  unfolding more
  first_more = omega arith

  second_more : more + (x.power.0 - y.power.0) ≡ n - y.power.0
  unfolding more
  second_more = omega arith

  pub raised : SameAmplitude x y → times_power_of_√2 (n - x.power.0) x.quadruple ≡ times_power_of_√2 (n - y.power.0) y.quadruple
  unfolding SameAmplitude
  raised e =
      ap (λ (m : ℕ). times_power_of_√2 m x.quadruple) first_more
      ∙ sym (powers_add more (y.power.0 - x.power.0) x.quadruple)
      ∙ ap (times_power_of_√2 more) e
      ∙ powers_add more (x.power.0 - y.power.0) y.quadruple
      ∙ ap (λ (m : ℕ). times_power_of_√2 m y.quadruple) second_more

  pub lowered : times_power_of_√2 (n - x.power.0) x.quadruple ≡ times_power_of_√2 (n - y.power.0) y.quadruple → SameAmplitude x y
  unfolding SameAmplitude
  lowered e =
      powers_injective more (times_power_of_√2 (y.power.0 - x.power.0) x.quadruple) (times_power_of_√2 (x.power.0 - y.power.0) y.quadruple)
      (powers_add more (y.power.0 - x.power.0) x.quadruple
      ∙ ap (λ (m : ℕ). times_power_of_√2 m x.quadruple) (sym first_more)
      ∙ e
      ∙ ap (λ (m : ℕ). times_power_of_√2 m y.quadruple) (sym second_more)
      ∙ sym (powers_add more (x.power.0 - y.power.0) y.quadruple))

pub reflexive : (x : Amplitude) → SameAmplitude x x
unfolding SameAmplitude
reflexive x = refl

pub symmetric : (x y : Amplitude) → SameAmplitude x y → SameAmplitude y x
unfolding SameAmplitude
symmetric x y e = sym e

pub transitive : (x y z : Amplitude) → SameAmplitude x y → SameAmplitude y z → SameAmplitude x z
transitive x y z e f =
    let n : ℕ = x.power.0 + y.power.0 + z.power.0 in
    lowered x z n (omega arith) (omega arith) (raised x y n (omega arith) (omega arith) e ∙ raised y z n (omega arith) (omega arith) f)

-- crosswise: each quadruple times √2 as often as the other's power
pub crossed : (p q : Quadruple) (j k : ℕ) → SameAmplitude (amplitude p j) (amplitude q k) → times_power_of_√2 k p ≡ times_power_of_√2 j q
crossed p q j k e = ap (λ (m : ℕ). times_power_of_√2 m p) (sym x) ∙ raised (amplitude p j) (amplitude q k) (j + k) (omega arith) (omega arith) e ∙ ap (λ (m : ℕ). times_power_of_√2 m q) y
  where
    x : (j + k) - j ≡ k
    x = omega arith

    y : (j + k) - k ≡ j
    y = omega arith

pub uncrossed : (p q : Quadruple) (e j k : ℕ) → times_power_of_√2 k p ≡ times_power_of_√2 j q → SameAmplitude (amplitude p (e + j)) (amplitude q (e + k))
uncrossed p q e j k h = lowered (amplitude p (e + j)) (amplitude q (e + k)) (e + j + k) (omega arith) (omega arith) (ap (λ (m : ℕ). times_power_of_√2 m p) x ∙ h ∙ ap (λ (m : ℕ). times_power_of_√2 m q) (sym y))
  where
    x : (e + j + k) - (e + j) ≡ k
    x = omega arith

    y : (e + j + k) - (e + k) ≡ j
    y = omega arith
