-- Quadruples of polynomial expressions: the formulas of quadruples, written over `Expr`, for the normaliser.
use Rattle.std.proofs.Common.{◌≡◌, ℕ, ◌+◌, List, [], ◌∷◌, ℤ, pos, negsuc, ◌+ℤ◌, ◌*ℤ◌, sym, refl}
use Rattle.exact.specs.declared.Quadruple.{Quadruple}
use Rattle.exact.specs.Quadruples.{quadruple, zero_quadruple, one_quadruple, add, multiply, times_ω, times-√2}
use Rattle.exact.specs.Squares.{squared, square}
use Rattle.exact.proofs.Ring.{Expr, var, num, plus, times, minus, eval, normal, solve}

pub quadruple_path : {p q : Quadruple} → p.a ≡ q.a → p.b ≡ q.b → p.c ≡ q.c → p.d ≡ q.d → p ≡ q
quadruple_path e f g h i = quadruple (e i) (f i) (g i) (h i)

pub record QuadrupleExpr : Type 0 where
  pub a : Expr
  pub b : Expr
  pub c : Expr
  pub d : Expr

abbrev pub four : Expr → Expr → Expr → Expr → QuadrupleExpr
four a b c d = record { a = a; b = b; c = c; d = d }

-- the quadruple whose parts are the variables from i on
abbrev pub vars : ℕ → QuadrupleExpr
vars i = four (var i) (var (i + 1)) (var (i + 2)) (var (i + 3))

abbrev pub numbers : Quadruple → QuadrupleExpr
numbers q = four (num q.a) (num q.b) (num q.c) (num q.d)

abbrev pub sub : Expr → Expr → Expr
sub e f = plus e (minus f)

abbrev pub add_expr : QuadrupleExpr → QuadrupleExpr → QuadrupleExpr
add_expr p q = four (plus p.a q.a) (plus p.b q.b) (plus p.c q.c) (plus p.d q.d)

abbrev pub multiply_expr : QuadrupleExpr → QuadrupleExpr → QuadrupleExpr
multiply_expr p q = four
    (plus (plus (plus (times p.a q.d) (times p.b q.c)) (times p.c q.b)) (times p.d q.a))
    (sub (plus (plus (times p.b q.d) (times p.c q.c)) (times p.d q.b)) (times p.a q.a))
    (sub (sub (plus (times p.c q.d) (times p.d q.c)) (times p.a q.b)) (times p.b q.a))
    (sub (sub (sub (times p.d q.d) (times p.a q.c)) (times p.b q.b)) (times p.c q.a))

abbrev pub conjugate_expr : QuadrupleExpr → QuadrupleExpr
conjugate_expr q = four (minus q.c) (minus q.b) (minus q.a) q.d

abbrev pub times_ω_expr : QuadrupleExpr → QuadrupleExpr
times_ω_expr q = four q.b q.c q.d (minus q.a)

abbrev pub times_√2_expr : QuadrupleExpr → QuadrupleExpr
times_√2_expr q = four (sub q.b q.d) (plus q.a q.c) (plus q.b q.d) (sub q.c q.a)

abbrev pub whole_expr : QuadrupleExpr → Expr
whole_expr q = plus (plus (plus (times q.a q.a) (times q.b q.b)) (times q.c q.c)) (times q.d q.d)

abbrev pub root_expr : QuadrupleExpr → Expr
root_expr q = sub (plus (plus (times q.a q.b) (times q.b q.c)) (times q.c q.d)) (times q.a q.d)

-- ---- values
unfoldable pub eval_quadruple : List ℤ → QuadrupleExpr → Quadruple
eval_quadruple ρ e = quadruple (eval ρ e.a) (eval ρ e.b) (eval ρ e.c) (eval ρ e.d)

abbrev pub parts : List Quadruple → List ℤ
parts [] = []
parts (q ∷ v) = q.a ∷ (q.b ∷ (q.c ∷ (q.d ∷ parts v)))

pub solve_quadruple : (v : List Quadruple) (e f : QuadrupleExpr) → normal e.a ≡ normal f.a → normal e.b ≡ normal f.b → normal e.c ≡ normal f.c → normal e.d ≡ normal f.d
    → eval_quadruple (parts v) e ≡ eval_quadruple (parts v) f
unfolding eval_quadruple
solve_quadruple v e f h i j k = let ρ : List ℤ = parts v in quadruple_path (solve ρ e.a f.a h) (solve ρ e.b f.b i) (solve ρ e.c f.c j) (solve ρ e.d f.d k)

-- the square of an integer, as a natural number and as a product
pub squared_is : (z : ℤ) → pos (squared z) ≡ z *ℤ z
squared_is (pos n) = refl
squared_is (negsuc n) = refl

pub whole_is : (ρ : List ℤ) (e : QuadrupleExpr) → eval ρ (whole_expr e) ≡ pos (square (eval_quadruple ρ e)).whole
unfolding eval eval_quadruple
whole_is ρ e =
    let p : Quadruple = eval_quadruple ρ e in
    sym (λ i. squared_is p.a i +ℤ squared_is p.b i +ℤ squared_is p.c i +ℤ squared_is p.d i)

pub root_is : (ρ : List ℤ) (e : QuadrupleExpr) → eval ρ (root_expr e) ≡ (square (eval_quadruple ρ e)).root
unfolding eval eval_quadruple
root_is ρ e = refl

-- ---- the ring of quadruples
pub commutes : (p q : Quadruple) → multiply p q ≡ multiply q p
unfolding eval eval_quadruple normal
commutes p q = solve_quadruple (p ∷ (q ∷ [])) (multiply_expr (vars 0) (vars 4)) (multiply_expr (vars 4) (vars 0)) refl refl refl refl

pub associates : (p q r : Quadruple) → multiply (multiply p q) r ≡ multiply p (multiply q r)
unfolding eval eval_quadruple normal
associates p q r = solve_quadruple (p ∷ (q ∷ (r ∷ []))) (multiply_expr (multiply_expr (vars 0) (vars 4)) (vars 8)) (multiply_expr (vars 0) (multiply_expr (vars 4) (vars 8))) refl refl refl refl

pub distributes : (p q r : Quadruple) → multiply p (add q r) ≡ add (multiply p q) (multiply p r)
unfolding eval eval_quadruple normal
distributes p q r = solve_quadruple (p ∷ (q ∷ (r ∷ []))) (multiply_expr (vars 0) (add_expr (vars 4) (vars 8))) (add_expr (multiply_expr (vars 0) (vars 4)) (multiply_expr (vars 0) (vars 8))) refl refl refl refl

pub one_times : (q : Quadruple) → multiply one_quadruple q ≡ q
unfolding eval eval_quadruple normal
one_times q = solve_quadruple (q ∷ []) (multiply_expr (numbers one_quadruple) (vars 0)) (vars 0) refl refl refl refl

pub zero_times : (q : Quadruple) → multiply zero_quadruple q ≡ zero_quadruple
unfolding eval eval_quadruple normal
zero_times q = solve_quadruple (q ∷ []) (multiply_expr (numbers zero_quadruple) (vars 0)) (numbers zero_quadruple) refl refl refl refl

-- ω and √2 can be taken out of the first factor
pub ω_times : (p q : Quadruple) → multiply (times_ω p) q ≡ times_ω (multiply p q)
unfolding eval eval_quadruple normal
ω_times p q = solve_quadruple (p ∷ (q ∷ [])) (multiply_expr (times_ω_expr (vars 0)) (vars 4)) (times_ω_expr (multiply_expr (vars 0) (vars 4))) refl refl refl refl

pub √2_times : (p q : Quadruple) → multiply (times-√2 p) q ≡ times-√2 (multiply p q)
unfolding eval eval_quadruple normal
√2_times p q = solve_quadruple (p ∷ (q ∷ [])) (multiply_expr (times_√2_expr (vars 0)) (vars 4)) (times_√2_expr (multiply_expr (vars 0) (vars 4))) refl refl refl refl

-- √2 is additive, and commutes with ω
pub √2_add : (p q : Quadruple) → times-√2 (add p q) ≡ add (times-√2 p) (times-√2 q)
unfolding eval eval_quadruple normal
√2_add p q = solve_quadruple (p ∷ (q ∷ [])) (times_√2_expr (add_expr (vars 0) (vars 4))) (add_expr (times_√2_expr (vars 0)) (times_√2_expr (vars 4))) refl refl refl refl

pub √2_ω : (q : Quadruple) → times_ω (times-√2 q) ≡ times-√2 (times_ω q)
unfolding eval eval_quadruple normal
√2_ω q = solve_quadruple (q ∷ []) (times_ω_expr (times_√2_expr (vars 0))) (times_√2_expr (times_ω_expr (vars 0))) refl refl refl refl

pub twice_doubles : (q : Quadruple) → times-√2 (times-√2 q) ≡ add q q
unfolding eval eval_quadruple normal
twice_doubles q = solve_quadruple (q ∷ []) (times_√2_expr (times_√2_expr (vars 0))) (add_expr (vars 0) (vars 0)) refl refl refl refl
