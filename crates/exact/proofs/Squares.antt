-- Sums of squares over sets of indices.
use Rattle.std.proofs.Common.{◌≡◌, ℕ, ◌+◌, Bool, true, false, cond, not, List, map, sym, refl, ap, ◌∙◌, arith}
use mathlib.Core.Bool.{beq}
use lib.ListN.{get_or-map}
use lib.IntN.{+ℤ_idl, +ℤ_assoc, +ℤ_comm}
use Rattle.exact.specs.declared.Quadruple.{Quadruple}
use Rattle.exact.specs.Indices.{Index, number, bit, total, at_index}
use Rattle.exact.specs.Quadruples.{zero_quadruple, times-√2, over-√2}
use Rattle.exact.specs.States.{some_odd_sum}
use Rattle.exact.specs.Squares.{Square, square, no_square, add_squares, quadruple_at, square_if, sum_of_squares, everywhere, elsewhere, outcome}
use Rattle.exact.proofs.Sums.{Adds, total_same, total_add}
use Rattle.exact.proofs.Roots.{square_path, doubles_square}
use Rattle.exact.proofs.Division.{divided}
use Rattle.exact.proofs.NormalForms.{odd_at}

plus_comm : (m n : ℕ) → m + n ≡ n + m
plus_comm m n = omega arith

plus_assoc : (l m n : ℕ) → (l + m) + n ≡ l + (m + n)
plus_assoc l m n = omega arith

none_plus : (n : ℕ) → 0 + n ≡ n
none_plus n = omega arith

pub squares : Adds add_squares no_square
squares = record {
  comm = λ s t. square_path (plus_comm s.whole t.whole) (+ℤ_comm s.root t.root);
  assoc = λ s t u. square_path (plus_assoc s.whole t.whole u.whole) (+ℤ_assoc s.root t.root u.root);
  idl = λ s. square_path (none_plus s.whole) (+ℤ_idl s.root);
}

right_none : (s : Square) → add_squares s no_square ≡ s
right_none s = squares.comm s no_square ∙ squares.idl s

-- sums over two sets add up to the sum over a third, if they do at every index
added : (n : ℕ) (f g h : Index → Square) → ((x : Index) → add_squares (f x) (g x) ≡ h x) → add_squares (total add_squares n f) (total add_squares n g) ≡ total add_squares n h
added n f g h e = sym (total_add add_squares no_square squares n f g) ∙ total_same add_squares n (λ x. add_squares (f x) (g x)) h (λ x l. e x)

-- ---- division
over_at : (v : List Quadruple) (x : Index) → quadruple_at (map over-√2 v) x ≡ over-√2 (quadruple_at v x)
unfolding at_index
over_at v x = get_or-map over-√2 v (number x) zero_quadruple

square_over : (v : List Quadruple) (x : Index) → some_odd_sum v ≡ false → add_squares (square (quadruple_at (map over-√2 v) x)) (square (quadruple_at (map over-√2 v) x)) ≡ square (quadruple_at v x)
unfolding at_index
square_over v x e =
    sym (doubles_square (quadruple_at (map over-√2 v) x))
    ∙ ap (λ (q : Quadruple). square (times-√2 q)) (over_at v x)
    ∙ ap square (divided (quadruple_at v x) (odd_at v (number x) e))

pub halved : (n : ℕ) (p : Index → Bool) (v : List Quadruple) → some_odd_sum v ≡ false
    → sum_of_squares n p v ≡ add_squares (sum_of_squares n p (map over-√2 v)) (sum_of_squares n p (map over-√2 v))
unfolding sum_of_squares
halved n p v e = sym (added n (square_if p (map over-√2 v)) (square_if p (map over-√2 v)) (square_if p v) (λ x. each (p x) x))
  where
    each : (b : Bool) (x : Index) → add_squares (cond b (square (quadruple_at (map over-√2 v) x)) no_square) (cond b (square (quadruple_at (map over-√2 v) x)) no_square) ≡ cond b (square (quadruple_at v x)) no_square
    each true x = square_over v x e
    each false x = refl

-- ---- two parts
pub parted : (n : ℕ) (p : Index → Bool) (v : List Quadruple)
    → add_squares (sum_of_squares n p v) (sum_of_squares n (elsewhere p) v) ≡ sum_of_squares n everywhere v
unfolding sum_of_squares
parted n p v = added n (square_if p v) (square_if (elsewhere p) v) (square_if everywhere v) (λ x. each (p x) (square (quadruple_at v x)))
  where
    each : (b : Bool) (s : Square) → add_squares (cond b s no_square) (cond (not b) s no_square) ≡ s
    each true s = right_none s
    each false s = squares.idl s

pub outcomes : (n q : ℕ) (v : List Quadruple)
    → add_squares (sum_of_squares n (outcome q false) v) (sum_of_squares n (outcome q true) v) ≡ sum_of_squares n everywhere v
unfolding sum_of_squares
outcomes n q v = added n (square_if (outcome q false) v) (square_if (outcome q true) v) (square_if everywhere v) (λ x. each (bit x q) (square (quadruple_at v x)))
  where
    each : (b : Bool) (s : Square) → add_squares (cond (beq b false) s no_square) (cond (beq b true) s no_square) ≡ s
    each true s = squares.idl s
    each false s = right_none s
