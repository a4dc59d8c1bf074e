-- A gate on the 2^m quadruples of its own qubits, as quadruples and as polynomial expressions: variable 4i + j is part j of quadruple i.
use Rattle.std.proofs.Common.{◌≡◌, ℕ, zero, suc, ◌*◌, ℤ, pos, ◌+ℤ◌}
use Rattle.exact.specs.declared.Quadruple.{Quadruple}
use Rattle.exact.specs.Indices.{Index, number, total}
use Rattle.exact.specs.Quadruples.{zero_quadruple, add}
use Rattle.exact.specs.Squares.{square}
use Rattle.exact.proofs.Ring.{Expr, plus}
use Rattle.exact.proofs.Sums.{doubled}
use Rattle.exact.proofs.Expressions.{QuadrupleExpr, vars, numbers, add_expr, times_ω_expr}
use Rattle.gates.specs.declared.Gate.{Gate}
use Rattle.gates.specs.Arity.{qubits_of}
use Rattle.matrices.specs.Gates.{Entry, nought, ω_to, times_entry, entry, power_of}

-- the two parts of a square, as integers
abbrev pub whole_part : Quadruple → ℤ
whole_part q = pos (square q).whole

abbrev pub root_part : Quadruple → ℤ
root_part q = (square q).root

unfoldable pub small : Gate → (Index → Quadruple) → Index → Quadruple
small g u r = total add (qubits_of g) (λ s. times_entry (entry g r s) (u s))

-- the gate multiplies the sum of a part of the squares by 2 to the power of its factor
abbrev pub MultipliesPart : Gate → (Quadruple → ℤ) → Type 0
MultipliesPart g part = (u : Index → Quadruple) → total ◌+ℤ◌ (qubits_of g) (λ r. part (small g u r)) ≡ doubled ◌+ℤ◌ (power_of g).0 (total ◌+ℤ◌ (qubits_of g) (λ s. part (u s)))

pub record Multiplies (g : Gate) : Type 0 where
  pub whole : MultipliesPart g whole_part
  pub root : MultipliesPart g root_part

-- ---- the same over expressions
abbrev pub times_power_expr : ℕ → QuadrupleExpr → QuadrupleExpr
times_power_expr zero q = q
times_power_expr (suc k) q = times_ω_expr (times_power_expr k q)

abbrev pub times_entry_expr : Entry → QuadrupleExpr → QuadrupleExpr
times_entry_expr nought q = numbers zero_quadruple
times_entry_expr (ω_to k) q = times_power_expr k q

abbrev pub small_expr : Gate → Index → QuadrupleExpr
small_expr g r = total add_expr (qubits_of g) (λ s. times_entry_expr (entry g r s) (vars (4 * number s)))

-- a part of the squares, summed after the gate, and before it times 2 to the power of the gate's factor
abbrev pub after : (QuadrupleExpr → Expr) → Gate → Expr
after part g = total plus (qubits_of g) (λ r. part (small_expr g r))

abbrev pub before : (QuadrupleExpr → Expr) → Gate → Expr
before part g = doubled plus (power_of g).0 (total plus (qubits_of g) (λ s. part (vars (4 * number s))))
