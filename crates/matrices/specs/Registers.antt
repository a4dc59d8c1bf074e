-- Registers: opened at an index, and led through gates.
use Rattle.std.specs.Prelude.{ℕ, cond, List, [], ◌∷◌}
use Rattle.exact.specs.declared.Quadruple.{Quadruple}
use Rattle.exact.specs.Indices.{Index, listing, total, bits_at, with_setting, same_index, Placed}
use Rattle.exact.specs.Quadruples.{zero_quadruple, one_quadruple, add}
use Rattle.exact.specs.States.{add_powers, State, state, normal_form}
use Rattle.exact.specs.Squares.{quadruple_at}
use Rattle.gates.specs.declared.Gate.{Gate}
use Rattle.gates.specs.Arity.{qubits_of}
use Rattle.matrices.specs.Gates.{power_of, entry, times_entry}

-- a gate at the qubits it acts on, its controls first
pub record Move : Type 0 where
  pub gate : Gate
  pub qubits : List ℕ

-- The new amplitude at x: the sum, over all settings s of the gate's qubits, of the matrix entry (its row the bits of x at
-- those qubits, its column s) times the old amplitude at x with that setting.
unfoldable pub new_at : Move → (Index → Quadruple) → Index → Quadruple
new_at m old x = total add (qubits_of m.gate) (λ s. times_entry (entry m.gate (bits_at x m.qubits) s) (old (with_setting x m.qubits s)))

-- a gate applied to a list of 2^n quadruples
unfoldable pub applied : ℕ → Move → List Quadruple → List Quadruple
applied n m v = listing n (new_at m (quadruple_at v))

-- a gate applied to a state, whose power of √2 rises by the gate's
unfoldable pub moved : ℕ → Move → State → State
moved n m s = record { power = add_powers (power_of m.gate) s.power; quadruples = applied n m s.quadruples }

-- (0, 0, 0, 1) at the index x, zero elsewhere, power 0
unfoldable pub opened : ℕ → Index → State
opened n x = state 0 (listing n (λ y. cond (same_index y x) one_quadruple zero_quadruple))

-- led through moves, the earliest first: without normal forms, and as a register is, brought to normal form after every gate
unfoldable pub carried : ℕ → State → List Move → State
carried n s [] = s
carried n s (m ∷ l) = carried n (moved n m s) l

unfoldable pub led : ℕ → State → List Move → State
led n s [] = s
led n s (m ∷ l) = led n (normal_form (moved n m s)) l

-- a register of n qubits, opened at x and led through moves
abbrev pub register : ℕ → Index → List Move → State
register n x l = led n (opened n x) l

-- every gate has as many qubits as it needs, all of the register and no two equal
abbrev pub MovePlaced : ℕ → Move → Type 0
MovePlaced n m = Placed n (qubits_of m.gate) m.qubits

abbrev pub AllPlaced : ℕ → List Move → Type 0
AllPlaced n [] = Unit {0}
AllPlaced n (m ∷ l) = MovePlaced n m × AllPlaced n l
