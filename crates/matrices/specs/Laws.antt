-- The laws of gates, products and weights.
use Rattle.std.specs.Prelude.{◌≡◌, ℕ, ◌^◌, true, false, List, map, length, replicate}
use Rattle.exact.specs.declared.Quadruple.{Quadruple}
use Rattle.exact.specs.Indices.{Index}
use Rattle.exact.specs.States.{State, SameAmplitudes, InNormalForm}
use Rattle.exact.specs.Squares.{Square, add_squares, power_of_squares, power_of_2, times_power_of_2, sum_of_squares, everywhere, outcome}
use Rattle.gates.specs.declared.Gate.{Gate}
use Rattle.gates.specs.Arity.{qubits_of}
use Rattle.matrices.specs.Gates.{gate_matrix, power_of}
use Rattle.matrices.specs.Registers.{Move, applied, opened, carried, register, MovePlaced, AllPlaced}
use Rattle.matrices.specs.Products.{product_of, column, SameMatrix}

pub record GateLaws : Type 0 where
  -- the table has 2^m rows of 2^m entries for a gate of m qubits
  pub square_shaped : (g : Gate) → map length (gate_matrix g).rows ≡ replicate (2 ^ qubits_of g) (2 ^ qubits_of g)
  -- a gate multiplies the sum of squares of any list by 2 to the power of its factor
  pub multiplies : (n : ℕ) (m : Move) (v : List Quadruple) → MovePlaced n m
      → sum_of_squares n everywhere (applied n m v) ≡ times_power_of_2 (power_of_squares (power_of m.gate)) (sum_of_squares n everywhere v)

pub record ProductLaws : Type 0 where
  -- column x of the product is the gates applied one after the other to the basis state x
  pub columns : (n : ℕ) (x : Index) (l : List Move) → AllPlaced n l → column n (product_of n l) x ≡ carried n (opened n x) l
  -- a register is in normal form, and has the amplitudes of that column
  pub normal : (n : ℕ) (x : Index) (l : List Move) → InNormalForm (register n x l)
  pub amplitudes : (n : ℕ) (x : Index) (l : List Move) → AllPlaced n l → SameAmplitudes (register n x l) (column n (product_of n l) x)
  -- equal products from the same opening give equal registers
  pub equal : (n : ℕ) (x : Index) (l m : List Move) → length x ≡ n → AllPlaced n l → AllPlaced n m
      → SameMatrix n (product_of n l) (product_of n m) → register n x l ≡ register n x m

-- what the squares of a state add up to where its amplitudes are those of a unit vector: 2^k and 0
abbrev pub unit_total : State → Square
unit_total s = power_of_2 (power_of_squares s.power)

pub record WeightLaws : Type 0 where
  pub everything : (n : ℕ) (x : Index) (l : List Move) → length x ≡ n → AllPlaced n l
      → sum_of_squares n everywhere (register n x l).quadruples ≡ unit_total (register n x l)
  -- the two outcomes of a qubit add up to that
  pub outcomes : (n q : ℕ) (x : Index) (l : List Move) → length x ≡ n → AllPlaced n l
      → add_squares (sum_of_squares n (outcome q false) (register n x l).quadruples) (sum_of_squares n (outcome q true) (register n x l).quadruples)
      ≡ unit_total (register n x l)
