-- Matrices of 2^n by 2^n entries with a common power of √2, and their products.
use Rattle.std.specs.Prelude.{◌≡◌, ℕ, cond, List, [], ◌∷◌, length}
use Rattle.exact.specs.declared.Amplitude.{Amplitude}
use Rattle.exact.specs.declared.Quadruple.{Quadruple}
use Rattle.exact.specs.declared.RootTwoPower.{RootTwoPower}
use Rattle.exact.specs.Indices.{Index, listing, total, bits_at, with_setting, same_index}
use Rattle.exact.specs.Quadruples.{zero_quadruple, one_quadruple, add, multiply}
use Rattle.exact.specs.States.{root_two_power, add_powers, SameAmplitude, State}
use Rattle.matrices.specs.Gates.{power_of, entry, times_entry}
use Rattle.matrices.specs.Registers.{Move}

-- entry row column, divided by √2 as often as `power` says
pub record Matrix : Type 0 where
  pub power : RootTwoPower
  pub entry : Index → Index → Quadruple

unfoldable pub identity : Matrix
identity = record { power = root_two_power 0; entry = λ r c. cond (same_index r c) one_quadruple zero_quadruple }

-- a gate's matrix: that of the table where row and column agree off the gate's qubits, else 0
unfoldable pub matrix_of : Move → Matrix
matrix_of m = record {
  power = power_of m.gate;
  entry = λ r c.
      cond (same_index (with_setting r m.qubits (bits_at c m.qubits)) c)
      (times_entry (entry m.gate (bits_at r m.qubits) (bits_at c m.qubits)) one_quadruple)
      zero_quadruple;
}

-- the product of two matrices for n qubits
unfoldable pub product : ℕ → Matrix → Matrix → Matrix
product n A B = record {
  power = add_powers A.power B.power;
  entry = λ r c. total add n (λ k. multiply (A.entry r k) (B.entry k c));
}

-- the product of the matrices of moves, the newest on the left, after the matrix A
unfoldable pub product_after : ℕ → Matrix → List Move → Matrix
product_after n A [] = A
product_after n A (m ∷ l) = product_after n (product n (matrix_of m) A) l

abbrev pub product_of : ℕ → List Move → Matrix
product_of n l = product_after n identity l

-- column c, as a state
unfoldable pub column : ℕ → Matrix → Index → State
column n A c = record { power = A.power; quadruples = listing n (λ r. A.entry r c) }

abbrev pub amplitude_in : Matrix → Index → Index → Amplitude
amplitude_in A r c = record { quadruple = A.entry r c; power = A.power }

-- every entry is the same amplitude
abbrev pub SameMatrix : ℕ → Matrix → Matrix → Type 0
SameMatrix n A B = (r c : Index) → length r ≡ n → length c ≡ n → SameAmplitude (amplitude_in A r c) (amplitude_in B r c)
