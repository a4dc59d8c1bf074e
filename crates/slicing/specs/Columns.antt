-- Columns of slices. A column is a list of functions, slice 0 first: at an index, its slices' values are the bits of an
-- integer. Four columns, one for each component, stand for a quadruple at every index.
use Rattle.std.specs.Prelude.{◌≡◌, ℕ, ◌^◌, Bool, false, List, [], ◌∷◌, map, length, ℤ, slice_index_or}
use Rattle.std.specs.List.{range_with_len}
use Rattle.exact.specs.declared.Quadruple.{Quadruple}
use Rattle.exact.specs.Indices.{Index, listing}
use Rattle.exact.specs.Squares.{quadruple_at}
use Rattle.functions.specs.Tables.{Table, value_at}
use Rattle.slicing.specs.declared.Component.{Component}
use Rattle.slicing.specs.Components.{component}
use Rattle.slicing.specs.TwosComplement.{signed_number, signed_bits}

abbrev pub Column : Type 0
Column = List Table

abbrev pub Columns : Type 0
Columns = Component → Column

-- the values of a column's slices at an index, and the integer whose bits they are
unfoldable pub bits_of : Column → Index → List Bool
bits_of ss y = map (λ (f : Table). value_at f y) ss

unfoldable pub integer_at : Column → Index → ℤ
integer_at ss y = signed_number (bits_of ss y)

-- every slice is a function of n qubits
abbrev pub AllFunctions : ℕ → Column → Type 0
AllFunctions n [] = Unit {0}
AllFunctions n (f ∷ ss) = (length f ≡ 2 ^ n) × AllFunctions n ss

-- The four columns x, each of w slices, stand for the quadruples of v, one at every index of n qubits.
pub record Represents (n w : ℕ) (x : Columns) (v : List Quadruple) : Type 0 where
  pub listed : length v ≡ 2 ^ n
  pub wide : (k : Component) → length (x k) ≡ w
  pub functions : (k : Component) → AllFunctions n (x k)
  pub integers : (k : Component) (y : Index) → length y ≡ n → integer_at (x k) y ≡ component k (quadruple_at v y)

-- slice j, and the column of w slices, of an integer at every index
unfoldable pub slice : ℕ → ℕ → (Index → ℤ) → ℕ → Table
slice n w f j = listing n (λ y. slice_index_or (signed_bits w (f y)) j false)

unfoldable pub column_of : ℕ → ℕ → (Index → ℤ) → Column
column_of n w f = map (slice n w f) (range_with_len 0 w)

-- the four columns of w slices of a list of quadruples
unfoldable pub columns_of : ℕ → ℕ → List Quadruple → Columns
columns_of n w v k = column_of n w (λ y. component k (quadruple_at v y))
