-- The parts of a function in a diagram: the functions that come from it by fixing none or more of the first qubits.
use Rattle.std.specs.Prelude.{ℕ, zero, suc, List, [], ◌∷◌, ◌++◌, length, drop}
use Rattle.exact.specs.Indices.{Index, listing}
use Rattle.functions.specs.Tables.{Table, value_at}
use Rattle.functions.specs.Sets.{without_constants}

-- f with the first qubits set to the bits of p
unfoldable pub with_first : ℕ → Table → Index → Table
with_first n f p = listing n (λ x. value_at f (p ++ drop (length p) x))

-- f with its first k qubits set in all ways, for every k up to m
unfoldable pub first_fixed : ℕ → ℕ → Table → List Table
first_fixed n zero f = f ∷ []
first_fixed n (suc m) f = first_fixed n m f ++ listing (suc m) (with_first n f)

-- those that are not constant
unfoldable pub prefix_parts : ℕ → Table → List Table
prefix_parts n f = without_constants n (first_fixed n n f)
