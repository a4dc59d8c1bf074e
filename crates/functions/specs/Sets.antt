-- Sets of functions, as lists: what is among them, how many there are, and their parts.
use Rattle.std.specs.Prelude.{ℕ, ◌+◌, Bool, true, false, cond, ◌||◌, List, [], ◌∷◌, ◌++◌}
use Rattle.exact.specs.Indices.{same_index}
use Rattle.functions.specs.Tables.{Table, constant}

-- whether two functions are equal: tables are lists of bits, as indices are
abbrev pub same : Table → Table → Bool
same f g = same_index f g

-- whether f is among the functions of a list
unfoldable pub among : Table → List Table → Bool
among f [] = false
among f (g ∷ fs) = same f g || among f fs

-- whether f is a constant
unfoldable pub is_constant : ℕ → Table → Bool
is_constant n f = same f (constant n false) || same f (constant n true)

-- the functions of a list that are not constant
unfoldable pub without_constants : ℕ → List Table → List Table
without_constants n [] = []
without_constants n (f ∷ fs) = cond (is_constant n f) (without_constants n fs) (f ∷ without_constants n fs)

-- how many different functions a list has
unfoldable pub different : List Table → ℕ
different [] = 0
different (f ∷ fs) = cond (among f fs) (different fs) (different fs + 1)

-- the space that a list of functions takes: the number of different ones that are not constant
unfoldable pub space : ℕ → List Table → ℕ
space n fs = different (without_constants n fs)

-- the parts of all functions of a list
unfoldable pub parts_of_all : (Table → List Table) → List Table → List Table
parts_of_all parts [] = []
parts_of_all parts (f ∷ fs) = parts f ++ parts_of_all parts fs
