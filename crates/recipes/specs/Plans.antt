-- The functions that a call makes, in their order, as plans over truth tables. Constants are listed where they are used;
-- they take no space.
use Rattle.std.specs.Prelude.{ℕ, zero, suc, Bool, true, false, List, [], ◌∷◌, ◌++◌}
use Rattle.exact.specs.Indices.{Index, bit}
use Rattle.exact.specs.States.{State, width}
use Rattle.functions.specs.Tables.{Table, constant, literal, choice}
use Rattle.matrices.specs.Registers.{Move}
use Rattle.slicing.specs.declared.Component.TheVariants.{A, B, C, D}
use Rattle.slicing.specs.Columns.{Columns, columns_of}
use Rattle.slicing.specs.Operations.{all_repeated, for_each, zero_column, fixed_column, chosen_column, flipped_column, flip_plan, addition_plan}
use Rattle.slicing.specs.Divisions.{reduction_plan}
use Rattle.slicing.specs.Products.{outcome_half, outcome_plan, squares_plan}
use Rattle.recipes.specs.declared.terms.Operand.{Operand}
use Rattle.recipes.specs.declared.terms.Operand.TheVariants.{Zero, Old, Fixed, Flipped, Chosen, Controlled}
use Rattle.recipes.specs.declared.terms.Term.{Term}
use Rattle.recipes.specs.declared.terms.Term.TheVariants.{Just, Add}
use Rattle.recipes.specs.Recipes.{gate_term, target, controls, product_of_literals, controls_product, operand_column, first_carry, new_columns, power_after}

-- ---- a register's record
-- the columns of a state at its width, and all of their slices
unfoldable pub columns_of_state : ℕ → State → Columns
columns_of_state n s = columns_of n (width s.quadruples) s.quadruples

unfoldable pub slices_of_state : ℕ → State → List Table
slices_of_state n s = for_each (columns_of_state n s) []

-- ---- opening
-- f where qubit q has the bit b, and 0 elsewhere: one combination with the literal
unfoldable pub narrowed : ℕ → Table → ℕ → Bool → Table
narrowed n f q true = choice n (literal n q) f (constant n false)
narrowed n f q false = choice n (literal n q) (constant n false) f

-- from qubit q−1 down to 0, where f is the product so far: what is made, and the last product
unfoldable pub opening_from : ℕ → Index → ℕ → Table → List Table
opening_from n x zero f = []
opening_from n x (suc q) f = literal n q ∷ narrowed n f q (bit x q) ∷ opening_from n x q (narrowed n f q (bit x q))

unfoldable pub product_from : ℕ → Index → ℕ → Table → Table
product_from n x zero f = f
product_from n x (suc q) f = product_from n x q (narrowed n f q (bit x q))

unfoldable pub opening_plan : ℕ → Index → List Table
opening_plan n x = opening_from n x n (constant n true)

unfoldable pub opening_product : ℕ → Index → Table
opening_product n x = product_from n x n (constant n true)

-- the columns of an opened register: 1 at the index as d, and 0 everywhere else
abbrev pub opened_columns : ℕ → Index → Columns
opened_columns n x A = zero_column n 2
opened_columns n x B = zero_column n 2
opened_columns n x C = zero_column n 2
opened_columns n x D = opening_product n x ∷ constant n false ∷ []

-- ---- gates
-- the literals of the controls, and their product
unfoldable pub literals_plan : ℕ → List ℕ → List Table
literals_plan n [] = []
literals_plan n (q ∷ []) = literal n q ∷ []
literals_plan n (q ∷ p ∷ qs) = literal n q ∷ (literals_plan n (p ∷ qs) ++ (product_of_literals n (q ∷ p ∷ qs) ∷ []))

unfoldable pub operand_plan : ℕ → ℕ → Table → Columns → Operand → List Table
operand_plan n q c x Zero = []
operand_plan n q c x (Old k) = []
operand_plan n q c x (Fixed k b) = fixed_column n q b (x k)
operand_plan n q c x (Flipped k) = flip_plan n q (x k)
operand_plan n q c x (Chosen k l) = chosen_column n (literal n q) (x k) (x l)
operand_plan n q c x (Controlled k) = flip_plan n q (x k) ++ chosen_column n c (flipped_column n q (x k)) (x k)

unfoldable pub term_plan : ℕ → ℕ → Table → Columns → Term → List Table
term_plan n q c x (Just o) = operand_plan n q c x o
term_plan n q c x (Add o p e) = operand_plan n q c x o ++ (operand_plan n q c x p ++ addition_plan n (first_carry n q c e) (operand_column n q c x o) (operand_column n q c x p))

-- What a move makes on columns x with the power k: the target's literal, the controls' literals and product, the new
-- columns one after the other, then what the normal form needs.
unfoldable pub move_plan : ℕ → Move → ℕ → Columns → List Table
move_plan n m k x =
    literal n (target m.qubits) ∷ (literals_plan n (controls m.qubits)
    ++ for_each (λ c. term_plan n (target m.qubits) (controls_product n m) (all_repeated x) (gate_term m.gate c))
    (reduction_plan n (power_after m k) (new_columns n m x)))

unfoldable pub gate_plan : ℕ → Move → State → List Table
gate_plan n m s = move_plan n m s.power.0 (columns_of_state n s)

-- ---- weights
unfoldable pub weight_plan : ℕ → ℕ → Bool → State → List Table
weight_plan n q b s = outcome_plan n q b ++ squares_plan n (outcome_half n q b) (columns_of_state n s)
