-- The recipe of each gate, and the columns that it gives.
use Rattle.std.specs.Prelude.{ℕ, zero, ◌+◌, true, false, List, [], ◌∷◌, length}
use Rattle.functions.specs.Tables.{Table, constant, literal}
use Rattle.gates.specs.declared.Gate.{Gate}
use Rattle.gates.specs.declared.Gate.TheVariants.{X, Z, H, S, T, Rx, Ry, Cx, Cz, Ccx}
use Rattle.matrices.specs.Gates.{power_of}
use Rattle.matrices.specs.Registers.{Move}
use Rattle.slicing.specs.declared.Component.{Component}
use Rattle.slicing.specs.declared.Component.TheVariants.{A, B, C, D}
use Rattle.slicing.specs.Columns.{Column, Columns}
use Rattle.slicing.specs.Operations.{all_repeated, negation, both, zero_column, fixed_column, chosen_column, flipped_column, added}
use Rattle.slicing.specs.Divisions.{reduced_columns, reduced_power}
use Rattle.recipes.specs.declared.terms.Operand.{Operand}
use Rattle.recipes.specs.declared.terms.Operand.TheVariants.{Zero, Old, Fixed, Flipped, Chosen, Controlled}
use Rattle.recipes.specs.declared.terms.FirstCarry.{FirstCarry}
use Rattle.recipes.specs.declared.terms.FirstCarry.TheVariants.{Nowhere, Everywhere, Target, NotTarget, ControlsAndTarget}
use Rattle.recipes.specs.declared.terms.Term.{Term}
use Rattle.recipes.specs.declared.terms.Term.TheVariants.{Just, Add}
use Rattle.recipes.specs.declared.Recipe.{Recipe}

-- the table of recipes: the term of a gate's new column
abbrev pub gate_term : Gate → Component → Term
gate_term X k = Just (Flipped k)
gate_term Z k = Add Zero (Old k) Target
gate_term H k = Add (Fixed k false) (Fixed k true) Target
gate_term S A = Just (Chosen C A)
gate_term S B = Just (Chosen D B)
gate_term S C = Add Zero (Chosen A C) Target
gate_term S D = Add Zero (Chosen B D) Target
gate_term T A = Just (Chosen B A)
gate_term T B = Just (Chosen C B)
gate_term T C = Just (Chosen D C)
gate_term T D = Add Zero (Chosen A D) Target
gate_term Rx A = Add (Old A) (Flipped C) Everywhere
gate_term Rx B = Add (Old B) (Flipped D) Everywhere
gate_term Rx C = Add (Old C) (Flipped A) Nowhere
gate_term Rx D = Add (Old D) (Flipped B) Nowhere
gate_term Ry k = Add (Fixed k false) (Fixed k true) NotTarget
gate_term Cx k = Just (Controlled k)
gate_term Cz k = Add Zero (Old k) ControlsAndTarget
gate_term Ccx k = Just (Controlled k)

-- a gate's four terms, and the term of a component
abbrev pub recipe_of : Gate → Recipe
recipe_of g = record { a = gate_term g A; b = gate_term g B; c = gate_term g C; d = gate_term g D }

abbrev pub term_of : Recipe → Component → Term
term_of r A = r.a
term_of r B = r.b
term_of r C = r.c
term_of r D = r.d

-- of the qubits that a gate is named with, the last is its target and the others its controls
unfoldable pub target : List ℕ → ℕ
target [] = zero
target (q ∷ []) = q
target (q ∷ p ∷ qs) = target (p ∷ qs)

unfoldable pub controls : List ℕ → List ℕ
controls [] = []
controls (q ∷ []) = []
controls (q ∷ p ∷ qs) = q ∷ controls (p ∷ qs)

-- the product of the literals of some qubits
unfoldable pub product_of_literals : ℕ → List ℕ → Table
product_of_literals n [] = constant n true
product_of_literals n (q ∷ []) = literal n q
product_of_literals n (q ∷ p ∷ qs) = both n (literal n q) (product_of_literals n (p ∷ qs))

-- An operand's column, a first carry and a new column, at the target q, with the product c of the controls' literals, of
-- the columns x.
unfoldable pub operand_column : ℕ → ℕ → Table → Columns → Operand → Column
operand_column n q c x Zero = zero_column n (length (x A))
operand_column n q c x (Old k) = x k
operand_column n q c x (Fixed k b) = fixed_column n q b (x k)
operand_column n q c x (Flipped k) = flipped_column n q (x k)
operand_column n q c x (Chosen k l) = chosen_column n (literal n q) (x k) (x l)
operand_column n q c x (Controlled k) = chosen_column n c (flipped_column n q (x k)) (x k)

unfoldable pub first_carry : ℕ → ℕ → Table → FirstCarry → Table
first_carry n q c Nowhere = constant n false
first_carry n q c Everywhere = constant n true
first_carry n q c Target = literal n q
first_carry n q c NotTarget = negation n (literal n q)
first_carry n q c ControlsAndTarget = both n c (literal n q)

unfoldable pub term_column : ℕ → ℕ → Table → Columns → Term → Column
term_column n q c x (Just o) = operand_column n q c x o
term_column n q c x (Add o p e) = added n (first_carry n q c e) (operand_column n q c x o) (operand_column n q c x p)

-- the product of the controls' literals of a move
unfoldable pub controls_product : ℕ → Move → Table
controls_product n m = product_of_literals n (controls m.qubits)

-- the new columns of a move: each top slice is repeated once, so that the sums fit
unfoldable pub new_columns : ℕ → Move → Columns → Columns
new_columns n m x k = term_column n (target m.qubits) (controls_product n m) (all_repeated x) (gate_term m.gate k)

-- A move on columns with the power k, brought to normal form: its columns, and their power.
abbrev pub power_after : Move → ℕ → ℕ
power_after m k = (power_of m.gate).0 + k

unfoldable pub moved_columns : ℕ → Move → ℕ → Columns → Columns
moved_columns n m k x = reduced_columns n (power_after m k) (new_columns n m x)

unfoldable pub moved_power : ℕ → Move → ℕ → Columns → ℕ
moved_power n m k x = reduced_power n (power_after m k) (new_columns n m x)
