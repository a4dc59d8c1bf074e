-- The laws of recipes and plans.
use Rattle.std.specs.Prelude.{◌≡◌, ℕ, suc, ◌^◌, ◌≤◌, Bool, true, false, List, [], ◌∷◌, ◌++◌, length, pos}
use Rattle.exact.specs.declared.Quadruple.{Quadruple}
use Rattle.exact.specs.Indices.{Index, listing, same_index}
use Rattle.exact.specs.States.{State, normal_form, width}
use Rattle.exact.specs.Squares.{outcome, weight}
use Rattle.functions.specs.Tables.{Table, constant}
use Rattle.functions.specs.Sets.{among}
use Rattle.matrices.specs.Registers.{Move, applied, moved, opened, MovePlaced}
use Rattle.slicing.specs.declared.Component.{Component}
use Rattle.slicing.specs.Columns.{Columns, Represents}
use Rattle.slicing.specs.Trimming.{trimmed_width, trimmed}
use Rattle.slicing.specs.Products.{whole_by_ones, root_by_ones, outcome_half}
use Rattle.recipes.specs.Recipes.{new_columns, moved_columns, moved_power}
use Rattle.recipes.specs.Plans.{columns_of_state, slices_of_state, opening_product, opened_columns, opening_plan, gate_plan}

-- every function of a list is among those of another
unfoldable pub AllAmong : List Table → List Table → Type 0
AllAmong a b = (f : Table) → among f a ≡ true → among f b ≡ true

abbrev pub constants : ℕ → List Table
constants n = constant n false ∷ constant n true ∷ []

-- Every recipe is its gate's matrix: on any columns of any width, at any qubits of any register.
pub record RecipeLaws : Type 0 where
  -- the new columns, of one slice more, stand for the matrix applied
  pub applies : (n w : ℕ) (m : Move) (x : Columns) (v : List Quadruple) → 1 ≤ w → MovePlaced n m
      → Represents n w x v → Represents n (suc w) (new_columns n m x) (applied n m v)
  -- brought to normal form, they stand for the normal form of the moved state, with its power
  pub reduces : (n w : ℕ) (m : Move) (x : Columns) (s : State) → 1 ≤ w → MovePlaced n m
      → Represents n w x s.quadruples → Represents n (suc w) (moved_columns n m s.power.0 x) (normal_form (moved n m s)).quadruples
  pub power : (n w : ℕ) (m : Move) (x : Columns) (s : State) → 1 ≤ w → MovePlaced n m
      → Represents n w x s.quadruples → moved_power n m s.power.0 x ≡ (normal_form (moved n m s)).power.0
  -- and trimmed, they are its columns at its width
  pub width_is : (n w : ℕ) (m : Move) (x : Columns) (s : State) → 1 ≤ w → MovePlaced n m
      → Represents n w x s.quadruples → trimmed_width (moved_columns n m s.power.0 x) (suc w) ≡ width (normal_form (moved n m s)).quadruples
  pub columns : (n w : ℕ) (m : Move) (x : Columns) (s : State) → 1 ≤ w → MovePlaced n m
      → Represents n w x s.quadruples → (k : Component) → trimmed (suc w) (moved_columns n m s.power.0 x) k ≡ columns_of_state n (normal_form (moved n m s)) k

-- the columns of a state, one quadruple at every index of n qubits
pub record StateLaws : Type 0 where
  pub stands : (n : ℕ) (s : State) → length s.quadruples ≡ 2 ^ n → Represents n (width s.quadruples) (columns_of_state n s) s.quadruples
  -- states with the same columns have the same quadruples
  pub same : (n : ℕ) (s t : State) → length s.quadruples ≡ 2 ^ n → length t.quadruples ≡ 2 ^ n
      → ((k : Component) → columns_of_state n s k ≡ columns_of_state n t k) → s.quadruples ≡ t.quadruples
  -- the weight of an outcome, by counting ones
  pub whole : (n q : ℕ) (b : Bool) (s : State) → length s.quadruples ≡ 2 ^ n
      → whole_by_ones n (outcome_half n q b) (columns_of_state n s) ≡ pos (weight n (outcome q b) s).whole
  pub root : (n q : ℕ) (b : Bool) (s : State) → length s.quadruples ≡ 2 ^ n
      → root_by_ones n (outcome_half n q b) (columns_of_state n s) ≡ (weight n (outcome q b) s).root

-- the last product of an opening is 1 exactly at its index, and so gives the opened register's columns
pub record OpeningLaws : Type 0 where
  pub product : (n : ℕ) (x : Index) → length x ≡ n → opening_product n x ≡ listing n (λ y. same_index y x)
  pub width_is : (n : ℕ) (x : Index) → length x ≡ n → width (opened n x).quadruples ≡ 2
  pub columns : (n : ℕ) (x : Index) → length x ≡ n → (k : Component) → opened_columns n x k ≡ columns_of_state n (opened n x) k

-- A plan is enough: what a record holds after the call was held before, was made, or is constant.
pub record PlanLaws : Type 0 where
  pub opening : (n : ℕ) (x : Index) → length x ≡ n → AllAmong (slices_of_state n (opened n x)) (constants n ++ opening_plan n x)
  pub gate : (n : ℕ) (m : Move) (s : State) → length s.quadruples ≡ 2 ^ n → MovePlaced n m
      → AllAmong (slices_of_state n (normal_form (moved n m s))) (constants n ++ (slices_of_state n s ++ gate_plan n m s))
