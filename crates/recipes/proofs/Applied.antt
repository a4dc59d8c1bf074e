-- A recipe's new columns stand for its gate's matrix applied, and with normal form and trimming they are the columns of the
-- moved state.
use Rattle.std.proofs.Common.{◌≡◌, ℕ, suc, ◌^◌, ◌<◌, ◌≤◌, Bool, List, length, pos, sym, ap, ◌∙◌, subst, arith, length-set}
use Rattle.exact.specs.declared.Quadruple.{Quadruple}
use Rattle.exact.specs.Indices.{Index, with_bit, bits_at, with_setting}
use Rattle.exact.specs.Quadruples.{zero_quadruple}
use Rattle.exact.specs.States.{State, normal_form, width}
use Rattle.exact.specs.Squares.{quadruple_at, outcome, weight}
use Rattle.exact.proofs.Indices.{length_bits_at}
use Rattle.exact.proofs.Listings.{length_listing, at_listing}
use Rattle.exact.proofs.Widths.{at_least_one, holds}
use Rattle.functions.specs.Tables.{value_at}
use Rattle.gates.specs.declared.Gate.{Gate}
use Rattle.gates.specs.declared.Gate.TheVariants.{X, Z, H, S, T, Rx, Ry, Cx, Cz, Ccx}
use Rattle.gates.specs.Arity.{qubits_of}
use Rattle.matrices.specs.Registers.{Move, new_at, applied, moved, MovePlaced}
use Rattle.matrices.proofs.Small.{small}
use Rattle.slicing.specs.declared.Component.{Component}
use Rattle.slicing.specs.declared.Component.TheVariants.{A}
use Rattle.slicing.specs.Components.{component}
use Rattle.slicing.specs.Columns.{Columns, integer_at, Represents}
use Rattle.slicing.specs.Trimming.{trimmed_width, trimmed}
use Rattle.slicing.specs.Products.{whole_by_ones, root_by_ones, outcome_half}
use Rattle.slicing.proofs.Columns.{stands, only, one_list}
use Rattle.slicing.proofs.Divisions.{reduced_stands, reduced_power_is}
use Rattle.slicing.proofs.Trimming.{same_columns, trimmed_least, trimmed_stands}
use Rattle.slicing.proofs.Products.{whole_is, root_is, half_at}
use Rattle.recipes.specs.Recipes.{gate_term, target, controls_product, new_columns, power_after, moved_columns, moved_power}
use Rattle.recipes.specs.Plans.{columns_of_state}
use Rattle.recipes.proofs.TermValues.{integers, term_value, length_term, functions_term, term_at}
use Rattle.recipes.proofs.Settings.{others_on, with_last, own_setting, target_bit, target_set, controls_at}
use Rattle.recipes.proofs.Agreement.{recipe_is_matrix}

some_qubit : (g : Gate) → 0 < qubits_of g
some_qubit X = omega arith
some_qubit Z = omega arith
some_qubit H = omega arith
some_qubit S = omega arith
some_qubit T = omega arith
some_qubit Rx = omega arith
some_qubit Ry = omega arith
some_qubit Cx = omega arith
some_qubit Cz = omega arith
some_qubit Ccx = omega arith

module _ (n w : ℕ) (m : Move) (x : Columns) (v : List Quadruple) (some : 1 ≤ w) (p : MovePlaced n m) (r : Represents n w x v) where
  named : 0 < length m.qubits
  named = subst (λ (k : ℕ). 0 < k) (sym p.as_many) (some_qubit m.gate)

  -- the old quadruple at y with a setting of the gate's qubits
  abbrev setting_at : Index → Index → Quadruple
  setting_at y s = quadruple_at v (with_setting y m.qubits s)

  controls_bit : (y : Index) → length y ≡ n → value_at (controls_product n m) y ≡ others_on (bits_at y m.qubits)
  unfolding controls_product
  controls_bit y e = controls_at n y e m.qubits

  old_here : (y : Index) → length y ≡ n → (l : Component) → integer_at (x l) y ≡ component l (setting_at y (bits_at y m.qubits))
  old_here y e l = r.integers l y e ∙ ap (λ (z : Index). component l (quadruple_at v z)) (sym (own_setting y m.qubits))

  old_side : (y : Index) → length y ≡ n → (b : Bool) (l : Component) → integer_at (x l) (with_bit y (target m.qubits) b) ≡ component l (setting_at y (with_last (bits_at y m.qubits) b))
  old_side y e b l =
      r.integers l (with_bit y (target m.qubits) b) (length-set y (target m.qubits) b ∙ e)
      ∙ ap (λ (z : Index). component l (quadruple_at v z)) (target_set y m.qubits b named)

  new_at_is : (y : Index) → length y ≡ n → small m.gate (setting_at y) (bits_at y m.qubits) ≡ quadruple_at (applied n m v) y
  unfolding applied new_at small
  new_at_is y e = sym (at_listing zero_quadruple n (new_at m (quadruple_at v)) y e)

  pub applied_stands : Represents n (suc w) (new_columns n m x) (applied n m v)
  unfolding new_columns applied
  applied_stands = record {
    listed = length_listing n (new_at m (quadruple_at v));
    wide = λ k. length_term n w (target m.qubits) (controls_product n m) x r.wide some (gate_term m.gate k);
    functions = λ k. functions_term n w (target m.qubits) (controls_product n m) x r.wide some r.functions (gate_term m.gate k);
    integers = λ k y e.
        term_at n w (target m.qubits) (controls_product n m) x r.wide some (gate_term m.gate k) y e
        ∙ (λ i. term_value integers (target_bit y m.qubits named i) (controls_bit y e i) (λ l. old_here y e l i) (λ b l. old_side y e b l i) (gate_term m.gate k))
        ∙ recipe_is_matrix m.gate (setting_at y) (bits_at y m.qubits) (length_bits_at y m.qubits ∙ p.as_many) k
        ∙ ap (component k) (new_at_is y e);
  }

-- ---- the normal form of the moved state
module _ (n w : ℕ) (m : Move) (x : Columns) (s : State) (some : 1 ≤ w) (p : MovePlaced n m) (r : Represents n w x s.quadruples) where
  pub moved_stands : Represents n (suc w) (moved_columns n m s.power.0 x) (normal_form (moved n m s)).quadruples
  unfolding moved_columns moved
  moved_stands = reduced_stands n (suc w) (power_after m s.power.0) (new_columns n m x) (applied n m s.quadruples) (omega arith) (applied_stands n w m x s.quadruples some p r)

  pub moved_power_is : moved_power n m s.power.0 x ≡ (normal_form (moved n m s)).power.0
  unfolding moved_power moved
  moved_power_is = reduced_power_is n (suc w) (power_after m s.power.0) (new_columns n m x) (applied n m s.quadruples) (omega arith) (applied_stands n w m x s.quadruples some p r)

  pub moved_width : trimmed_width (moved_columns n m s.power.0 x) (suc w) ≡ width (normal_form (moved n m s)).quadruples
  moved_width = trimmed_least n (suc w) (moved_columns n m s.power.0 x) (normal_form (moved n m s)).quadruples (omega arith) moved_stands

  pub moved_columns_are : (k : Component) → trimmed (suc w) (moved_columns n m s.power.0 x) k ≡ columns_of_state n (normal_form (moved n m s)) k
  unfolding columns_of_state
  moved_columns_are = only n (width (normal_form (moved n m s)).quadruples) (normal_form (moved n m s)).quadruples (trimmed (suc w) (moved_columns n m s.power.0 x))
      (trimmed_stands n (suc w) (moved_columns n m s.power.0 x) (normal_form (moved n m s)).quadruples (omega arith) moved_stands)

-- ---- the columns of a state
pub state_stands : (n : ℕ) (s : State) → length s.quadruples ≡ 2 ^ n → Represents n (width s.quadruples) (columns_of_state n s) s.quadruples
unfolding columns_of_state
state_stands n s l = stands n (width s.quadruples) s.quadruples (at_least_one s.quadruples) l (holds s.quadruples)

pub same_state : (n : ℕ) (s t : State) → length s.quadruples ≡ 2 ^ n → length t.quadruples ≡ 2 ^ n → ((k : Component) → columns_of_state n s k ≡ columns_of_state n t k) → s.quadruples ≡ t.quadruples
same_state n s t l h e =
    let a : Represents n (width s.quadruples) (columns_of_state n s) s.quadruples = state_stands n s l in
    let b : Represents n (width t.quadruples) (columns_of_state n t) t.quadruples = state_stands n t h in
    let w : width t.quadruples ≡ width s.quadruples = sym (b.wide A) ∙ ap length (sym (e A)) ∙ a.wide A in
    one_list n (width s.quadruples) (columns_of_state n s) s.quadruples t.quadruples a
    (same_columns n (width s.quadruples) (columns_of_state n t) (columns_of_state n s) t.quadruples e (subst (λ (k : ℕ). Represents n k (columns_of_state n t) t.quadruples) w b))

module _ (n q : ℕ) (b : Bool) (s : State) (l : length s.quadruples ≡ 2 ^ n) where
  pub weight_whole : whole_by_ones n (outcome_half n q b) (columns_of_state n s) ≡ pos (weight n (outcome q b) s).whole
  weight_whole = whole_is n (width s.quadruples) (columns_of_state n s) s.quadruples (outcome q b) (outcome_half n q b) (state_stands n s l) (half_at n q b)

  pub weight_root : root_by_ones n (outcome_half n q b) (columns_of_state n s) ≡ (weight n (outcome q b) s).root
  weight_root = root_is n (width s.quadruples) (columns_of_state n s) s.quadruples (outcome q b) (outcome_half n q b) (state_stands n s l) (half_at n q b)
