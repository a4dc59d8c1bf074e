-- Worked examples of plans: the space that a call needs, where a function takes space only for itself.
use Rattle.std.specs.Prelude.{◌≡◌, ℕ, true, false, List, [], ◌∷◌, ◌++◌}
use Rattle.exact.specs.Indices.{bits}
use Rattle.exact.specs.States.{State, state}
use Rattle.functions.specs.Tables.{Table}
use Rattle.functions.specs.Sets.{space, parts_of_all}
use Rattle.functions.specs.Meanings.{only_itself}
use Rattle.gates.specs.declared.Gate.TheVariants.{X, H}
use Rattle.matrices.specs.Registers.{Move}
use Rattle.matrices.specs.Examples.{on_0, cx_0_1, one_qubit, two_qubits, bell_pair, 𝟏, −𝟏}
use Rattle.recipes.specs.Plans.{slices_of_state, opening_plan, gate_plan, weight_plan}

-- the space for the slices held and a plan
abbrev pub needed : ℕ → List Table → List Table → ℕ
needed n held plan = space n (parts_of_all (only_itself n) (held ++ plan))

abbrev pub x_on_1 : Move
x_on_1 = record { gate = X; qubits = 1 ∷ [] }

-- (|00⟩ − |01⟩ − |10⟩ − |11⟩)/2
abbrev pub three_negative : State
three_negative = state 2 (𝟏 ∷ −𝟏 ∷ −𝟏 ∷ −𝟏 ∷ [])

pub record PlanExamples : Type 0 where
  pub one_qubit_open_0 : needed 1 [] (opening_plan 1 (bits 1 0)) ≡ 2
  pub one_qubit_open_1 : needed 1 [] (opening_plan 1 (bits 1 1)) ≡ 1
  pub one_qubit_h : needed 1 (slices_of_state 1 (one_qubit 0 [])) (gate_plan 1 (on_0 H) (one_qubit 0 [])) ≡ 2
  pub three_qubits_open_6 : needed 3 [] (opening_plan 3 (bits 3 6)) ≡ 6
  pub three_qubits_open_7 : needed 3 [] (opening_plan 3 (bits 3 7)) ≡ 5
  -- a Bell pair, step by step, and the two outcomes of its first qubit
  pub open_00 : needed 2 [] (opening_plan 2 (bits 2 0)) ≡ 4
  pub h_on_00 : needed 2 (slices_of_state 2 (two_qubits 0 [])) (gate_plan 2 (on_0 H) (two_qubits 0 [])) ≡ 3
  pub cx_after_h : needed 2 (slices_of_state 2 (two_qubits 0 (on_0 H ∷ []))) (gate_plan 2 cx_0_1 (two_qubits 0 (on_0 H ∷ []))) ≡ 4
  pub bell_outcome_1 : needed 2 (slices_of_state 2 bell_pair) (weight_plan 2 0 true bell_pair) ≡ 3
  pub bell_outcome_0 : needed 2 (slices_of_state 2 bell_pair) (weight_plan 2 0 false bell_pair) ≡ 4
  -- and where the outcomes take different space: the signs cover the half of outcome 1, and one index of the other half
  pub signs_outcome_1 : needed 2 (slices_of_state 2 three_negative) (weight_plan 2 0 true three_negative) ≡ 2
  pub signs_outcome_0 : needed 2 (slices_of_state 2 three_negative) (weight_plan 2 0 false three_negative) ≡ 4
  pub x_on_00 : needed 2 (slices_of_state 2 (two_qubits 0 [])) (gate_plan 2 x_on_1 (two_qubits 0 [])) ≡ 4
