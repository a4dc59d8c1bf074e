use Rattle.std.proofs.Common.{refl}
use Rattle.recipes.proofs.Computing.{a_plan}
use Rattle.recipes.proofs.laws.plan_examples.Goals as goal

pub returns : goal.returns
unfolding a_plan
returns c = record {
  one_qubit_open_0 = refl;
  one_qubit_open_1 = refl;
  one_qubit_h = refl;
  three_qubits_open_6 = refl;
  three_qubits_open_7 = refl;
  open_00 = refl;
  h_on_00 = refl;
  cx_after_h = refl;
  bell_outcome_1 = refl;
  bell_outcome_0 = refl;
  signs_outcome_1 = refl;
  signs_outcome_0 = refl;
  x_on_00 = refl;
}
