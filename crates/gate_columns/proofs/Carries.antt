-- First carries, from what their calls answered.
use Rattle.std.proofs.Common.{◌≡◌, ℕ, true, false, [], ◌∷◌, Some, Ok, Result, refl}
use Rattle.functions.specs.declared.faults.StoreFault.{StoreFault}
use Rattle.functions.specs.Tables.{Table, constant, literal}
use Rattle.functions.specs.Meanings.{Meaning, Laws, qubits_of, under}
use Rattle.functions.specs.Growth.{Built}
use Rattle.functions.specs.Answers.{Made, combine_asked}
use Rattle.functions.proofs.Handles.{under_0, under_1, grew_again}
use Rattle.functions.proofs.Asked.{combination}
use Rattle.recipes.specs.declared.terms.FirstCarry.TheVariants.{Nowhere, Everywhere, Target, NotTarget, ControlsAndTarget}
use Rattle.recipes.specs.Recipes.{first_carry}
use Rattle.slicing.specs.Operations.{negation, both}
use Rattle.slicing.proofs.Operations.{both_rule, negation_rule}
use Rattle.gate_columns.specs.declared.qubits.Literals.{Literals}
use Rattle.gate_columns.specs.Gates.{FirstCarryMade}

-- what has a handle is made by answering it
held_built : (v : Meaning) → Laws v → (k : ℕ) (f : Table) → under v k ≡ Some f → Built v v (f ∷ []) (Ok k) (λ h. under v h ≡ Some f)
unfolding Built
held_built v laws k f e = (grew_again v k f laws e, e)

module _ (v : Meaning) (laws : Laws v) (l : Literals) where
  pub carry_nowhere : FirstCarryMade v v l Nowhere (Ok 0)
  unfolding FirstCarryMade first_carry
  carry_nowhere c h = held_built v laws 0 (constant (qubits_of v) false) (under_0 v)

  pub carry_everywhere : FirstCarryMade v v l Everywhere (Ok 1)
  unfolding FirstCarryMade first_carry
  carry_everywhere c h = held_built v laws 1 (constant (qubits_of v) true) (under_1 v)

  pub carry_target : FirstCarryMade v v l Target (Ok l.literal)
  unfolding FirstCarryMade first_carry
  carry_target c h = held_built v laws l.literal (literal (qubits_of v) l.target.0) h.of_target

module _ (v w : Meaning) (l : Literals) (r : Result ℕ StoreFault) where
  pub carry_not_target : Made v w (combine_asked v 150 l.literal 1 0) r → FirstCarryMade v w l NotTarget r
  unfolding FirstCarryMade first_carry
  carry_not_target m c h =
      let n = qubits_of v in
      combination v v w 150 l.literal 1 0 (literal n l.target.0) (constant n true) (constant n false) (negation n (literal n l.target.0)) r refl h.of_target (under_1 v) (under_0 v) (negation_rule n (literal n l.target.0)) m

  pub carry_controls_and_target : Made v w (combine_asked v 128 l.controls l.literal 1) r → FirstCarryMade v w l ControlsAndTarget r
  unfolding FirstCarryMade first_carry
  carry_controls_and_target m c h =
      let n = qubits_of v in
      combination v v w 128 l.controls l.literal 1 c (literal n l.target.0) (constant n true) (both n c (literal n l.target.0)) r refl h.of_controls h.of_target (under_1 v) (both_rule n c (literal n l.target.0)) m
