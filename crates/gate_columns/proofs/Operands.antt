-- Operands, from what their steps answered.
use Rattle.std.proofs.Common.{◌≡◌, ℕ, zero, suc, Bool, false, List, ◌∷◌, length, replicate, Some, Ok, Err, Option, Result, sym, refl, ap, subst}
use Rattle.functions.specs.declared.faults.StoreFault.{StoreFault}
use Rattle.functions.specs.Tables.{Table, constant, literal}
use Rattle.functions.specs.Meanings.{Meaning, qubits_of, under}
use Rattle.functions.specs.Growth.{Grew, Built, StandFor}
use Rattle.functions.proofs.Growth.{grew_none, built_after, built_stopped}
use Rattle.slicing.specs.declared.Component.{Component}
use Rattle.slicing.specs.declared.Component.TheVariants.{A}
use Rattle.slicing.specs.Columns.{Column}
use Rattle.slicing.specs.Columns.{Columns as Four}
use Rattle.slicing.specs.Operations.{zero_column, flipped_column, flip_plan, chosen_column}
use Rattle.recipes.specs.declared.terms.Operand.TheVariants.{Zero, Old, Fixed, Flipped, Chosen, Controlled}
use Rattle.recipes.specs.Recipes.{operand_column}
use Rattle.recipes.specs.Plans.{operand_plan}
use Rattle.columns.specs.declared.four.Columns.{Columns}
use Rattle.columns.specs.Columns.{handles_of, AllStand, ColumnFixed, ColumnChosen, ColumnFlipped}
use Rattle.functions.proofs.Handles.{stand_for_length, stand_for_keeps}
use Rattle.columns.proofs.Later.{chosen_later}
use Rattle.gate_columns.specs.declared.qubits.Literals.{Literals}
use Rattle.gate_columns.specs.Gates.{OperandMade}

zeros_stand : (v : Meaning) (w : ℕ) → StandFor v (replicate w 0) (zero_column (qubits_of v) w)
unfolding StandFor zero_column under
zeros_stand v zero = refl
zeros_stand v (suc w) = ap (λ (l : List (Option Table)). Some (constant (qubits_of v) false) ∷ l) (zeros_stand v w)

pub operand_zero : (v : Meaning) (hs : Columns 24) (l : Literals) → OperandMade v v hs l Zero (Ok (replicate (length hs.a) 0))
unfolding OperandMade operand_plan operand_column AllStand Built
operand_zero v hs l x c h k =
    (grew_none v, subst (λ (w : ℕ). StandFor v (replicate (length hs.a) 0) (zero_column (qubits_of v) w)) (sym (stand_for_length v hs.a (x A) (h A))) (zeros_stand v (length hs.a)))

-- the handles of a component, by an equation
component_stands : (v : Meaning) (hs : Columns 24) (x : Four) (k : Component) (p : List ℕ) → p ≡ handles_of hs k → AllStand v hs x → StandFor v p (x k)
unfolding AllStand
component_stands v hs x k p e h = subst (λ (y : List ℕ). StandFor v y (x k)) (sym e) (h k)

module _ (v w : Meaning) (hs : Columns 24) (l : Literals) where
  pub operand_old : (k : Component) (p : List ℕ) → p ≡ handles_of hs k → OperandMade v v hs l (Old k) (Ok p)
  unfolding OperandMade operand_plan operand_column Built
  operand_old k p e x c h m = (grew_none v, component_stands v hs x k p e h)

  pub operand_fixed : (k : Component) (b : Bool) (p : List ℕ) → p ≡ handles_of hs k → (r : Result (List ℕ) StoreFault) → ColumnFixed v w p l.target b r → OperandMade v w hs l (Fixed k b) r
  unfolding OperandMade operand_plan operand_column ColumnFixed
  operand_fixed k b p e r m x c h s = m (x k) (component_stands v hs x k p e h) s.inside

  pub operand_flipped : (k : Component) (p : List ℕ) → p ≡ handles_of hs k → (r : Result (List ℕ) StoreFault) → ColumnFlipped v w p l.target l.literal r → OperandMade v w hs l (Flipped k) r
  unfolding OperandMade operand_plan operand_column ColumnFlipped
  operand_flipped k p e r m x c h s = m (x k) (component_stands v hs x k p e h) s.inside s.of_target

  pub operand_chosen : (k j : Component) (p q : List ℕ) → p ≡ handles_of hs k → q ≡ handles_of hs j → (r : Result (List ℕ) StoreFault) → ColumnChosen v w l.literal p q r → OperandMade v w hs l (Chosen k j) r
  unfolding OperandMade operand_plan operand_column ColumnChosen
  operand_chosen k j p q e d r m x c h s = m (literal (qubits_of v) l.target.0) (x k) (x j) s.of_target (component_stands v hs x k p e h) (component_stands v hs x j q d h)

  pub operand_stopped : (k : Component) (p : List ℕ) → p ≡ handles_of hs k → (y : StoreFault) → ColumnFlipped v w p l.target l.literal (Err y) → OperandMade v w hs l (Controlled k) (Err y)
  unfolding OperandMade operand_plan ColumnFlipped
  operand_stopped k p e y m x c h s = built_stopped _ _ v w (flip_plan (qubits_of v) l.target.0 (x k)) _ y (m (x k) (component_stands v hs x k p e h) s.inside s.of_target)

pub operand_controlled : (v u w : Meaning) (hs : Columns 24) (l : Literals) (k : Component) (p f : List ℕ) → p ≡ handles_of hs k → ColumnFlipped v u p l.target l.literal (Ok f)
    → (r : Result (List ℕ) StoreFault) → ColumnChosen u w l.controls f p r → OperandMade v w hs l (Controlled k) r
unfolding OperandMade operand_plan operand_column ColumnFlipped Built
operand_controlled v u w hs l k p f e m₁ r m x c h s =
    let n = qubits_of v in
    let turned : Column = flipped_column n l.target.0 (x k) in
    let hp : StandFor v p (x k) = component_stands v hs x k p e h in
    let a : Grew v u (flip_plan n l.target.0 (x k)) × StandFor u f turned = m₁ (x k) hp s.inside s.of_target in
    built_after _ v u w (flip_plan n l.target.0 (x k)) (chosen_column n c turned (x k)) r a.0
    (chosen_later v u w (flip_plan n l.target.0 (x k)) l.controls f p r a.0 m c turned (x k) (a.0.keeps l.controls c s.of_controls) a.1 (stand_for_keeps v u _ a.0 p (x k) hp))
