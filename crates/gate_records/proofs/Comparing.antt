-- Records of states, compared.
use Rattle.std.proofs.Common.{◌≡◌, ℕ, ◌^◌, List, [], ◌∷◌, map, length, Some, sym, refl, ap, ◌∙◌, ap₂, arith}
use Rattle.exact.specs.declared.Quadruple.{Quadruple}
use Rattle.exact.specs.declared.RootTwoPower.{RootTwoPower}
use Rattle.exact.specs.States.{State, root_two_power}
use Rattle.functions.specs.Tables.{Table}
use Rattle.functions.specs.Meanings.{Meaning, Laws, qubits_of, under}
use Rattle.functions.specs.Growth.{StandFor}
use Rattle.slicing.specs.declared.Component.{Component}
use Rattle.recipes.specs.Plans.{columns_of_state}
use Rattle.recipes.proofs.Applied.{same_state}
use Rattle.columns.specs.Columns.{AllStand}
use Rattle.records.specs.declared.record.Record.{Record}
use Rattle.records.specs.Records.{recorded, RecordStands}
use Rattle.records.proofs.Equality.{same_value}
use Rattle.gate_records.specs.Moves.{RecordOf, SameRecordLaws}

-- handles of the same functions are equal, and functions under the same handles are
same_functions : (a b : List Table) → map Some a ≡ map Some b → a ≡ b
same_functions [] [] e = refl
same_functions [] (g ∷ b) e = absurd (let z : ◌≡◌ {A = ℕ} 0 1 = cc in let y : ⊥ = omega arith in y)
same_functions (f ∷ a) [] e = absurd (let z : ◌≡◌ {A = ℕ} 0 1 = cc in let y : ⊥ = omega arith in y)
same_functions (f ∷ a) (g ∷ b) e =
    let p : f ≡ g = cc in
    let q : map Some a ≡ map Some b = cc in
    let r : a ≡ b = same_functions a b q in
    cc

same_handles : (v : Meaning) → Laws v → (ks js : List ℕ) (fs : List Table) → map (under v) ks ≡ map Some fs → map (under v) js ≡ map Some fs → ks ≡ js
same_handles v laws [] [] fs d e = refl
same_handles v laws [] (j ∷ js) [] d e = absurd (let z : ◌≡◌ {A = ℕ} 0 1 = cc in let y : ⊥ = omega arith in y)
same_handles v laws [] (j ∷ js) (f ∷ fs) d e = absurd (let z : ◌≡◌ {A = ℕ} 0 1 = cc in let y : ⊥ = omega arith in y)
same_handles v laws (k ∷ ks) [] [] d e = absurd (let z : ◌≡◌ {A = ℕ} 0 1 = cc in let y : ⊥ = omega arith in y)
same_handles v laws (k ∷ ks) [] (f ∷ fs) d e = absurd (let z : ◌≡◌ {A = ℕ} 0 1 = cc in let y : ⊥ = omega arith in y)
same_handles v laws (k ∷ ks) (j ∷ js) [] d e = absurd (let z : ◌≡◌ {A = ℕ} 0 1 = cc in let y : ⊥ = omega arith in y)
same_handles v laws (k ∷ ks) (j ∷ js) (f ∷ fs) d e =
    let dk : under v k ≡ Some f = cc in
    let ej : under v j ≡ Some f = cc in
    let dks : map (under v) ks ≡ map Some fs = cc in
    let ejs : map (under v) js ≡ map Some fs = cc in
    let p : k ≡ j = laws.one_handle k j f dk ej in
    let q : ks ≡ js = same_handles v laws ks js fs dks ejs in
    cc

abbrev state_of : RootTwoPower → List Quadruple → State
state_of p q = record { power = p; quadruples = q }

module _ (v : Meaning) (laws : Laws v) (s t : State) (ls : length s.quadruples ≡ 2 ^ qubits_of v) (lt : length t.quadruples ≡ 2 ^ qubits_of v)
    (x y : Record) (ox : RecordOf v s x) (oy : RecordOf v t y) where
  -- equal records are of the same columns
  same_columns : x ≡ y → (k : Component) → columns_of_state (qubits_of v) s k ≡ columns_of_state (qubits_of v) t k
  unfolding RecordStands AllStand StandFor
  same_columns e k = same_functions _ _ (sym (ox.stand k) ∙ ap (λ (z : Record). map (under v) (recorded z k)) e ∙ oy.stand k)

  same_states : x ≡ y → s ≡ t
  same_states e =
      ap₂ state_of (ap root_two_power (sym ox.powered ∙ ap (λ (z : Record). z.power.0) e ∙ oy.powered)) (same_state (qubits_of v) s t ls lt (same_columns e))

  -- records of one state have the same handles
  same_places : s ≡ t → (k : Component) → recorded x k ≡ recorded y k
  unfolding RecordStands AllStand StandFor
  same_places e k =
      same_handles v laws _ _ (columns_of_state (qubits_of v) s k) (ox.stand k) (oy.stand k ∙ ap (λ (z : State). map Some (columns_of_state (qubits_of v) z k)) (sym e))

  same_values : s ≡ t → x ≡ y
  same_values e = same_value x y (ox.powered ∙ ap (λ (z : State). z.power.0) e ∙ sym oy.powered) (same_places e)

pub same_record_law : SameRecordLaws
same_record_law v laws s t ls lt x y ox oy = (same_states v laws s t ls lt x y ox oy, same_values v laws s t ls lt x y ox oy)
