-- Terms, and the four terms of a recipe, from what their steps answered.
use Rattle.std.proofs.Common.{◌≡◌, ℕ, List, [], ◌∷◌, ◌++◌, Some, Ok, Err, Result, subst}
use Rattle.functions.specs.declared.faults.StoreFault.{StoreFault}
use Rattle.functions.specs.Tables.{Table}
use Rattle.functions.specs.Meanings.{Setting, Meaning, qubits_of, under}
use Rattle.functions.specs.Growth.{Grew, Built, StandFor}
use Rattle.functions.proofs.Growth.{grew_then, built_after, built_stopped}
use Rattle.slicing.specs.Columns.{Column}
use Rattle.slicing.specs.Columns.{Columns as Four}
use Rattle.slicing.specs.Operations.{sums_plan, addition_plan}
use Rattle.recipes.specs.declared.terms.Operand.{Operand}
use Rattle.recipes.specs.declared.terms.FirstCarry.{FirstCarry}
use Rattle.recipes.specs.declared.terms.Term.{Term}
use Rattle.recipes.specs.declared.terms.Term.TheVariants.{Just, Add}
use Rattle.recipes.specs.Recipes.{operand_column, first_carry, term_column}
use Rattle.recipes.specs.Plans.{operand_plan, term_plan}
use Rattle.columns.specs.declared.four.Columns.{Columns}
use Rattle.columns.specs.Columns.{AllStand, ColumnBuilt, ColumnsAdded}
use Rattle.functions.proofs.Handles.{stand_for_keeps}
use Rattle.columns.proofs.Standing.{all_keep}
use Rattle.columns.proofs.Later.{added_later}
use Rattle.gate_columns.specs.declared.qubits.Literals.{Literals}
use Rattle.gate_columns.specs.Gates.{LiteralsStand, FirstCarryMade, OperandMade, TermMade}
use Rattle.gate_columns.proofs.Naming.{literals_keep}

-- the steps, in a store with the setting of v
operand_later : (v u w : Meaning) (fs : List Table) (hs : Columns 24) (l : Literals) (o : Operand) (r : Result (List ℕ) StoreFault) → Grew v u fs → OperandMade u w hs l o r
    → (x : Four) (c : Table) → AllStand v hs x → LiteralsStand v l c
    → ColumnBuilt u w (operand_plan (qubits_of v) l.target.0 c x o) (operand_column (qubits_of v) l.target.0 c x o) r
unfolding OperandMade
operand_later v u w fs hs l o r g m x c h k =
    subst (λ (s : Setting). ColumnBuilt u w (operand_plan s.qubits l.target.0 c x o) (operand_column s.qubits l.target.0 c x o) r) g.setting
    (m x c (all_keep v u fs g hs x h) (literals_keep v u fs g l c k))

carry_later : (v u w : Meaning) (fs : List Table) (l : Literals) (e : FirstCarry) (r : Result ℕ StoreFault) → Grew v u fs → FirstCarryMade u w l e r → (c : Table) → LiteralsStand v l c
    → Built u w (first_carry (qubits_of v) l.target.0 c e ∷ []) r (λ h. under w h ≡ Some (first_carry (qubits_of v) l.target.0 c e))
unfolding FirstCarryMade
carry_later v u w fs l e r g m c k =
    subst (λ (s : Setting). Built u w (first_carry s.qubits l.target.0 c e ∷ []) r (λ h. under w h ≡ Some (first_carry s.qubits l.target.0 c e))) g.setting
    (m c (literals_keep v u fs g l c k))

pub term_later : (v u w : Meaning) (fs : List Table) (hs : Columns 24) (l : Literals) (t : Term) (r : Result (List ℕ) StoreFault) → Grew v u fs → TermMade u w hs l t r
    → (x : Four) (c : Table) → AllStand v hs x → LiteralsStand v l c
    → ColumnBuilt u w (term_plan (qubits_of v) l.target.0 c x t) (term_column (qubits_of v) l.target.0 c x t) r
unfolding TermMade
term_later v u w fs hs l t r g m x c h k =
    subst (λ (s : Setting). ColumnBuilt u w (term_plan s.qubits l.target.0 c x t) (term_column s.qubits l.target.0 c x t) r) g.setting
    (m x c (all_keep v u fs g hs x h) (literals_keep v u fs g l c k))

pub term_just : (v w : Meaning) (hs : Columns 24) (l : Literals) (o : Operand) (r : Result (List ℕ) StoreFault) → OperandMade v w hs l o r → TermMade v w hs l (Just o) r
unfolding TermMade OperandMade term_plan term_column
term_just v w hs l o r m x c h k = m x c h k

module _ (v w₁ w₂ w₃ w₄ : Meaning) (hs : Columns 24) (l : Literals) (o p : Operand) (e : FirstCarry) where
  pub term_stopped_first : (d : StoreFault) → OperandMade v w₁ hs l o (Err d) → TermMade v w₁ hs l (Add o p e) (Err d)
  unfolding TermMade OperandMade term_plan
  term_stopped_first d m x c h k = built_stopped _ _ v w₁ (operand_plan (qubits_of v) l.target.0 c x o) _ d (m x c h k)

  module _ (hp : List ℕ) (m₁ : OperandMade v w₁ hs l o (Ok hp)) where
    -- the first operand
    first : (x : Four) (c : Table) → AllStand v hs x → LiteralsStand v l c
        → Grew v w₁ (operand_plan (qubits_of v) l.target.0 c x o) × StandFor w₁ hp (operand_column (qubits_of v) l.target.0 c x o)
    unfolding OperandMade Built
    first x c h k = m₁ x c h k

    pub term_stopped_second : (d : StoreFault) → OperandMade w₁ w₂ hs l p (Err d) → TermMade v w₂ hs l (Add o p e) (Err d)
    unfolding TermMade term_plan
    term_stopped_second d m x c h k =
        let a = (first x c h k).0 in
        built_after _ v w₁ w₂ _ _ (Err d) a
        (built_stopped _ _ w₁ w₂ (operand_plan (qubits_of v) l.target.0 c x p) _ d (operand_later v w₁ w₂ _ hs l p (Err d) a m x c h k))

    module _ (hq : List ℕ) (m₂ : OperandMade w₁ w₂ hs l p (Ok hq)) where
      -- both operands
      second : (x : Four) (c : Table) → AllStand v hs x → LiteralsStand v l c
          → Grew w₁ w₂ (operand_plan (qubits_of v) l.target.0 c x p) × StandFor w₂ hq (operand_column (qubits_of v) l.target.0 c x p)
      unfolding Built
      second x c h k = operand_later v w₁ w₂ _ hs l p (Ok hq) (first x c h k).0 m₂ x c h k

      both_made : (x : Four) (c : Table) → AllStand v hs x → LiteralsStand v l c
          → Grew v w₂ (operand_plan (qubits_of v) l.target.0 c x o ++ operand_plan (qubits_of v) l.target.0 c x p)
      both_made x c h k = grew_then _ _ (first x c h k).0 (second x c h k).0

      pub term_stopped_carry : (d : StoreFault) → FirstCarryMade w₂ w₃ l e (Err d) → TermMade v w₃ hs l (Add o p e) (Err d)
      unfolding TermMade term_plan addition_plan
      term_stopped_carry d m x c h k =
          built_after _ v w₁ w₃ _ _ (Err d) (first x c h k).0
          (built_after _ w₁ w₂ w₃ _ _ (Err d) (second x c h k).0
          (built_stopped _ _ w₂ w₃ (first_carry (qubits_of v) l.target.0 c e ∷ []) _ d (carry_later v w₂ w₃ _ l e (Err d) (both_made x c h k) m c k)))

      pub term_added : (he : ℕ) → FirstCarryMade w₂ w₃ l e (Ok he) → (r : Result (List ℕ) StoreFault) → ColumnsAdded w₃ w₄ hp hq he r → TermMade v w₄ hs l (Add o p e) r
      unfolding TermMade term_plan term_column addition_plan Built
      term_added he m₃ r m x c h k =
          let n = qubits_of v in
          let q = l.target.0 in
          let po : List Table = operand_plan n q c x o in
          let pp : List Table = operand_plan n q c x p in
          let ps : Column = operand_column n q c x o in
          let qs : Column = operand_column n q c x p in
          let f : Table = first_carry n q c e in
          let a = first x c h k in
          let b = second x c h k in
          let g₂ : Grew v w₂ (po ++ pp) = both_made x c h k in
          let d : Grew w₂ w₃ (f ∷ []) × (under w₃ he ≡ Some f) = carry_later v w₂ w₃ (po ++ pp) l e (Ok he) g₂ m₃ c k in
          let g₃ : Grew v w₃ ((po ++ pp) ++ (f ∷ [])) = grew_then (po ++ pp) (f ∷ []) g₂ d.0 in
          let hp₃ : StandFor w₃ hp ps = stand_for_keeps w₂ w₃ (f ∷ []) d.0 hp ps (stand_for_keeps w₁ w₂ pp b.0 hp ps a.1) in
          let hq₃ : StandFor w₃ hq qs = stand_for_keeps w₂ w₃ (f ∷ []) d.0 hq qs b.1 in
          built_after _ v w₁ w₄ po (pp ++ (f ∷ sums_plan n f f ps qs)) r a.0
          (built_after _ w₁ w₂ w₄ pp (f ∷ sums_plan n f f ps qs) r b.0
          (built_after _ w₂ w₃ w₄ (f ∷ []) (sums_plan n f f ps qs) r d.0
          (added_later v w₃ w₄ ((po ++ pp) ++ (f ∷ [])) hp hq he r g₃ m ps qs f hp₃ hq₃ d.1)))
