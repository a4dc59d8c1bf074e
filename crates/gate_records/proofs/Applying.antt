-- A gate on a record, from what its steps answered.
use Rattle.std.proofs.Common.{◌≡◌, ℕ, suc, ◌<◌, ◌≤◌, List, [], ◌∷◌, ◌++◌, length, Ok, Err, Result, sym, ap, ◌∙◌, subst}
use Rattle.exact.specs.Indices.{Below}
use Rattle.exact.specs.States.{State, normal_form, width}
use Rattle.exact.proofs.Widths.{at_least_one}
use Rattle.functions.specs.declared.faults.StoreFault.{StoreFault}
use Rattle.functions.specs.Tables.{Table, literal}
use Rattle.functions.specs.Meanings.{Setting, Meaning, Laws, qubits_of}
use Rattle.functions.specs.Growth.{Grew, Stopped, Built, StandFor}
use Rattle.functions.proofs.Growth.{grew_then, stopped_after, stopped_before}
use Rattle.gates.specs.declared.Gate.{Gate}
use Rattle.matrices.specs.Registers.{moved}
use Rattle.slicing.specs.declared.Component.{Component}
use Rattle.slicing.specs.declared.Component.TheVariants.{A, B, C, D}
use Rattle.slicing.specs.Columns.{Column, Represents}
use Rattle.slicing.specs.Columns.{Columns as Four}
use Rattle.slicing.specs.Operations.{all_repeated, for_each}
use Rattle.slicing.specs.Divisions.{reduced_columns, reduced_power, reduction_plan}
use Rattle.slicing.specs.Trimming.{trimmed_width, trimmed}
use Rattle.recipes.specs.declared.Recipe.{Recipe}
use Rattle.recipes.specs.Recipes.{gate_term, recipe_of, term_of, target, controls, product_of_literals, term_column, controls_product, new_columns, power_after, moved_columns, moved_power}
use Rattle.recipes.specs.Plans.{columns_of_state, literals_plan, term_plan, move_plan, gate_plan}
use Rattle.recipes.proofs.Applied.{state_stands, moved_power_is, moved_width, moved_columns_are}
use Rattle.columns.specs.declared.four.Columns.{Columns}
use Rattle.columns.specs.Columns.{handles_of, AllStand, TopsRepeated}
use Rattle.columns.proofs.Standing.{all_keep}
use Rattle.columns.proofs.InTurn.{for_each_then}
use Rattle.gate_columns.specs.declared.qubits.GateQubits.{GateQubits}
use Rattle.gate_columns.specs.declared.qubits.Literals.{Literals}
use Rattle.gate_columns.specs.Gates.{listed, LiteralsStand, LiteralsOf, LiteralsMade, NewColumnsMade}
use Rattle.reductions.specs.declared.reduced.Reduced.{Reduced}
use Rattle.reductions.specs.Reductions.{ReducedTo, ColumnsReduced}
use Rattle.records.specs.declared.record.Record.{Record}
use Rattle.records.specs.declared.excess.Excess.{Excess}
use Rattle.records.specs.declared.excess.Excess.TheVariants.{Power, Width}
use Rattle.records.specs.Records.{recorded, RecordStands, TrimmedTo, ColumnsTrimmed, Widened}
use Rattle.records.proofs.Recording.{widened_stands}
use Rattle.gate_records.specs.Moves.{RecordOf, move, RecordedState, GateApplied}

-- ---- on any columns
-- What a gate answers on the record of any columns: it makes the move's plan, and its answer is that of trimming.
unfoldable pub OnColumns : Meaning → Meaning → Gate → GateQubits → Record → Result (Result Record Excess) StoreFault → Type 0
OnColumns v w gate qs old r =
    (x : Four) → RecordStands v old x → Below (qubits_of v) (listed qs)
    → Built v w (move_plan (qubits_of v) (move gate qs) old.power.0 x) r
    (TrimmedTo w (moved_power (qubits_of v) (move gate qs) old.power.0 x) (suc (length old.handles.a)) (moved_columns (qubits_of v) (move gate qs) old.power.0 x))

-- the parts of a move's plan
abbrev literals_of : ℕ → GateQubits → List Table
literals_of n qs = literal n (target (listed qs)) ∷ literals_plan n (controls (listed qs))

abbrev terms_of : ℕ → Gate → GateQubits → Four → Component → List Table
terms_of n gate qs x k = term_plan n (target (listed qs)) (product_of_literals n (controls (listed qs))) (all_repeated x) (gate_term gate k)

abbrev rest_of : ℕ → Gate → GateQubits → ℕ → Four → List Table
rest_of n gate qs k x = reduction_plan n (power_after (move gate qs) k) (new_columns n (move gate qs) x)

plan_is : (n : ℕ) (gate : Gate) (qs : GateQubits) (k : ℕ) (x : Four) → literals_of n qs ++ (for_each (terms_of n gate qs x) [] ++ rest_of n gate qs k x) ≡ move_plan n (move gate qs) k x
unfolding move_plan controls_product
plan_is n gate qs k x = ap (λ (l : List Table). literals_of n qs ++ l) (for_each_then (terms_of n gate qs x) (rest_of n gate qs k x))

built_weaker : {X : Type 0} (P Q : X → Type 0) (v w : Meaning) (fs : List Table) (r : Result X StoreFault) → ((x : X) → P x → Q x) → Built v w fs r P → Built v w fs r Q
unfolding Built
built_weaker P Q v w fs (Ok x) f h = (h.0, f x h.1)
built_weaker P Q v w fs (Err e) f h = h

-- the terms of a gate's recipe are those of the table
same_terms : (w : Meaning) (y : Columns 24) (n q : ℕ) (c : Table) (x : Four) (gate : Gate) → AllStand w y (λ j. term_column n q c x (term_of (recipe_of gate) j)) → (j : Component) → StandFor w (handles_of y j) (term_column n q c x (gate_term gate j))
unfolding AllStand
same_terms w y n q c x gate h A = h A
same_terms w y n q c x gate h B = h B
same_terms w y n q c x gate h C = h C
same_terms w y n q c x gate h D = h D

-- the new columns, in the store that has the literals
new_later : (v u w : Meaning) (fs : List Table) (gate : Gate) (qs : GateQubits) (hs : Columns 24) (l : Literals) (recipe : Recipe) (r : Result (Columns 24) StoreFault) → Grew v u fs → l.target.0 ≡ target (listed qs) → recipe ≡ recipe_of gate
    → NewColumnsMade u w hs l recipe r → (x : Four) → AllStand u hs (all_repeated x) → LiteralsStand u l (product_of_literals (qubits_of v) (controls (listed qs)))
    → Built u w (for_each (terms_of (qubits_of v) gate qs x) []) r (λ y. AllStand w y (new_columns (qubits_of v) (move gate qs) x))
unfolding NewColumnsMade new_columns controls_product AllStand
new_later v u w fs gate qs hs l recipe r g named by m x h k =
    let n = qubits_of v in
    let c : Table = product_of_literals n (controls (listed qs)) in
    built_weaker (λ y. AllStand w y (λ j. term_column n (target (listed qs)) c (all_repeated x) (term_of (recipe_of gate) j))) (λ y. AllStand w y (new_columns n (move gate qs) x)) u w (for_each (terms_of n gate qs x) []) r
    (λ y d. same_terms w y n (target (listed qs)) c (all_repeated x) gate d)
    (subst (λ (q : ℕ). Built u w (for_each (λ j. term_plan n q c (all_repeated x) (term_of (recipe_of gate) j)) []) r (λ y. AllStand w y (λ j. term_column n q c (all_repeated x) (term_of (recipe_of gate) j)))) named
    (subst (λ (s : Setting). Built u w (for_each (λ j. term_plan s.qubits l.target.0 c (all_repeated x) (term_of (recipe_of gate) j)) []) r (λ y. AllStand w y (λ j. term_column s.qubits l.target.0 c (all_repeated x) (term_of (recipe_of gate) j)))) g.setting
    (subst (λ (z : Recipe). Built u w (for_each (λ j. term_plan (qubits_of u) l.target.0 c (all_repeated x) (term_of z j)) []) r (λ y. AllStand w y (λ j. term_column (qubits_of u) l.target.0 c (all_repeated x) (term_of z j)))) by
    (m (all_repeated x) c h k))))

-- the normal form, in the store that has the new columns
reduced_later : (v u w : Meaning) (fs : List Table) (hs : Columns 24) (k : ℕ) (r : Result Reduced StoreFault) → Grew v u fs → ColumnsReduced u w hs k r → (y : Four) → AllStand u hs y
    → Built u w (reduction_plan (qubits_of v) k y) r (ReducedTo w (qubits_of v) k y)
unfolding ColumnsReduced
reduced_later v u w fs hs k r g m y h = subst (λ (s : Setting). Built u w (reduction_plan s.qubits k y) r (ReducedTo w s.qubits k y)) g.setting (m y h)

module _ (v w₁ w₂ w₃ : Meaning) (gate : Gate) (qs : GateQubits) (old : Record) where
  pub apply_stopped_literals : (e : StoreFault) → LiteralsMade v w₁ qs (Err e) → OnColumns v w₁ gate qs old (Err e)
  unfolding OnColumns LiteralsMade Built
  apply_stopped_literals e m x h b =
      subst (λ (l : List Table). Stopped v w₁ l e) (plan_is (qubits_of v) gate qs old.power.0 x) (stopped_before (literals_of (qubits_of v) qs) _ (m b))

  module _ (l : Literals) (m₁ : LiteralsMade v w₁ qs (Ok l)) (wide rs : Columns 24) (wider : Widened old wide) (tops : TopsRepeated wide rs) (recipe : Recipe) (by : recipe ≡ recipe_of gate) where
    named : Below (qubits_of v) (listed qs) → Grew v w₁ (literals_of (qubits_of v) qs) × LiteralsOf w₁ (qubits_of v) qs l
    unfolding LiteralsMade Built
    named b = m₁ b

    new_made : (r : Result (Columns 24) StoreFault) → NewColumnsMade w₁ w₂ rs l recipe r → (x : Four) → RecordStands v old x → Below (qubits_of v) (listed qs)
        → Built w₁ w₂ (for_each (terms_of (qubits_of v) gate qs x) []) r (λ y. AllStand w₂ y (new_columns (qubits_of v) (move gate qs) x))
    new_made r m x h b =
        let a = named b in
        new_later v w₁ w₂ _ gate qs rs l recipe r a.0 a.1.of_qubits by m x
        (all_keep v w₁ _ a.0 rs (all_repeated x) (tops.stand v x (widened_stands v old wide x wider h))) a.1.stand

    pub apply_stopped_columns : (e : StoreFault) → NewColumnsMade w₁ w₂ rs l recipe (Err e) → OnColumns v w₂ gate qs old (Err e)
    unfolding OnColumns Built
    apply_stopped_columns e m x h b =
        subst (λ (l : List Table). Stopped v w₂ l e) (plan_is (qubits_of v) gate qs old.power.0 x)
        (stopped_after (literals_of (qubits_of v) qs) _ (named b).0 (stopped_before (for_each (terms_of (qubits_of v) gate qs x) []) _ (new_made (Err e) m x h b)))

    module _ (hs : Columns 24) (m₂ : NewColumnsMade w₁ w₂ rs l recipe (Ok hs)) (k : ℕ) (raised : k ≡ power_after (move gate qs) old.power.0) where
      columns_made : (x : Four) → RecordStands v old x → Below (qubits_of v) (listed qs)
          → Grew w₁ w₂ (for_each (terms_of (qubits_of v) gate qs x) []) × AllStand w₂ hs (new_columns (qubits_of v) (move gate qs) x)
      unfolding Built
      columns_made x h b = new_made (Ok hs) m₂ x h b

      reduced_made : (r : Result Reduced StoreFault) → ColumnsReduced w₂ w₃ hs k r → (x : Four) → RecordStands v old x → Below (qubits_of v) (listed qs)
          → Built w₂ w₃ (rest_of (qubits_of v) gate qs old.power.0 x) r (ReducedTo w₃ (qubits_of v) (power_after (move gate qs) old.power.0) (new_columns (qubits_of v) (move gate qs) x))
      reduced_made r m x h b =
          let c = columns_made x h b in
          let n = qubits_of v in
          let y : Four = new_columns n (move gate qs) x in
          subst (λ (j : ℕ). Built w₂ w₃ (reduction_plan n j y) r (ReducedTo w₃ n j y)) raised
          (reduced_later v w₂ w₃ (literals_of n qs ++ for_each (terms_of n gate qs x) []) hs k r (grew_then _ _ (named b).0 c.0) m y c.1)

      pub apply_stopped_reduction : (e : StoreFault) → ColumnsReduced w₂ w₃ hs k (Err e) → OnColumns v w₃ gate qs old (Err e)
      unfolding OnColumns Built
      apply_stopped_reduction e m x h b =
          subst (λ (l : List Table). Stopped v w₃ l e) (plan_is (qubits_of v) gate qs old.power.0 x)
          (stopped_after (literals_of (qubits_of v) qs) _ (named b).0 (stopped_after (for_each (terms_of (qubits_of v) gate qs x) []) _ (columns_made x h b).0 (reduced_made (Err e) m x h b)))

      pub apply_done : (y : Reduced) → ColumnsReduced w₂ w₃ hs k (Ok y) → Laws w₃ → length y.columns.a ≡ suc (length old.handles.a) → (a : Result Record Excess) → ColumnsTrimmed y.columns y.power.0 a → OnColumns v w₃ gate qs old (Ok a)
      unfolding OnColumns Built ColumnsTrimmed moved_columns moved_power
      apply_done y m laws es a t x h b =
          let n = qubits_of v in
          let z : Four = new_columns n (move gate qs) x in
          let j : ℕ = power_after (move gate qs) old.power.0 in
          let d : Grew w₂ w₃ (rest_of n gate qs old.power.0 x) × ReducedTo w₃ n j z y = reduced_made (Ok y) m x h b in
          let g : Grew v w₃ (literals_of n qs ++ (for_each (terms_of n gate qs x) [] ++ rest_of n gate qs old.power.0 x)) = grew_then (literals_of n qs) _ (named b).0 (grew_then (for_each (terms_of n gate qs x) []) _ (columns_made x h b).0 d.0) in
          let e : TrimmedTo w₃ y.power.0 (length y.columns.a) (reduced_columns n j z) a = t w₃ (reduced_columns n j z) laws d.1.stand in (
            subst (λ (l : List Table). Grew v w₃ l) (plan_is n gate qs old.power.0 x) g,
            subst (λ (count : ℕ). TrimmedTo w₃ (reduced_power n j z) count (reduced_columns n j z) a) es
                (subst (λ (p : ℕ). TrimmedTo w₃ p (length y.columns.a) (reduced_columns n j z) a) d.1.power e),
          )

-- ---- on the record of a state
-- what trimming answers, where the columns are those of a state in normal form
as_state : (w : Meaning) (k count : ℕ) (x : Four) (t : State) (n : ℕ) → n ≡ qubits_of w → k ≡ t.power.0 → trimmed_width x count ≡ width t.quadruples → ((c : Component) → trimmed count x c ≡ columns_of_state n t c)
    → (a : Result Record Excess) → TrimmedTo w k count x a → RecordedState w t a
unfolding RecordStands AllStand
as_state w k count x t n en ek ew ec (Ok r) h = record {
  powered = h.powered ∙ ek;
  wide = h.wide ∙ ew;
  stand = λ c. subst (λ (ss : Column). StandFor w (recorded r c) ss) (ec c ∙ ap (λ (m : ℕ). columns_of_state m t c) en) (h.stand c);
}
as_state w k count x t n en ek ew ec (Err (Power p)) h = (h.0 ∙ ek, subst (λ (j : ℕ). 40 < j) ek h.1)
as_state w k count x t n en ek ew ec (Err (Width u)) h = (h.0 ∙ ew, subst (λ (j : ℕ). j ≤ 40) ek h.1, subst (λ (j : ℕ). 22 < j) ew h.2)

-- the same answer, by the power and the width of the state
by_state : (v w : Meaning) (gate : Gate) (qs : GateQubits) (old : Record) (r : Result (Result Record Excess) StoreFault) → OnColumns v w gate qs old r → (s : State) → RecordOf v s old → Below (qubits_of v) (listed qs)
    → Built v w (gate_plan (qubits_of v) (move gate qs) s) r
    (TrimmedTo w (moved_power (qubits_of v) (move gate qs) s.power.0 (columns_of_state (qubits_of v) s)) (suc (width s.quadruples)) (moved_columns (qubits_of v) (move gate qs) s.power.0 (columns_of_state (qubits_of v) s)))
unfolding OnColumns gate_plan
by_state v w gate qs old r m s of b =
    let n = qubits_of v in
    let x : Four = columns_of_state n s in
    subst (λ (u : ℕ). Built v w (move_plan n (move gate qs) s.power.0 x) r (TrimmedTo w (moved_power n (move gate qs) s.power.0 x) (suc u) (moved_columns n (move gate qs) s.power.0 x))) of.wide
    (subst (λ (k : ℕ). Built v w (move_plan n (move gate qs) k x) r (TrimmedTo w (moved_power n (move gate qs) k x) (suc (length old.handles.a)) (moved_columns n (move gate qs) k x))) of.powered
    (m x of.stand b))

pub on_state : (v w : Meaning) (gate : Gate) (qs : GateQubits) (old : Record) (r : Result (Result Record Excess) StoreFault) → OnColumns v w gate qs old r → GateApplied v w gate qs old r
unfolding GateApplied Built
on_state v w gate qs old (Err e) m s l of placed = by_state v w gate qs old (Err e) m s of placed.below
on_state v w gate qs old (Ok a) m s l of placed =
    let n = qubits_of v in
    let x : Four = columns_of_state n s in
    let u : ℕ = width s.quadruples in
    let some : 1 ≤ u = at_least_one s.quadruples in
    let rep : Represents n u x s.quadruples = state_stands n s l in
    let d = by_state v w gate qs old (Ok a) m s of placed.below in (
      d.0,
      as_state w _ _ _ (normal_form (moved n (move gate qs) s)) n (ap (λ (z : Setting). z.qubits) (sym d.0.setting))
          (moved_power_is n u (move gate qs) x s some placed rep) (moved_width n u (move gate qs) x s some placed rep) (moved_columns_are n u (move gate qs) x s some placed rep) a d.1,
    )
