-- The four new columns of a recipe, from what its terms answered.
use Rattle.std.proofs.Common.{◌≡◌, ℕ, List, [], ◌++◌, Ok, Err}
use Rattle.functions.specs.declared.faults.StoreFault.{StoreFault}
use Rattle.functions.specs.Tables.{Table}
use Rattle.functions.specs.Meanings.{Meaning, qubits_of}
use Rattle.functions.specs.Growth.{Grew, Built, StandFor}
use Rattle.functions.proofs.Growth.{grew_none, grew_then}
use Rattle.slicing.specs.declared.Component.{Component}
use Rattle.slicing.specs.declared.Component.TheVariants.{A, B, C, D}
use Rattle.slicing.specs.Columns.{Column}
use Rattle.slicing.specs.Columns.{Columns as Four}
use Rattle.recipes.specs.declared.Recipe.{Recipe}
use Rattle.recipes.specs.Recipes.{term_of, term_column}
use Rattle.recipes.specs.Plans.{term_plan}
use Rattle.columns.specs.declared.four.Columns.{Columns}
use Rattle.columns.specs.Columns.{AllStand}
use Rattle.columns.proofs.InTurn.{stopped_in_a, stopped_in_b, stopped_in_c, stopped_in_d, all_four, four_stand}
use Rattle.gate_columns.specs.declared.qubits.Literals.{Literals}
use Rattle.gate_columns.specs.Gates.{LiteralsStand, TermMade, NewColumnsMade}
use Rattle.gate_columns.proofs.Terms.{term_later}

-- what a term makes, and its column
abbrev plan : ℕ → Literals → Recipe → Table → Four → Component → List Table
plan n l recipe c x k = term_plan n l.target.0 c x (term_of recipe k)

abbrev column : ℕ → Literals → Recipe → Table → Four → Component → Column
column n l recipe c x k = term_column n l.target.0 c x (term_of recipe k)

module _ (v w₁ w₂ w₃ w₄ : Meaning) (hs : Columns 24) (l : Literals) (recipe : Recipe) where
  pub new_stopped_a : (e : StoreFault) → TermMade v w₁ hs l recipe.a (Err e) → NewColumnsMade v w₁ hs l recipe (Err e)
  unfolding NewColumnsMade TermMade Built
  new_stopped_a e m x c h k = stopped_in_a (plan (qubits_of v) l recipe c x) [] (m x c h k)

  module _ (ha : List ℕ) (ma : TermMade v w₁ hs l recipe.a (Ok ha)) where
    made_a : (x : Four) (c : Table) → AllStand v hs x → LiteralsStand v l c → Grew v w₁ (plan (qubits_of v) l recipe c x A) × StandFor w₁ ha (column (qubits_of v) l recipe c x A)
    unfolding TermMade Built
    made_a x c h k = ma x c h k

    pub new_stopped_b : (e : StoreFault) → TermMade w₁ w₂ hs l recipe.b (Err e) → NewColumnsMade v w₂ hs l recipe (Err e)
    unfolding NewColumnsMade Built
    new_stopped_b e m x c h k =
        let a = (made_a x c h k).0 in
        stopped_in_b (plan (qubits_of v) l recipe c x) [] a (term_later v w₁ w₂ _ hs l recipe.b (Err e) a m x c h k)

    module _ (hb : List ℕ) (mb : TermMade w₁ w₂ hs l recipe.b (Ok hb)) where
      made_b : (x : Four) (c : Table) → AllStand v hs x → LiteralsStand v l c → Grew w₁ w₂ (plan (qubits_of v) l recipe c x B) × StandFor w₂ hb (column (qubits_of v) l recipe c x B)
      unfolding Built
      made_b x c h k = term_later v w₁ w₂ _ hs l recipe.b (Ok hb) (made_a x c h k).0 mb x c h k

      until_b : (x : Four) (c : Table) → AllStand v hs x → LiteralsStand v l c → Grew v w₂ (plan (qubits_of v) l recipe c x A ++ plan (qubits_of v) l recipe c x B)
      until_b x c h k = grew_then _ _ (made_a x c h k).0 (made_b x c h k).0

      pub new_stopped_c : (e : StoreFault) → TermMade w₂ w₃ hs l recipe.c (Err e) → NewColumnsMade v w₃ hs l recipe (Err e)
      unfolding NewColumnsMade Built
      new_stopped_c e m x c h k =
          stopped_in_c (plan (qubits_of v) l recipe c x) [] (made_a x c h k).0 (made_b x c h k).0
          (term_later v w₂ w₃ _ hs l recipe.c (Err e) (until_b x c h k) m x c h k)

      module _ (hc : List ℕ) (mc : TermMade w₂ w₃ hs l recipe.c (Ok hc)) where
        made_c : (x : Four) (c : Table) → AllStand v hs x → LiteralsStand v l c → Grew w₂ w₃ (plan (qubits_of v) l recipe c x C) × StandFor w₃ hc (column (qubits_of v) l recipe c x C)
        unfolding Built
        made_c x c h k = term_later v w₂ w₃ _ hs l recipe.c (Ok hc) (until_b x c h k) mc x c h k

        until_c : (x : Four) (c : Table) → AllStand v hs x → LiteralsStand v l c → Grew v w₃ ((plan (qubits_of v) l recipe c x A ++ plan (qubits_of v) l recipe c x B) ++ plan (qubits_of v) l recipe c x C)
        until_c x c h k = grew_then _ _ (until_b x c h k) (made_c x c h k).0

        pub new_stopped_d : (e : StoreFault) → TermMade w₃ w₄ hs l recipe.d (Err e) → NewColumnsMade v w₄ hs l recipe (Err e)
        unfolding NewColumnsMade Built
        new_stopped_d e m x c h k =
            stopped_in_d (plan (qubits_of v) l recipe c x) [] (made_a x c h k).0 (made_b x c h k).0 (made_c x c h k).0
            (term_later v w₃ w₄ _ hs l recipe.d (Err e) (until_c x c h k) m x c h k)

        -- the handles of all four
        pub new_made : (y : Columns 24) → y.a ≡ ha → y.b ≡ hb → y.c ≡ hc → TermMade w₃ w₄ hs l recipe.d (Ok y.d) → NewColumnsMade v w₄ hs l recipe (Ok y)
        unfolding NewColumnsMade Built
        new_made y ea eb ec m x c h k =
            let a = made_a x c h k in
            let b = made_b x c h k in
            let d = made_c x c h k in
            let e : Grew w₃ w₄ (plan (qubits_of v) l recipe c x D) × StandFor w₄ y.d (column (qubits_of v) l recipe c x D) = term_later v w₃ w₄ _ hs l recipe.d (Ok y.d) (until_c x c h k) m x c h k in (
              all_four (plan (qubits_of v) l recipe c x) [] a.0 b.0 d.0 e.0 (grew_none w₄),
              four_stand w₁ w₂ w₃ w₄ _ _ _ b.0 d.0 e.0 y (column (qubits_of v) l recipe c x)
                  (rw ea a.1) (rw eb b.1) (rw ec d.1) e.1,
            )
