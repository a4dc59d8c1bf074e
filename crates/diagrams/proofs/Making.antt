-- A function that was formed is made in the sense of a store; one that fell short exceeds the limit.
use Rattle.std.proofs.Common.{◌≡◌, ℕ, ◌+◌, ◌^◌, ◌<◌, ◌≤◌, Bool, true, false, ◌||◌, ◌⊎◌, [], ◌∷◌, ◌++◌, length, Some, Ok, Result, sym, refl, ap, ◌∙◌, subst, inl, inr, ⊎_elim, arith}
use Rattle.std.proofs.lemmas.Bool.{cases_Bool, or_left, or_right, or_cases}
use Rattle.std.proofs.lemmas.List.{append-nil}
use Rattle.exact.proofs.Indices.{same_equal}
use Rattle.functions.specs.declared.faults.StoreFault.{StoreFault}
use Rattle.functions.specs.Tables.{Table, constant}
use Rattle.functions.specs.Sets.{same, among, is_constant, space, parts_of_all}
use Rattle.functions.specs.Meanings.{functions_of, held, Holds}
use Rattle.functions.specs.Growth.{Grew, with_parts, Exceeds}
use Rattle.functions.specs.Answers.{Made}
use Rattle.functions.proofs.Sets.{among_append, space_mono, space_more}
use Rattle.functions.proofs.Constants.{constant_one_of}
use Rattle.diagrams.specs.Diagrams.{Diagram, function_over, Held, Reduced}
use Rattle.diagrams.specs.Parts.{prefix_parts}
use Rattle.diagrams.specs.Forming.{Keeps, Wanted, Restricts, OnlyParts, Formed, Lacks, Short}
use Rattle.diagrams.specs.Meanings.{nodes_from, diagram_meaning, InLimit}
use Rattle.diagrams.proofs.Canonical.{constant_held, length_over, over_kept, held_kept}
use Rattle.diagrams.proofs.Wanted.{over_zero, over_one}
use Rattle.diagrams.proofs.Prefixes.{FromPrefix, prefix_part}
use Rattle.diagrams.proofs.Parts.{lifted, over_lifted, over_lowered, restricts_prefix, restricts_from}
use Rattle.diagrams.proofs.Reaching.{node_varies, part_reach, restricts_falls}
use Rattle.diagrams.proofs.Entries.{among_node, filled_space}
use Rattle.diagrams.proofs.Meanings.{under_held, under_inverse, holds_node, node_holds}

-- bits that imply each other are equal
pub same_bit : (a b : Bool) → (a ≡ true → b ≡ true) → (b ≡ true → a ≡ true) → a ≡ b
same_bit true b there back = sym (there refl)
same_bit false true there back = back refl
same_bit false false there back = refl

-- From s to t, with nothing new but parts of a function f of n qubits.
pub record Grown (n limit : ℕ) (s t : Diagram) (f : Table) : Type 0 where
  pub reduced : Reduced n s
  pub inside : InLimit limit s
  pub reduced_after : Reduced n t
  pub keeps : Keeps s t
  pub sized : length f ≡ 2 ^ n
  pub only_parts : OnlyParts s t n f

module _ (n limit : ℕ) (s t : Diagram) (f : Table) (w : Grown n limit s t f) where
  kept_over : (k : ℕ) → Held s k → function_over t n k ≡ function_over s n k
  kept_over k hk = over_kept n s t w.reduced w.keeps n k hk

  -- a node of t has a function that was held, or that is a part of f
  node_told : (k : ℕ) → 0 < t.height k → Holds (diagram_meaning n limit s) (function_over t n k) ⊎ (among (function_over t n k) (prefix_parts n f) ≡ true)
  node_told k p = ⊎_elim old new (w.only_parts k p)
    where
      old : 0 < s.height k → Holds (diagram_meaning n limit s) (function_over t n k) ⊎ (among (function_over t n k) (prefix_parts n f) ≡ true)
      old q = inl (subst (Holds (diagram_meaning n limit s)) (sym (kept_over k (λ two. q))) (node_holds n limit s w.reduced w.inside k q))

      new : Restricts n f (t.height k) (function_over t (t.height k) k) → Holds (diagram_meaning n limit s) (function_over t n k) ⊎ (among (function_over t n k) (prefix_parts n f) ≡ true)
      new r = inr (prefix_part n f (function_over t n k)
          (subst (FromPrefix n n f) (sym (over_lifted t k (t.height k) n (omega arith) (w.reduced_after.within k))) (restricts_from n f (t.height k) (function_over t (t.height k) k) r w.sized))
          (node_varies n t w.reduced_after k p))

-- ---- formed
module _ (n limit : ℕ) (s t : Diagram) (f : Table) (w : Grown n limit s t f) (inside : InLimit limit t) (r : ℕ) (hr : Held t r) (is : function_over t n r ≡ f) where
  held_after : (g : Table) → among g (held (diagram_meaning n limit t)) ≡ (among g (held (diagram_meaning n limit s)) || among g (prefix_parts n f ++ []))
  held_after g = same_bit (among g (held (diagram_meaning n limit t))) (among g (held (diagram_meaning n limit s)) || among g (prefix_parts n f ++ [])) there back
    where
      there : among g (held (diagram_meaning n limit t)) ≡ true → (among g (held (diagram_meaning n limit s)) || among g (prefix_parts n f ++ [])) ≡ true
      there e =
          let v = holds_node n limit t g e in
          ⊎_elim
          (λ (a : Holds (diagram_meaning n limit s) (function_over t n v.handle)). or_left (among g (held (diagram_meaning n limit s))) (among g (prefix_parts n f ++ [])) (subst (Holds (diagram_meaning n limit s)) (sym v.is) a))
          (λ a. or_right (among g (held (diagram_meaning n limit s))) (among g (prefix_parts n f ++ [])) (ap (among g) (append-nil (prefix_parts n f)) ∙ ap (λ (x : Table). among x (prefix_parts n f)) v.is ∙ a))
          (node_told n limit s t f w v.handle v.node)

      back : (among g (held (diagram_meaning n limit s)) || among g (prefix_parts n f ++ [])) ≡ true → among g (held (diagram_meaning n limit t)) ≡ true
      back e = ⊎_elim
          (λ (a : Holds (diagram_meaning n limit s) g).
          let v = holds_node n limit s g a in
          let q : 0 < t.height v.handle = rw (w.keeps.height v.handle (λ two. v.node)) v.node in
          subst (Holds (diagram_meaning n limit t)) (sym (v.is ∙ sym (kept_over n limit s t f w v.handle (λ two. v.node)))) (node_holds n limit t w.reduced_after inside v.handle q))
          (λ a.
          let p = part_reach n t w.reduced_after r hr g (ap (λ (x : Table). among g (prefix_parts n x)) is ∙ ap (among g) (sym (append-nil (prefix_parts n f))) ∙ a) in
          subst (Holds (diagram_meaning n limit t)) (sym p.3) (node_holds n limit t w.reduced_after inside p.0 p.2))
          (or_cases (among g (held (diagram_meaning n limit s))) (among g (prefix_parts n f ++ [])) e)

  grew : Grew (diagram_meaning n limit s) (diagram_meaning n limit t) (f ∷ [])
  unfolding diagram_meaning parts_of_all
  grew = record {
    setting = refl;
    keeps = λ k g e.
        let v = under_inverse n limit s w.reduced w.inside k g e in
        under_held n limit t w.reduced_after inside k (held_kept s t w.keeps k v.0) ∙ ap Some (kept_over n limit s t f w k v.0 ∙ sym v.1);
    holds = held_after;
  }

  handed : (asked : Result Table StoreFault) → asked ≡ Ok f → Made (diagram_meaning n limit s) (diagram_meaning n limit t) asked (Ok r)
  unfolding Made
  handed asked e = record { function = f; asked_for = e; handle = under_held n limit t w.reduced_after inside r hr ∙ ap Some is; grew = grew }

-- what was formed was made
pub made_formed : (n limit : ℕ) (s t : Diagram) (f : Wanted) (r : ℕ) (asked : Result Table StoreFault) → Reduced n s → InLimit limit s → Reduced n t → InLimit limit t → Keeps s t → Formed s t f r → f.least ≤ n → asked ≡ Ok (f.over n) → Made (diagram_meaning n limit s) (diagram_meaning n limit t) asked (Ok r)
made_formed n limit s t f r asked o i o' i' k x l e =
    handed n limit s t (f.over n)
    (record { reduced = o; inside = i; reduced_after = o'; keeps = k; sized = ap length (sym (x.is n l)) ∙ length_over t n r; only_parts = x.only_parts n l })
    i' r x.held (x.is n l) asked e

-- ---- fallen short
module _ (n limit : ℕ) (s t : Diagram) (f : Table) (w : Grown n limit s t f) (filled : (h : ℕ) → 2 ≤ h → h < limit + 2 → 0 < t.height h) (m : Lacks t n f) where
  -- the part that is lacking, as a function of n qubits
  abbrev lacking : Table
  lacking = lifted n m.over m.part

  no_handle : (k : ℕ) → Held t k → function_over t n k ≡ lacking → ⊥
  no_handle k hk e =
      let v = over_lowered n t w.reduced_after k hk m.over n m.part (restricts_prefix m.is_part w.sized).sized (restricts_falls m.is_part) (w.reduced_after.within k) e in
      m.not_held k hk v.0 v.1

  lacking_varies : is_constant n lacking ≡ false
  lacking_varies = ⊎_elim (λ (e : is_constant n lacking ≡ true). absurd (let c = constant_one_of n lacking e in constant_not c.0 c.1)) (λ e. e) (cases_Bool (is_constant n lacking))
    where
      constant_not : (b : Bool) → lacking ≡ constant n b → ⊥
      constant_not false e = no_handle 0 (constant_held t 0 (omega arith)) (over_zero n t w.reduced_after n ∙ sym e)
      constant_not true e = no_handle 1 (constant_held t 1 (omega arith)) (over_one n t w.reduced_after n ∙ sym e)

  lacking_new : among lacking (functions_of (nodes_from n t 2 limit)) ≡ false
  lacking_new = ⊎_elim
      (λ (e : among lacking (functions_of (nodes_from n t 2 limit)) ≡ true).
      let v = among_node n t lacking 2 limit e in
      absurd (no_handle v.handle (λ two. v.node) (sym v.is)))
      (λ e. e)
      (cases_Bool (among lacking (functions_of (nodes_from n t 2 limit))))

  -- the nodes of t and the lacking part are one more than the limit
  one_more : space n (lacking ∷ functions_of (nodes_from n t 2 limit)) ≡ limit + 1
  one_more =
      space_more n lacking (functions_of (nodes_from n t 2 limit)) lacking_varies lacking_new
      ∙ ap (λ (x : ℕ). x + 1) (filled_space n t w.reduced_after 2 limit (λ j a b. filled j a (omega arith)))

  -- and all of them were held or are parts of f
  all_wanted : (g : Table) → among g (lacking ∷ functions_of (nodes_from n t 2 limit)) ≡ true → among g (with_parts (diagram_meaning n limit s) (f ∷ [])) ≡ true
  unfolding with_parts parts_of_all diagram_meaning among
  all_wanted g e =
      among_append g (held (diagram_meaning n limit s)) (prefix_parts n f ++ [])
      ∙ ⊎_elim
      (λ (a : same g lacking ≡ true).
      or_right (among g (held (diagram_meaning n limit s))) (among g (prefix_parts n f ++ [])) (ap (among g) (append-nil (prefix_parts n f))
      ∙ ap (λ (x : Table). among x (prefix_parts n f)) (same_equal g lacking a)
      ∙ prefix_part n f lacking (restricts_from n f m.over m.part m.is_part w.sized) lacking_varies))
      (λ a.
      let v = among_node n t g 2 limit a in
      ⊎_elim
      (λ (b : Holds (diagram_meaning n limit s) (function_over t n v.handle)). or_left (among g (held (diagram_meaning n limit s))) (among g (prefix_parts n f ++ [])) (subst (Holds (diagram_meaning n limit s)) (sym v.is) b))
      (λ b. or_right (among g (held (diagram_meaning n limit s))) (among g (prefix_parts n f ++ [])) (ap (among g) (append-nil (prefix_parts n f)) ∙ ap (λ (x : Table). among x (prefix_parts n f)) v.is ∙ b))
      (node_told n limit s t f w v.handle v.node))
      (or_cases (same g lacking) (among g (functions_of (nodes_from n t 2 limit))) e)

  exceeds : Exceeds (diagram_meaning n limit s) (f ∷ [])
  unfolding Exceeds diagram_meaning
  exceeds =
      let a = space_mono n (lacking ∷ functions_of (nodes_from n t 2 limit)) (with_parts (diagram_meaning n limit s) (f ∷ [])) all_wanted in
      let b = one_more in
      omega arith

-- what fell short exceeds the limit
pub short_exceeds : (n limit : ℕ) (s t : Diagram) (f : Wanted) → Reduced n s → InLimit limit s → Reduced n t → Keeps s t → Short s t limit f → f.least ≤ n → length (f.over n) ≡ 2 ^ n → Exceeds (diagram_meaning n limit s) (f.over n ∷ [])
short_exceeds n limit s t f o i o' k y l z =
    exceeds n limit s t (f.over n)
    (record { reduced = o; inside = i; reduced_after = o'; keeps = k; sized = z; only_parts = y.only_parts n l })
    y.filled (y.lacks n l)
