-- Keeping what some handles reach: what a store answers, and what it holds afterwards.
use Rattle.std.proofs.Common.{◌≡◌, ℕ, zero, suc, ◌<◌, true, List, [], ◌∷◌, map, length, get_or, Some, Ok, Err, sym, refl, ap, ◌∙◌, subst, ⊎_elim, arith}
use Rattle.std.proofs.lemmas.Bool.{false≢true, cases_lt, or_left, or_right, or_cases}
use Rattle.functions.specs.declared.faults.StoreFault.TheVariants.{NotHeld}
use Rattle.functions.specs.Tables.{Table}
use Rattle.functions.specs.Sets.{among, parts_of_all}
use Rattle.functions.specs.Meanings.{under, held, Holds}
use Rattle.functions.specs.Answers.{and_then, or_not_held, function_under, functions_under, Kept}
use Rattle.functions.proofs.Sets.{among_append}
use Rattle.functions.proofs.Asked.{function_at, and_then_ok}
use Rattle.diagrams.specs.Diagrams.{Diagram, function_over, Held, Reduced}
use Rattle.diagrams.specs.Parts.{prefix_parts}
use Rattle.diagrams.specs.Reaching.{Swept}
use Rattle.diagrams.specs.Meanings.{diagram_meaning, InLimit}
use Rattle.diagrams.proofs.Canonical.{node_handle, over_kept, canonical, held_kept}
use Rattle.diagrams.proofs.Reaching.{reach_part, part_reach, swept_reduced}
use Rattle.diagrams.proofs.Meanings.{under_held, under_not_held, under_inverse, holds_node, node_holds}
use Rattle.diagrams.proofs.Making.{same_bit}

-- ---- parts of listed functions
some_part : (P : Table → List Table) (F : ℕ → Table) (g : Table) (ks : List ℕ) → among g (parts_of_all P (map F ks)) ≡ true → (i : ℕ) × (i < length ks) × (among g (P (F (get_or ks i 0))) ≡ true)
unfolding parts_of_all among
some_part P F g [] e = absurd (false≢true e)
some_part P F g (k ∷ ks) e = ⊎_elim
    (λ (a : among g (P (F k)) ≡ true). (0, (let z : 0 < suc (length ks) = omega arith in z), a))
    (λ a. let r = some_part P F g ks a in (suc r.0, (let z = r.1 in omega arith), r.2))
    (or_cases (among g (P (F k))) (among g (parts_of_all P (map F ks))) (sym (among_append g (P (F k)) (parts_of_all P (map F ks))) ∙ e))

part_some : (P : Table → List Table) (F : ℕ → Table) (g : Table) (ks : List ℕ) (i : ℕ) → i < length ks → among g (P (F (get_or ks i 0))) ≡ true → among g (parts_of_all P (map F ks)) ≡ true
unfolding parts_of_all
part_some P F g [] i l e = absurd (let b : ⊥ = omega arith in b)
part_some P F g (k ∷ ks) zero l e = among_append g (P (F k)) (parts_of_all P (map F ks)) ∙ or_left (among g (P (F k))) (among g (parts_of_all P (map F ks))) e
part_some P F g (k ∷ ks) (suc i) l e = among_append g (P (F k)) (parts_of_all P (map F ks)) ∙ or_right (among g (P (F k))) (among g (parts_of_all P (map F ks))) (part_some P F g ks i (omega arith) e)

-- ---- the functions under listed handles
module _ (n limit : ℕ) (s : Diagram) (o : Reduced n s) (inside : InLimit limit s) where
  pub listed_held : (ks : List ℕ) → ((i : ℕ) → i < length ks → Held s (get_or ks i 0)) → functions_under (diagram_meaning n limit s) ks ≡ Ok (map (function_over s n) ks)
  unfolding functions_under
  listed_held [] all = refl
  listed_held (k ∷ ks) all =
      and_then_ok (function_under (diagram_meaning n limit s) k) _ (function_over s n k) (function_at (diagram_meaning n limit s) k (function_over s n k) (under_held n limit s o inside k (all 0 (omega arith))))
      ∙ and_then_ok (functions_under (diagram_meaning n limit s) ks) (λ fs. Ok (function_over s n k ∷ fs)) (map (function_over s n) ks) (listed_held ks (λ i l. all (suc i) (omega arith)))

  -- up to the first that is not held
  pub listed_missing : (ks : List ℕ) (i : ℕ) → i < length ks → ((j : ℕ) → j < i → Held s (get_or ks j 0)) → (Held s (get_or ks i 0) → ⊥) → functions_under (diagram_meaning n limit s) ks ≡ Err (NotHeld (get_or ks i 0))
  unfolding functions_under and_then function_under or_not_held
  listed_missing [] i l before out = absurd (let b : ⊥ = omega arith in b)
  listed_missing (k ∷ ks) zero l before out = rw (under_not_held n limit s k out)
  listed_missing (k ∷ ks) (suc i) l before out =
      rw (under_held n limit s o inside k (before 0 (omega arith)), listed_missing ks i (omega arith) (λ j m. before (suc j) (omega arith)) out)

-- ---- after a keep
module _ (n limit : ℕ) (s t : Diagram) (o : Reduced n s) (inside : InLimit limit s) (list : List ℕ) (all : (i : ℕ) → i < length list → Held s (get_or list i 0)) (w : Swept s t list) where
  reduced : Reduced n t
  reduced = swept_reduced n s t o list w

  was_node : (h : ℕ) → 0 < t.height h → 0 < s.height h
  was_node h p = rw (w.same.height h (λ two. p)) p

  pub swept_inside : InLimit limit t
  swept_inside h l = ⊎_elim (λ (p : 0 < t.height h). absurd (let a = was_node h p in let b = inside h l in let c : ⊥ = omega arith in c)) (λ p. omega arith) (cases_lt 0 (t.height h))

  as_before : (k : ℕ) → Held t k → function_over t n k ≡ function_over s n k
  as_before k hk = sym (over_kept n t s reduced w.same n k hk)

  kept_parts : (g : Table) → among g (held (diagram_meaning n limit t)) ≡ among g (parts_of_all (prefix_parts n) (map (function_over s n) list))
  kept_parts g = same_bit (among g (held (diagram_meaning n limit t))) (among g (parts_of_all (prefix_parts n) (map (function_over s n) list))) there back
    where
      there : among g (held (diagram_meaning n limit t)) ≡ true → among g (parts_of_all (prefix_parts n) (map (function_over s n) list)) ≡ true
      there e =
          let v = holds_node n limit t g e in
          let r = w.reached v.handle v.node in
          let is : g ≡ function_over s n v.handle = v.is ∙ as_before v.handle (λ two. v.node) in
          part_some (prefix_parts n) (function_over s n) g list r.0 r.1
          (ap (λ (x : Table). among x (prefix_parts n (function_over s n (get_or list r.0 0)))) is ∙ reach_part n s o (get_or list r.0 0) v.handle r.2 (was_node v.handle v.node))

      back : among g (parts_of_all (prefix_parts n) (map (function_over s n) list)) ≡ true → among g (held (diagram_meaning n limit t)) ≡ true
      back e =
          let r = some_part (prefix_parts n) (function_over s n) g list e in
          let p = part_reach n s o (get_or list r.0 0) (all r.0 r.1) g r.2 in
          let hk : Held t p.0 = w.stays r.0 r.1 p.0 p.1 in
          subst (Holds (diagram_meaning n limit t)) (sym (p.3 ∙ sym (as_before p.0 hk))) (node_holds n limit t reduced swept_inside p.0 (hk (node_handle n s o p.0 p.2)))

  keeps_handles : (k : ℕ) (f : Table) → under (diagram_meaning n limit s) k ≡ Some f → Holds (diagram_meaning n limit t) f → under (diagram_meaning n limit t) k ≡ Some f
  keeps_handles k f e h =
      let a = under_inverse n limit s o inside k f e in
      let v = holds_node n limit t f h in
      let hv : Held t v.handle = λ two. v.node in
      let same : k ≡ v.handle = canonical n s o n k v.handle a.0 (held_kept t s w.same v.handle hv) (o.within k) (o.within v.handle) (sym a.1 ∙ v.is ∙ as_before v.handle hv) in
      ap (under (diagram_meaning n limit t)) same ∙ under_held n limit t reduced swept_inside v.handle hv ∙ ap Some (sym v.is)

  pub kept_swept : Kept (diagram_meaning n limit s) (diagram_meaning n limit t) list (Ok tt)
  unfolding Kept diagram_meaning
  kept_swept = record {
    functions = map (function_over s n) list;
    listed = listed_held n limit s o inside list all;
    shrank = record { setting = refl; holds = kept_parts; keeps = keeps_handles };
  }

-- a keep that is refused changes nothing
pub kept_refused : (n limit : ℕ) (s t : Diagram) → Reduced n s → InLimit limit s → (list : List ℕ) (i : ℕ) → i < length list → ((j : ℕ) → j < i → Held s (get_or list j 0)) → (Held s (get_or list i 0) → ⊥) → diagram_meaning n limit t ≡ diagram_meaning n limit s → Kept (diagram_meaning n limit s) (diagram_meaning n limit t) list (Err (NotHeld (get_or list i 0)))
unfolding Kept
kept_refused n limit s t o inside list i l before out e = record { unchanged = e; due = listed_missing n limit s o inside list i l before out }
