-- A reduced diagram within its limit means a store that keeps the laws of every store.
use Rattle.std.proofs.Common.{◌≡◌, ℕ, zero, suc, ◌+◌, ◌^◌, ◌<◌, ◌≤◌, true, false, cond, eqb, ◌⊎◌, List, [], length, Some, None, sym, refl, ap, ◌∙◌, subst, inl, inr, ⊎_elim, arith}
use Rattle.std.proofs.lemmas.Bool.{cases_eq, cases_lt, ne_eqb, cond-false}
use Rattle.std.proofs.lemmas.Option.{none-some}
use Rattle.functions.specs.Tables.{Table, constant}
use Rattle.functions.specs.Sets.{among, space}
use Rattle.functions.specs.Meanings.{Laws, entry, under, held, Holds, constants_only}
use Rattle.diagrams.specs.Diagrams.{Diagram, function_over, Held, Reduced, no_nodes}
use Rattle.diagrams.specs.Parts.{prefix_parts}
use Rattle.diagrams.specs.Forming.{Alike}
use Rattle.diagrams.specs.Meanings.{diagram_setting, nodes_from, diagram_meaning, InLimit}
use Rattle.diagrams.proofs.Canonical.{constant_held, node_handle, length_over, canonical}
use Rattle.diagrams.proofs.Wanted.{over_zero, over_one}
use Rattle.diagrams.proofs.Prefixes.{prefix_lawful}
use Rattle.diagrams.proofs.Reaching.{part_reach}
use Rattle.diagrams.proofs.Entries.{entry_node, entry_none, node_among, NodeOf, among_node, nodes_space, alike_entries}

-- whether a handle is held
pub held_cases : (s : Diagram) (h : ℕ) → Held s h ⊎ ((2 ≤ h) × (s.height h ≡ 0))
held_cases s h = ⊎_elim
    (λ (l : h < 2). inl (constant_held s h l))
    (λ l. ⊎_elim (λ (p : 0 < s.height h). inl (λ two. p)) (λ p. inr (l, omega arith)) (cases_lt 0 (s.height h)))
    (cases_lt h 2)

-- the same nodes mean the same
pub alike_meaning : (n limit : ℕ) (s t : Diagram) → Reduced n s → Alike s t → diagram_meaning n limit t ≡ diagram_meaning n limit s
unfolding diagram_meaning
alike_meaning n limit s t o a = ap (λ (es : List (ℕ × Table)). record { setting = diagram_setting n limit; entries = es }) (alike_entries n s t o a 2 limit)

module _ (n limit : ℕ) (s : Diagram) where
  under_node : (h : ℕ) → 2 ≤ h → under (diagram_meaning n limit s) h ≡ entry (nodes_from n s 2 limit) h
  unfolding under diagram_meaning
  under_node h two =
      cond-false (eqb h 0) (Some (constant n false)) (cond (eqb h 1) (Some (constant n true)) (entry (nodes_from n s 2 limit) h)) (ne_eqb h 0 (λ e. omega arith))
      ∙ cond-false (eqb h 1) (Some (constant n true)) (entry (nodes_from n s 2 limit) h) (ne_eqb h 1 (λ e. omega arith))

  under_constant : Reduced n s → (h : ℕ) → h < 2 → under (diagram_meaning n limit s) h ≡ Some (function_over s n h)
  unfolding under diagram_meaning
  under_constant o h l = ⊎_elim
      (λ (e : h ≡ 0). ap (under (diagram_meaning n limit s)) e ∙ ap Some (sym (over_zero n s o n)) ∙ ap (λ (x : ℕ). Some (function_over s n x)) (sym e))
      (λ e. let z : h ≡ 1 = omega arith in ap (under (diagram_meaning n limit s)) z ∙ ap Some (sym (over_one n s o n)) ∙ ap (λ (x : ℕ). Some (function_over s n x)) (sym z))
      (cases_eq h 0)

  pub under_none : (h : ℕ) → 2 ≤ h → s.height h ≡ 0 → under (diagram_meaning n limit s) h ≡ None
  under_none h two e = under_node h two ∙ entry_none n s h 2 limit (λ x y p. omega arith)

  pub under_not_held : (h : ℕ) → (Held s h → ⊥) → under (diagram_meaning n limit s) h ≡ None
  under_not_held h out = ⊎_elim (λ (hh : Held s h). absurd (out hh)) (λ e. under_none h e.0 e.1) (held_cases s h)

  -- a function that is held is a node's
  pub holds_node : (g : Table) → Holds (diagram_meaning n limit s) g → NodeOf n s 2 limit g
  unfolding held diagram_meaning
  holds_node g e = among_node n s g 2 limit e

  within : space n (held (diagram_meaning n limit s)) ≤ limit
  unfolding held diagram_meaning
  within = nodes_space n s 2 limit

  module _ (o : Reduced n s) (inside : InLimit limit s) where
    node_inside : (h : ℕ) → 0 < s.height h → h < 2 + limit
    node_inside h p = ⊎_elim (λ (l : h < limit + 2). omega arith) (λ l. absurd (let z = inside h l in let b : ⊥ = omega arith in b)) (cases_lt h (limit + 2))

    -- the function under a handle
    pub under_held : (h : ℕ) → Held s h → under (diagram_meaning n limit s) h ≡ Some (function_over s n h)
    under_held h hh = ⊎_elim
        (λ (l : h < 2). under_constant o h l)
        (λ l. under_node h l ∙ entry_node n s h (hh l) 2 limit l (node_inside h (hh l)))
        (cases_lt h 2)

    -- and a handle with a function under it is held
    pub under_inverse : (h : ℕ) (f : Table) → under (diagram_meaning n limit s) h ≡ Some f → Held s h × (f ≡ function_over s n h)
    under_inverse h f e = ⊎_elim
        (λ (hh : Held s h). (hh, (let z : Some f ≡ Some (function_over s n h) = sym e ∙ under_held h hh in let q : f ≡ function_over s n h = cc in q)))
        (λ (out : (2 ≤ h) × (s.height h ≡ 0)). absurd (none-some f (sym (under_none h out.0 out.1) ∙ e)))
        (held_cases s h)

    pub node_holds : (h : ℕ) → 0 < s.height h → Holds (diagram_meaning n limit s) (function_over s n h)
    unfolding held diagram_meaning
    node_holds h p = node_among n s h p 2 limit (node_handle n s o h p) (node_inside h p)

    fits : limit ≤ 65536 → (h : ℕ) → Held s h → h < 2 ^ 32
    fits few h hh = ⊎_elim (λ (l : h < 2). omega arith) (λ l. let z = node_inside h (hh l) in omega arith) (cases_lt h 2)

    parts_are_held : (f g : Table) → Holds (diagram_meaning n limit s) f → among g (prefix_parts n f) ≡ true → Holds (diagram_meaning n limit s) g
    parts_are_held f g a b =
        let v = holds_node f a in
        let r = part_reach n s o v.handle (λ two. v.node) g (subst (λ (x : Table). among g (prefix_parts n x) ≡ true) v.is b) in
        subst (Holds (diagram_meaning n limit s)) (sym r.3) (node_holds r.0 r.2)

    pub diagram_lawful : 1 ≤ n → n ≤ 16 → limit ≤ 65536 → Laws (diagram_meaning n limit s)
    unfolding diagram_meaning
    diagram_lawful some few small = record {
      setting = prefix_lawful n limit some few;
      handle_fits = λ k f e. fits small k (under_inverse k f e).0;
      of_qubits = λ k f e. ap length (under_inverse k f e).1 ∙ length_over s n k;
      has_handle = λ f e. let v = holds_node f e in (v.handle, under_held v.handle (λ two. v.node) ∙ ap Some (sym v.is));
      one_handle = λ j k f a b. canonical n s o n j k (under_inverse j f a).0 (under_inverse k f b).0 (o.within j) (o.within k) (sym (under_inverse j f a).1 ∙ (under_inverse k f b).1);
      parts_held = parts_are_held;
      within_limit = within;
    }

-- ---- a diagram without nodes
pub none_reduced : (n : ℕ) → Reduced n no_nodes
none_reduced n = record {
  constants = λ h l. refl;
  within = λ h. omega arith;
  low_held = λ h p. absurd (let b : ⊥ = omega arith in b);
  high_held = λ h p. absurd (let b : ⊥ = omega arith in b);
  low_later = λ h p. absurd (let b : ⊥ = omega arith in b);
  high_later = λ h p. absurd (let b : ⊥ = omega arith in b);
  halves_differ = λ h p e. omega arith;
  no_double = λ h k p e x y. absurd (let b : ⊥ = omega arith in b);
}

no_entries : (n h k : ℕ) → nodes_from n no_nodes h k ≡ []
unfolding nodes_from
no_entries n h zero = refl
no_entries n h (suc k) = no_entries n (h + 1) k

pub none_means : (n limit : ℕ) → diagram_meaning n limit no_nodes ≡ constants_only (diagram_setting n limit)
unfolding diagram_meaning
none_means n limit = ap (λ (es : List (ℕ × Table)). record { setting = diagram_setting n limit; entries = es }) (no_entries n 2 limit)
