-- A combination that is simplified, or that has an answer outright.
use Rattle.std.proofs.Common.{◌≡◌, ℕ, ◌<◌, ◌≤◌, Bool, true, false, ◌⊎◌, length, sym, refl, ap, ◌∙◌, subst, inl, inr, ⊎_elim, arith}
use Rattle.std.proofs.lemmas.Bool.{cases_lt}
use Rattle.exact.specs.Indices.{Index}
use Rattle.exact.proofs.Listings.{listing_same}
use Rattle.functions.specs.Tables.{Table, value_at, combined}
use Rattle.functions.proofs.Values.{same_values, constant_at, combined_at, length_combined}
use Rattle.diagrams.specs.Diagrams.{Diagram, function_over, Held, Reduced}
use Rattle.diagrams.specs.Forming.{Wanted, combination, Formed, Short, Lacks, OnlyParts}
use Rattle.diagrams.proofs.Canonical.{constant_held, length_over}
use Rattle.diagrams.proofs.Wanted.{over_zero, over_one}
use Rattle.diagrams.proofs.Forming.{formed_known}
use Rattle.functions.specs.declared.combination.Combination.{Combination}
use Rattle.node_rules.specs.Combinations.{Values, Taken, Simplified, Plain, Mixed}
use Rattle.node_rules.proofs.Simplifying.{some_node}

-- ---- a function that looks at no more qubits may be formed instead
pub record Covers (f g : Wanted) : Type 0 where
  pub least : f.least ≤ g.least
  pub over : (d : ℕ) → g.least ≤ d → f.over d ≡ g.over d

pub formed_covers : (s t : Diagram) (f g : Wanted) (r : ℕ) → Covers f g → Formed s t f r → Formed s t g r
formed_covers s t f g r c x = record {
  held = x.held;
  low_enough = λ d l. x.low_enough d (omega (arith, c.least));
  is = λ d l. x.is d (omega (arith, c.least)) ∙ c.over d l;
  only_parts = λ d l. subst (OnlyParts s t d) (c.over d l) (x.only_parts d (omega (arith, c.least)));
}

pub covers_self : (f : Wanted) → Covers f f
covers_self f = record { least = omega arith; over = λ d l. refl }

pub short_covers : (s t : Diagram) (limit : ℕ) (f g : Wanted) → Covers f g → Short s t limit f → Short s t limit g
short_covers s t limit f g c x = record {
  filled = x.filled;
  only_parts = λ d l. subst (OnlyParts s t d) (c.over d l) (x.only_parts d (omega (arith, c.least)));
  lacks = λ d l. subst (Lacks t d) (c.over d l) (x.lacks d (omega (arith, c.least)));
}

-- the combination that is asked for
abbrev pub of : Diagram → Combination → Wanted
of s c = combination s c.rule c.f c.g c.h

-- ---- the values of all handles at an index
module _ (n : ℕ) (s : Diagram) (o : Reduced n s) where
  at : ℕ → Index → ℕ → Bool
  at d x h = value_at (function_over s d h) x

  constants_at : (d : ℕ) (x : Index) → length x ≡ d → Values (at d x)
  unfolding at
  constants_at d x l = record {
    zero = ap (λ (f : Table). value_at f x) (over_zero n s o d) ∙ constant_at d false x l;
    one = ap (λ (f : Table). value_at f x) (over_one n s o d) ∙ constant_at d true x l;
  }

  simpler_over : (c r : Combination) → Simplified c r → (d : ℕ) → (of s r).over d ≡ (of s c).over d
  unfolding combined at
  simpler_over c r e d = listing_same d _ _ (λ x l. e.same (at d x) (constants_at d x l))

  lower : (ignored : Type 0) (given taken : ℕ) → Taken ignored given taken → s.height taken ≤ s.height given
  lower ignored given taken (inl x) = omega (arith, ap s.height x.1, o.constants 0 (omega arith))
  lower ignored given taken (inr x) = omega (arith, ap s.height x.1)

  pub simpler_covers : (c r : Combination) → Simplified c r → Covers (of s r) (of s c)
  simpler_covers c r e = record {
    least = omega (arith, lower _ _ _ e.first, lower _ _ _ e.second, lower _ _ _ e.third);
    over = λ d l. simpler_over c r e d;
  }

  taken_held : (ignored : Type 0) (given taken : ℕ) → Taken ignored given taken → Held s given → Held s taken
  taken_held ignored given taken (inl x) hh = subst (Held s) (sym x.1) (constant_held s 0 (omega arith))
  taken_held ignored given taken (inr x) hh = subst (Held s) (sym x.1) hh

  pub simpler_held : (c r : Combination) → Simplified c r → Held s c.f × Held s c.g × Held s c.h → Held s r.f × Held s r.g × Held s r.h
  simpler_held c r e hs = (taken_held _ _ _ e.first hs.0, taken_held _ _ _ e.second hs.1, taken_held _ _ _ e.third hs.2)

  -- an answer outright is there
  plain_over : (c : Combination) (r : ℕ) → Plain c r → (d : ℕ) → function_over s d r ≡ (of s c).over d
  unfolding at
  plain_over c r e d =
      same_values d (function_over s d r) ((of s c).over d) (length_over s d r) (length_combined d c.rule (function_over s d c.f) (function_over s d c.g) (function_over s d c.h))
      (λ x l. e.same (at d x) (constants_at d x l) ∙ sym (combined_at d c.rule (function_over s d c.f) (function_over s d c.g) (function_over s d c.h) x l))

  plain_there : (c : Combination) (r : ℕ) → Held s c.f × Held s c.g × Held s c.h → (r < 2) ⊎ ((r ≡ c.f) ⊎ ((r ≡ c.g) ⊎ (r ≡ c.h))) → Held s r × (s.height r ≤ (of s c).least)
  plain_there c r hs (inl l) = (constant_held s r l, omega (arith, o.constants r l))
  plain_there c r hs (inr (inl e)) = (subst (Held s) (sym e) hs.0, omega (arith, ap s.height e))
  plain_there c r hs (inr (inr (inl e))) = (subst (Held s) (sym e) hs.1, omega (arith, ap s.height e))
  plain_there c r hs (inr (inr (inr e))) = (subst (Held s) (sym e) hs.2, omega (arith, ap s.height e))

  pub formed_plain : (c : Combination) (r : ℕ) → Held s c.f × Held s c.g × Held s c.h → Plain c r → Formed s s (of s c) r
  formed_plain c r hs e =
      let p = plain_there c r hs e.one_of in
      formed_known s (of s c) r p.0 (λ d l. omega (arith, p.1)) (λ d l. plain_over c r e d)

  -- a combination that has none looks at a node
  node_above : (h : ℕ) → Held s h → s.height h ≤ 0 → h < 2
  node_above h hh l = ⊎_elim (λ (x : h < 2). x) (λ x. absurd (let p : 0 < s.height h = hh x in let b : ⊥ = omega arith in b)) (cases_lt h 2)

  pub looks_at_node : (c r : Combination) → Simplified c r → Mixed r.rule → Held s r.f × Held s r.g × Held s r.h → (m : ℕ) → m ≡ (of s r).least → 0 < m
  looks_at_node c r e x hs m q = ⊎_elim none (λ (l : 0 < m). l) (cases_lt m 1)
    where
      none : m < 1 → 0 < m
      none l = absurd (some_node c r e x (node_above r.f hs.0 (omega arith)) (node_above r.g hs.1 (omega arith)) (node_above r.h hs.2 (omega arith)))
