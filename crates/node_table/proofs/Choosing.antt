-- A diagram with some of the nodes of another: chosen ones, whose halves are chosen too.
use Rattle.std.proofs.Common.{◌≡◌, ℕ, ◌<◌, ◌≤◌, ◌⊎◌, sym, ◌∙◌, ⊎_elim, arith}
use Rattle.std.proofs.lemmas.Bool.{cases_lt}
use Rattle.diagrams.specs.Diagrams.{Diagram, Held, Reduced}
use Rattle.diagrams.specs.Forming.{Keeps}
use Rattle.diagrams.specs.Reaching.{Reaches, itself, by_low, by_high}
use Rattle.diagrams.proofs.Canonical.{node_handle}

pub record Chosen (s t : Diagram) (F : ℕ → Type 0) : Type 0 where
  pub decide : (h : ℕ) → F h ⊎ (F h → ⊥)
  pub constants : (h : ℕ) → h < 2 → t.height h ≡ 0
  pub inside : (h : ℕ) → 2 ≤ h → F h → t.height h ≡ s.height h
  pub outside : (h : ℕ) → 2 ≤ h → (F h → ⊥) → t.height h ≡ 0
  pub low : (h : ℕ) → 2 ≤ h → t.low h ≡ s.low h
  pub high : (h : ℕ) → 2 ≤ h → t.high h ≡ s.high h
  pub closed : (h : ℕ) → 0 < s.height h → F h → (2 ≤ s.low h → F (s.low h)) × (2 ≤ s.high h → F (s.high h))

module _ (n : ℕ) (s t : Diagram) (F : ℕ → Type 0) (x : Chosen s t F) (o : Reduced n s) where
  two : (h : ℕ) → 0 < t.height h → 2 ≤ h
  two h p = ⊎_elim (λ (l : h < 2). absurd (below l)) (λ l. l) (cases_lt h 2)
    where
      below : h < 2 → ⊥
      below l = omega (arith, x.constants h l)

  -- a node of t is chosen, and one of s
  pub chosen_node : (h : ℕ) → 0 < t.height h → F h × (t.height h ≡ s.height h)
  chosen_node h p = ⊎_elim (λ (f : F h). (f, x.inside h (two h p) f)) (λ nf. absurd (never nf)) (x.decide h)
    where
      never : (F h → ⊥) → ⊥
      never nf = omega (arith, x.outside h (two h p) nf)

  chosen_held : (h : ℕ) → Held s h → (2 ≤ h → F h) → Held t h
  chosen_held h hh f l = rw (x.inside h l (f l)) (hh l)

  pub chosen_keeps : Keeps t s
  chosen_keeps = record {
    height = λ h hh. ⊎_elim (λ (l : h < 2). o.constants h l ∙ sym (x.constants h l)) (λ l. sym (chosen_node h (hh l)).1) (cases_lt h 2);
    low = λ h hh l. sym (x.low h l);
    high = λ h hh l. sym (x.high h l);
  }

  -- what a chosen handle reaches is held
  pub chosen_reach : (h k : ℕ) → Held s h → (2 ≤ h → F h) → Reaches s h k → Held t k
  chosen_reach h k hh f itself = chosen_held h hh f
  chosen_reach h k hh f (by_low p r) = chosen_reach (s.low h) k (o.low_held h p) (x.closed h p (f (node_handle n s o h p))).0 r
  chosen_reach h k hh f (by_high p r) = chosen_reach (s.high h) k (o.high_held h p) (x.closed h p (f (node_handle n s o h p))).1 r
