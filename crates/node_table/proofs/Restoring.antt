-- What was made is taken back.
use Rattle.std.proofs.Common.{◌≡◌, ℕ, ◌+◌, ◌/◌, ◌%◌, ◌<◌, ◌≤◌, ◌⊎◌, sym, ap, ◌∙◌, subst, inl, inr, arith}
use Rattle.std.proofs.lemmas.Bool.{cases_eq, cases_lt}
use Rattle.diagrams.specs.Diagrams.{Reduced}
use Rattle.diagrams.specs.Forming.{Alike}
use Rattle.diagrams.proofs.Canonical.{alike_reduced}
use Rattle.node_table.specs.declared.table.NodeTable.{NodeTable}
use Rattle.node_table.specs.Layout.{diagram_of, word, Node, mark, SameSetting}
use Rattle.node_table.specs.Chains.{Chains, SameNodes}
use Rattle.node_table.specs.Ordering.{InOrder, Grown}
use Rattle.node_table.specs.Freeing.{Freed, Restored}
use Rattle.node_table.proofs.Layouts.{height_constant, height_past, height_zero, node_two, same_height, same_low, same_high}
use Rattle.node_table.proofs.Walks.{chained_more}
use Rattle.node_table.proofs.Rebuilding.{same_nodes_alike, same_nodes_mark}

-- From `old` the table grew to s; what is new was freed, and the chains were made anew.
pub record Undoing (old s a t : NodeTable) : Type 0 where
  pub order : InOrder old
  pub grown : Grown old s
  pub freed : Freed s a old.used s.used
  pub setting_a : SameSetting s a
  pub same : SameNodes a t
  pub setting_t : SameSetting a t
  pub used : t.used ≡ old.used
  pub chains : Chains t t.limit (Node t)

module _ (old s a t : NodeTable) (x : Undoing old s a t) where
  -- a node that was there has its word back
  node_word : (h : ℕ) → Node old h → word a h 0 ≡ word old h 0
  node_word h p =
      let e = x.grown.word_0 h p in
      x.freed.others h (node_two old h p) (λ l m z. clash (x.order.marked h l p) (ap (λ (y : ℕ). y / 32 % 2) (sym e) ∙ z)) ∙ e
    where
      clash : mark old h ≡ 1 → mark old h ≡ 0 → ⊥
      clash y z = omega arith

  -- what is new is freed, and other places are as they were
  either : (h : ℕ) → 2 ≤ h → (word a h 0 ≡ 0) ⊎ (word a h 0 ≡ word s h 0)
  either h l = go (cases_lt h (old.used + 2)) (cases_lt h (s.used + 2)) (cases_eq (mark s h) 0)
    where
      go : (h < old.used + 2) ⊎ (old.used + 2 ≤ h) → (h < s.used + 2) ⊎ (s.used + 2 ≤ h) → (mark s h ≡ 0) ⊎ (mark s h ≡ 0 → ⊥) → (word a h 0 ≡ 0) ⊎ (word a h 0 ≡ word s h 0)
      go (inl p) q r = inr (x.freed.others h l (λ y z f. omega arith))
      go (inr p) (inr q) r = inr (x.freed.others h l (λ y z f. omega arith))
      go (inr p) (inl q) (inl r) = inl (x.freed.freed h p q r)
      go (inr p) (inl q) (inr r) = inr (x.freed.others h l (λ y z f. r f))

  free_height : (h : ℕ) → 2 ≤ h → (diagram_of old).height h ≡ 0 → (diagram_of a).height h ≡ 0
  free_height h l z = go (cases_lt 0 ((diagram_of s).height h)) (either h l)
    where
      go : (Node s h) ⊎ ((diagram_of s).height h ≤ 0) → (word a h 0 ≡ 0) ⊎ (word a h 0 ≡ word s h 0) → (diagram_of a).height h ≡ 0
      go (inl p) w = let f = x.grown.new h z p in height_zero a h l (x.freed.freed h f.0 f.1 f.2)
      go (inr p) (inl e) = height_zero a h l e
      go (inr p) (inr e) = same_height s a h x.setting_a.limit (λ q. ap (λ (y : ℕ). y % 32) e) ∙ omega arith

  freed_height : (h : ℕ) → (diagram_of a).height h ≡ (diagram_of old).height h
  freed_height h = go (cases_lt h 2) (cases_lt 0 ((diagram_of old).height h))
    where
      go : (h < 2) ⊎ (2 ≤ h) → (Node old h) ⊎ ((diagram_of old).height h ≤ 0) → (diagram_of a).height h ≡ (diagram_of old).height h
      go (inl l) p = height_constant a h l ∙ sym (height_constant old h l)
      go (inr l) (inl p) = same_height old a h (x.setting_a.limit ∙ x.grown.limit) (λ q. ap (λ (y : ℕ). y % 32) (node_word h p))
      go (inr l) (inr p) = let z : (diagram_of old).height h ≡ 0 = omega arith in free_height h l z ∙ sym z

  restored_alike : Alike (diagram_of old) (diagram_of t)
  restored_alike = record {
    height = λ h. (same_nodes_alike a t x.setting_t.limit x.same).height h ∙ freed_height h;
    low = λ h p. same_low a t h (x.same.word_1 h) ∙ same_low s a h (x.freed.word_1 h) ∙ x.grown.keeps.low h (λ l. p) (node_two old h p);
    high = λ h p. same_high a t h (x.same.word_2 h) ∙ same_high s a h (x.freed.word_2 h) ∙ x.grown.keeps.high h (λ l. p) (node_two old h p);
  }

  pub restored : Restored old t
  restored = record {
    used = x.used;
    alike = restored_alike;
    order = record {
      some = rw qubits_t x.order.some;
      reduced = subst (λ (n : ℕ). Reduced n (diagram_of t)) (sym qubits_t) (alike_reduced old.qubits.number (diagram_of old) (diagram_of t) restored_alike x.order.reduced);
      in_limit = λ h l. height_past t h l;
      filled = λ h l m. rw (restored_alike.height h) (x.order.filled h l (omega (arith, x.used)));
      marked = λ h l p.
          let q : Node old h = rw (restored_alike.height h) at p in
          same_nodes_mark a t x.same h (node_two old h q) ∙ ap (λ (y : ℕ). y / 32 % 2) (node_word h q) ∙ x.order.marked h (omega (arith, x.used)) q;
      chains = chained_more t.limit (t.limit + t.used) _ _ _ _ _ (omega arith) x.chains;
    };
  }
    where
      qubits_t : t.qubits.number ≡ old.qubits.number
      qubits_t = x.setting_t.qubits ∙ x.setting_a.qubits ∙ x.grown.qubits
