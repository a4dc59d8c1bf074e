-- A node more.
use Rattle.std.proofs.Common.{◌≡◌, ℕ, suc, ◌+◌, ◌-◌, ◌*◌, ◌/◌, ◌%◌, ◌<◌, ◌≤◌, ◌⊎◌, sym, ap, ◌∙◌, subst, inl, inr, ⊎_elim, arith}
use Rattle.std.proofs.lemmas.Bool.{cases_eq, cases_lt}
use Rattle.diagrams.specs.Diagrams.{Diagram, Held, Reduced}
use Rattle.diagrams.specs.Forming.{Keeps, IsNode, Joined}
use Rattle.diagrams.proofs.Canonical.{node_handle}
use Rattle.node_table.specs.declared.table.NodeTable.{NodeTable}
use Rattle.node_table.specs.Layout.{diagram_of, word, Node, head, mark, SameSetting}
use Rattle.node_table.specs.Chains.{chain_of, Chains, Attached}
use Rattle.node_table.specs.Ordering.{InOrder, Grown}
use Rattle.node_table.specs.Adding.{FirstFree, Fits, Written}
use Rattle.node_table.proofs.Layouts.{apart, height_past, height_node, node_two, same_height, same_low, same_high, low_is, high_is}
use Rattle.node_table.proofs.Walks.{chained_more}
use Rattle.node_table.proofs.Rebuilding.{SameLinks, chains_agree, attached_chains}

-- t is s with the node k more
pub record Added (s t : Diagram) (k m low high : ℕ) : Type 0 where
  pub free : s.height k ≡ 0
  pub two : 2 ≤ k
  pub is_new : IsNode t k m low high
  pub height_old : (h : ℕ) → (h ≡ k → ⊥) → t.height h ≡ s.height h
  pub low_old : (h : ℕ) → 2 ≤ h → (h ≡ k → ⊥) → t.low h ≡ s.low h
  pub high_old : (h : ℕ) → 2 ≤ h → (h ≡ k → ⊥) → t.high h ≡ s.high h

module _ (n : ℕ) (s t : Diagram) (k m low high : ℕ) (o : Reduced n s) (a : Added s t k m low high) where
  held_apart : (h : ℕ) → Held s h → h ≡ k → ⊥
  held_apart h hh e = apart s k h a.free (hh (omega (arith, a.two))) e

  pub added_keeps : Keeps s t
  added_keeps = record {
    height = λ h hh. a.height_old h (held_apart h hh);
    low = λ h hh l. a.low_old h l (held_apart h hh);
    high = λ h hh l. a.high_old h l (held_apart h hh);
  }

  held_up : (h : ℕ) → Held s h → Held t h
  held_up h hh l = rw (a.height_old h (held_apart h hh)) (hh l)

  later_up : (h d : ℕ) → Held s h → s.height h < d → t.height h < d
  later_up h d hh l = rw (a.height_old h (held_apart h hh)) l

  -- another node of t is one of s, as it was there
  old_node : (h : ℕ) → (h ≡ k → ⊥) → 0 < t.height h → 0 < s.height h
  old_node h ne p = rw (a.height_old h ne) at p

  old_low : (h : ℕ) → (h ≡ k → ⊥) → 0 < s.height h → t.low h ≡ s.low h
  old_low h ne q = a.low_old h (node_handle n s o h q) ne

  old_high : (h : ℕ) → (h ≡ k → ⊥) → 0 < s.height h → t.high h ≡ s.high h
  old_high h ne q = a.high_old h (node_handle n s o h q) ne

  pub added_joined : Joined s t m low high k
  added_joined = record {
    kind = inr a.is_new;
    new = λ h p. ⊎_elim (λ (e : h ≡ k). inr e) (λ ne. inl (old_node h ne p)) (cases_eq h k);
  }

  module _ (f : Fits n s m low high) where
    -- the halves of a node of t
    low_of : (h : ℕ) → 0 < t.height h → (h ≡ k) ⊎ (h ≡ k → ⊥) → Held s (t.low h) × (s.height (t.low h) < t.height h)
    low_of h p (inl e) =
        let x : t.low h ≡ low = ap t.low e ∙ a.is_new.is_low in
        let y : t.height h ≡ m = ap t.height e ∙ a.is_new.height in
        rw (x, y) (f.low_held, f.low_later)
    low_of h p (inr ne) =
        let q = old_node h ne p in
        rw (old_low h ne q, a.height_old h ne) (o.low_held h q, o.low_later h q)

    high_of : (h : ℕ) → 0 < t.height h → (h ≡ k) ⊎ (h ≡ k → ⊥) → Held s (t.high h) × (s.height (t.high h) < t.height h)
    high_of h p (inl e) =
        let x : t.high h ≡ high = ap t.high e ∙ a.is_new.is_high in
        let y : t.height h ≡ m = ap t.height e ∙ a.is_new.height in
        rw (x, y) (f.high_held, f.high_later)
    high_of h p (inr ne) =
        let q = old_node h ne p in
        rw (old_high h ne q, a.height_old h ne) (o.high_held h q, o.high_later h q)

    differ' : (h : ℕ) → 0 < t.height h → t.low h ≡ t.high h → (h ≡ k) ⊎ (h ≡ k → ⊥) → ⊥
    differ' h p e (inl q) = f.differ (sym (ap t.low q ∙ a.is_new.is_low) ∙ e ∙ ap t.high q ∙ a.is_new.is_high)
    differ' h p e (inr ne) =
        let q = old_node h ne p in
        o.halves_differ h q (sym (old_low h ne q) ∙ e ∙ old_high h ne q)

    -- no other node of t is as the new one
    alone : (h : ℕ) → (h ≡ k → ⊥) → t.height h ≡ m → t.low h ≡ low → t.high h ≡ high → ⊥
    alone h ne e0 e1 e2 =
        let q : 0 < s.height h = old_node h ne (omega (arith, e0, f.positive)) in
        f.absent h (record { height = sym (a.height_old h ne) ∙ e0; is_low = sym (old_low h ne q) ∙ e1; is_high = sym (old_high h ne q) ∙ e2 })

    double' : (g h : ℕ) → 0 < t.height g → t.height g ≡ t.height h → t.low g ≡ t.low h → t.high g ≡ t.high h → (g ≡ k) ⊎ (g ≡ k → ⊥) → (h ≡ k) ⊎ (h ≡ k → ⊥) → g ≡ h
    double' g h p e0 e1 e2 (inl x) (inl y) = x ∙ sym y
    double' g h p e0 e1 e2 (inl x) (inr y) = absurd (alone h y (sym e0 ∙ ap t.height x ∙ a.is_new.height) (sym e1 ∙ ap t.low x ∙ a.is_new.is_low) (sym e2 ∙ ap t.high x ∙ a.is_new.is_high))
    double' g h p e0 e1 e2 (inr x) (inl y) = absurd (alone g x (e0 ∙ ap t.height y ∙ a.is_new.height) (e1 ∙ ap t.low y ∙ a.is_new.is_low) (e2 ∙ ap t.high y ∙ a.is_new.is_high))
    double' g h p e0 e1 e2 (inr x) (inr y) =
        let q = old_node g x p in
        let r = old_node h y (omega arith) in
        o.no_double g h q (sym (a.height_old g x) ∙ e0 ∙ a.height_old h y) (sym (old_low g x q) ∙ e1 ∙ old_low h y r) (sym (old_high g x q) ∙ e2 ∙ old_high h y r)

    within' : (h : ℕ) → (h ≡ k) ⊎ (h ≡ k → ⊥) → t.height h ≤ n
    within' h (inl e) = rw (e, a.is_new.height) f.within
    within' h (inr ne) = rw (a.height_old h ne) (o.within h)

    pub added_reduced : Reduced n t
    added_reduced = record {
      constants = λ h l. a.height_old h (λ e. omega (arith, a.two)) ∙ o.constants h l;
      within = λ h. within' h (cases_eq h k);
      low_held = λ h p. held_up (t.low h) (low_of h p (cases_eq h k)).0;
      high_held = λ h p. held_up (t.high h) (high_of h p (cases_eq h k)).0;
      low_later = λ h p. let x = low_of h p (cases_eq h k) in later_up (t.low h) (t.height h) x.0 x.1;
      high_later = λ h p. let x = high_of h p (cases_eq h k) in later_up (t.high h) (t.height h) x.0 x.1;
      halves_differ = λ h p e. differ' h p e (cases_eq h k);
      no_double = λ g h p e0 e1 e2. double' g h p e0 e1 e2 (cases_eq g k) (cases_eq h k);
    }

-- From s to a the free handle k is written, and from a to u it is put into its chain.
pub record Steps (s a u : NodeTable) (k m low high : ℕ) : Type 0 where
  pub order : InOrder s
  pub free : FirstFree s k
  pub fits : Fits s.qubits.number (diagram_of s) m low high
  pub setting_a : SameSetting s a
  pub written : Written s a k m low high
  pub setting_u : SameSetting a u
  pub attached : Attached a u k
  pub used : u.used ≡ k - 1

-- the first step
module _ (s a : NodeTable) (k m low high : ℕ) (el : a.limit ≡ s.limit) (free : (diagram_of s).height k ≡ 0) (w : Written s a k m low high) where
  same_links : (h : ℕ) → Node s h → SameLinks s a h
  same_links h p =
      let l = node_two s h p in
      let ne = apart (diagram_of s) k h free p in
      record {
        link = ap (λ (x : ℕ). x / 64) (w.others h 0 (omega arith) l ne);
        height = same_height s a h el (λ q. ap (λ (x : ℕ). x % 32) (w.others h 0 (omega arith) l ne));
        low = same_low s a h (w.others h 1 (omega arith) l ne);
        high = same_high s a h (w.others h 2 (omega arith) l ne);
      }

  pub written_node : 2 ≤ k → k < s.limit + 2 → 0 < m → m ≤ 16 → Node a k
  written_node two lt pos le = let e = height_node a k two (omega arith) in omega (arith, e, w.word_0)

  pub written_chains : (bound : ℕ) → Chains s bound (Node s) → Chains a bound (Node s)
  written_chains bound x = chains_agree s a bound (Node s) (Node s) el (λ h p. p) (λ h p. p) (λ h p. p) same_links w.heads x

module _ (s a u : NodeTable) (k m low high : ℕ) (x : Steps s a u k m low high) where
  limit_u : u.limit ≡ s.limit
  limit_u = x.setting_u.limit ∙ x.setting_a.limit

  small : m ≤ 16
  small = omega (arith, x.fits.within, s.qubits.within)

  word_old : (h j : ℕ) → j ≤ 2 → 2 ≤ h → (h ≡ k → ⊥) → word u h j ≡ word s h j
  word_old h j le l ne = ⊎_elim zero' (λ n0. ⊎_elim one' (λ n1. two' (omega arith)) (cases_eq j 1)) (cases_eq j 0) ∙ x.written.others h j le l ne
    where
      zero' : j ≡ 0 → word u h j ≡ word a h j
      zero' e = rw e (x.attached.others h l ne)

      one' : j ≡ 1 → word u h j ≡ word a h j
      one' e = rw e (x.attached.word_1 h)

      two' : j ≡ 2 → word u h j ≡ word a h j
      two' e = rw e (x.attached.word_2 h)

  two : 2 ≤ k
  two = omega (arith, x.free.after)

  first : word u k 0 ≡ m + 64 * head a (chain_of a k)
  first = x.attached.tail ∙ rw x.written.word_0 (less m (head a (chain_of a k)) (omega (arith, small)))
    where
      less : (y z : ℕ) → y < 64 → y % 64 + 64 * z ≡ y + 64 * z
      less y z l = omega arith

  pub steps_added : Added (diagram_of s) (diagram_of u) k m low high
  steps_added = record {
    free = x.free.free;
    two = two;
    is_new = record {
      height = height_node u k two (omega (arith, limit_u, x.free.within)) ∙ ap (λ (y : ℕ). y % 32) first ∙ rest m (head a (chain_of a k)) small;
      is_low = low_is u k ∙ x.attached.word_1 k ∙ x.written.word_1;
      is_high = high_is u k ∙ x.attached.word_2 k ∙ x.written.word_2;
    };
    height_old = λ h ne. same_height s u h limit_u (λ l. ap (λ (y : ℕ). y % 32) (word_old h 0 (omega arith) l ne));
    low_old = λ h l ne. same_low s u h (word_old h 1 (omega arith) l ne);
    high_old = λ h l ne. same_high s u h (word_old h 2 (omega arith) l ne);
  }
    where
      rest : (y z : ℕ) → y ≤ 16 → (y + 64 * z) % 32 ≡ y
      rest y z l = omega arith

  other : (h : ℕ) → Node s h → h ≡ k → ⊥
  other h p = apart (diagram_of s) k h x.free.free p

  node_new : Node u k
  node_new = rw steps_added.is_new.height x.fits.positive

  node_up : (h : ℕ) → Node s h → Node u h
  node_up h p = rw (steps_added.height_old h (other h p)) p

  node_cases : (h : ℕ) → Node u h → (Node s h) ⊎ (h ≡ k)
  node_cases h p = ⊎_elim (λ (e : h ≡ k). inr e) (λ ne. inl (rw (steps_added.height_old h ne) at p)) (cases_eq h k)

  steps_chains : Chains u (suc (s.limit + s.used)) (Node u)
  steps_chains =
      attached_chains a u k x.setting_u.limit x.attached (s.limit + s.used) (Node s) (Node u) node_a up_a other node_cases node_up node_new
      (written_chains s a k m low high x.setting_a.limit x.free.free x.written (s.limit + s.used) x.order.chains)
    where
      node_a : Node a k
      node_a = written_node s a k m low high x.setting_a.limit x.free.free x.written two x.free.within x.fits.positive small

      up_a : (h : ℕ) → Node s h → Node a h
      up_a h p = rw (same_links s a k m low high x.setting_a.limit x.free.free x.written h p).height p

  pub steps_order : InOrder u
  steps_order = record {
    some = rw qubits_u x.order.some;
    reduced = subst (λ (n : ℕ). Reduced n (diagram_of u)) (sym qubits_u) (added_reduced s.qubits.number (diagram_of s) (diagram_of u) k m low high x.order.reduced steps_added x.fits);
    in_limit = λ h l. height_past u h l;
    filled = λ h l p. filled' h l p (cases_eq h k) (cases_lt h (s.used + 2));
    marked = λ h l p. marked' h l p (node_cases h p);
    chains = chained_more (suc (s.limit + s.used)) (u.limit + u.used) _ _ _ _ _ (omega (arith, limit_u, x.used, x.free.after)) steps_chains;
  }
    where
      qubits_u : u.qubits.number ≡ s.qubits.number
      qubits_u = x.setting_u.qubits ∙ x.setting_a.qubits

      filled' : (h : ℕ) → 2 ≤ h → h < u.used + 2 → (h ≡ k) ⊎ (h ≡ k → ⊥) → (h < s.used + 2) ⊎ (s.used + 2 ≤ h) → Node u h
      filled' h l p (inl e) q = subst (Node u) (sym e) node_new
      filled' h l p (inr ne) (inl q) = node_up h (x.order.filled h l q)
      filled' h l p (inr ne) (inr q) = node_up h (x.free.passed h q (omega (arith, x.used)))

      marked' : (h : ℕ) → u.used + 2 ≤ h → Node u h → (Node s h) ⊎ (h ≡ k) → mark u h ≡ 1
      marked' h l p (inl q) = ap (λ (y : ℕ). y / 32 % 2) (word_old h 0 (omega arith) (node_two s h q) (other h q)) ∙ x.order.marked h (omega (arith, x.used, x.free.after)) q
      marked' h l p (inr e) = absurd (past e)
        where
          past : h ≡ k → ⊥
          past q = omega (arith, x.used, x.free.after)

  pub steps_grown : Grown s u
  steps_grown = record {
    qubits = x.setting_u.qubits ∙ x.setting_a.qubits;
    limit = limit_u;
    keeps = added_keeps s.qubits.number (diagram_of s) (diagram_of u) k m low high x.order.reduced steps_added;
    onward = omega (arith, x.used, x.free.after);
    word_0 = λ h p. word_old h 0 (omega arith) (node_two s h p) (other h p);
    new = λ h z p. new' h z p (node_cases h p);
  }
    where
      rest : (y z : ℕ) → y ≤ 16 → (y + 64 * z) / 32 % 2 ≡ 0
      rest y z l = omega arith

      new' : (h : ℕ) → (diagram_of s).height h ≡ 0 → Node u h → (Node s h) ⊎ (h ≡ k) → (s.used + 2 ≤ h) × (h < u.used + 2) × (mark u h ≡ 0)
      new' h z p (inl q) = absurd (never q)
        where
          never : Node s h → ⊥
          never r = omega arith
      new' h z p (inr e) = (omega (arith, x.free.after), omega (arith, x.used, x.free.after), ap (mark u) e ∙ ap (λ (y : ℕ). y / 32 % 2) first ∙ rest m (head a (chain_of a k)) small)

  pub steps_joined : Joined (diagram_of s) (diagram_of u) m low high k
  steps_joined = added_joined s.qubits.number (diagram_of s) (diagram_of u) k m low high x.order.reduced steps_added
