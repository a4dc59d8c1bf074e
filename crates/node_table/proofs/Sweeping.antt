-- What a keep leaves.
use Rattle.std.proofs.Common.{◌≡◌, ℕ, ◌+◌, ◌/◌, ◌%◌, ◌<◌, ◌≤◌, ◌⊎◌, List, length, get_or, sym, refl, ap, ◌∙◌, subst, inl, inr, ⊎_elim, arith}
use Rattle.std.proofs.lemmas.Bool.{cases_eq, cases_lt}
use Rattle.functions.specs.declared.faults.StoreFault.TheVariants.{NotHeld}
use Rattle.diagrams.specs.Diagrams.{Held, Reduced}
use Rattle.diagrams.specs.Forming.{Alike}
use Rattle.diagrams.specs.Reaching.{Reaches, Swept}
use Rattle.diagrams.proofs.Reaching.{swept_reduced}
use Rattle.node_table.specs.declared.table.NodeTable.{NodeTable}
use Rattle.node_table.specs.Layout.{diagram_of, word, Node, mark, SameSetting}
use Rattle.node_table.specs.Chains.{Chains, SameNodes}
use Rattle.node_table.specs.Ordering.{InOrder}
use Rattle.node_table.specs.Freeing.{Freed}
use Rattle.node_table.specs.Marking.{SameButMarks, Marked, Marks, MarksListed, NotKept}
use Rattle.node_table.proofs.Layouts.{height_constant, height_past, height_zero, node_two, node_within, same_height, same_low, same_high, mark_cases}
use Rattle.node_table.proofs.Walks.{chained_more}
use Rattle.node_table.proofs.Rebuilding.{chains_agree, same_nodes_alike, same_nodes_mark}
use Rattle.node_table.proofs.Markings.{marks_alike, held_alike, held_back, marks_reduced, same_marks_self, same_marks_then, low_back, high_back, reaches_alike}
use Rattle.node_table.proofs.Choosing.{Chosen, chosen_node, chosen_keeps, chosen_reach}

-- listed handle after listed handle
pub listed_none : (t : NodeTable) (list : List ℕ) → ((h : ℕ) → 2 ≤ h → h < t.limit + 2 → mark t h ≡ 0) → MarksListed t t list 0
listed_none t list z = record {
  same = same_marks_self t;
  held = λ j l. absurd (below j l);
  roots = λ j l. absurd (below j l);
  reached = λ k p f. absurd (never k p f);
  closed = λ k p f. absurd (never k p f);
}
  where
    below : (j : ℕ) → j < 0 → ⊥
    below j l = omega arith

    never : (k : ℕ) → Node t k → mark t k ≡ 1 → ⊥
    never k p f = omega (arith, z k (node_two t k p) (node_within t k p))

module _ (s b t : NodeTable) (list : List ℕ) (i : ℕ) (el : b.limit ≡ s.limit) (x : MarksListed s b list i) (hb : Held (diagram_of b) (get_or list i 0)) (y : Marks b t (get_or list i 0)) where
  on : (k : ℕ) → Marked b k → Marked t k
  on k m l = y.stays k l (m l)

  held_all : (j : ℕ) → j < i + 1 → (j ≡ i) ⊎ (j ≡ i → ⊥) → Held (diagram_of s) (get_or list j 0)
  held_all j l (inl e) = subst (λ (z : ℕ). Held (diagram_of s) (get_or list z 0)) (sym e) (held_back s b el x.same (get_or list i 0) hb)
  held_all j l (inr ne) = x.held j (omega arith)

  root_all : (j : ℕ) → j < i + 1 → (j ≡ i) ⊎ (j ≡ i → ⊥) → Marked t (get_or list j 0)
  root_all j l (inl e) = subst (λ (z : ℕ). Marked t (get_or list z 0)) (sym e) y.root
  root_all j l (inr ne) = on (get_or list j 0) (x.roots j (omega arith))

  reach_all : (k : ℕ) → Node s k → mark t k ≡ 1 → (mark b k ≡ 0) ⊎ (mark b k ≡ 1) → (j : ℕ) × (j < i + 1) × Reaches (diagram_of s) (get_or list j 0) k
  reach_all k p f (inl z) = (i, omega arith, reaches_alike (diagram_of s) (diagram_of b) (marks_alike s b el x.same) (get_or list i 0) k (y.reached k (node_two s k p) z f))
  reach_all k p f (inr o) = let v = x.reached k p o in (v.0, omega (arith, v.1), v.2)

  close_all : (k : ℕ) → Node s k → mark t k ≡ 1 → (mark b k ≡ 0) ⊎ (mark b k ≡ 1) → Marked t ((diagram_of s).low k) × Marked t ((diagram_of s).high k)
  close_all k p f (inl z) =
      let v = y.closed k (node_two s k p) z f in
      (subst (Marked t) (low_back s b x.same k) v.0, subst (Marked t) (high_back s b x.same k) v.1)
  close_all k p f (inr o) = let v = x.closed k p o in (on ((diagram_of s).low k) v.0, on ((diagram_of s).high k) v.1)

  pub listed_more : MarksListed s t list (i + 1)
  listed_more = record {
    same = same_marks_then s b t x.same y.same;
    held = λ j l. held_all j l (cases_eq j i);
    roots = λ j l. root_all j l (cases_eq j i);
    reached = λ k p f. reach_all k p f (mark_cases b k);
    closed = λ k p f. close_all k p f (mark_cases b k);
  }

-- Refused: from s to a no mark is left, from a to b some are set, from b to t all.
pub record Refusing (s a b t : NodeTable) (list : List ℕ) (i : ℕ) : Type 0 where
  pub order : InOrder s
  pub setting_a : SameSetting s a
  pub used_a : a.used ≡ s.used
  pub same_a : SameButMarks s a
  pub setting_b : SameSetting a b
  pub used_b : b.used ≡ a.used
  pub marks : MarksListed a b list i
  pub setting_t : SameSetting b t
  pub used_t : t.used ≡ b.used
  pub same_t : SameButMarks b t
  pub all : (h : ℕ) → 2 ≤ h → h < b.limit + 2 → mark t h ≡ 1
  pub within : i < length list
  pub missing : Held (diagram_of b) (get_or list i 0) → ⊥

module _ (s a b t : NodeTable) (list : List ℕ) (i : ℕ) (x : Refusing s a b t list i) where
  limit_b : b.limit ≡ s.limit
  limit_b = x.setting_b.limit ∙ x.setting_a.limit

  limit_t : t.limit ≡ s.limit
  limit_t = x.setting_t.limit ∙ limit_b

  same_b : SameButMarks s b
  same_b = same_marks_then s a b x.same_a x.marks.same

  same : SameButMarks s t
  same = same_marks_then s b t same_b x.same_t

  alike : Alike (diagram_of s) (diagram_of t)
  alike = marks_alike s t limit_t same

  pub refused_setting : SameSetting s t
  refused_setting = record { qubits = x.setting_t.qubits ∙ x.setting_b.qubits ∙ x.setting_a.qubits; limit = limit_t }

  pub refused_order : InOrder t
  refused_order = record {
    some = rw refused_setting.qubits x.order.some;
    reduced = marks_reduced s t refused_setting same x.order.reduced;
    in_limit = λ h l. height_past t h l;
    filled = λ h l m. rw (alike.height h) (x.order.filled h l (omega (arith, used)));
    marked = λ h l p. x.all h (node_two t h p) (omega (arith, node_within t h p, x.setting_t.limit));
    chains = chained_more (s.limit + s.used) (t.limit + t.used) _ _ _ _ _ (omega (arith, limit_t, used))
        (chains_agree s t (s.limit + s.used) (Node s) (Node t) limit_t (λ h p. p) (λ h p. rw (alike.height h) p) (λ h p. rw (alike.height h) at p)
        (λ h p. record { link = same.link h (node_two s h p); height = alike.height h; low = alike.low h p; high = alike.high h p })
        same.heads x.order.chains);
  }
    where
      used : t.used ≡ s.used
      used = x.used_t ∙ x.used_b ∙ x.used_a

  pub refused_kept : NotKept (diagram_of s) (diagram_of t) list (NotHeld (get_or list i 0))
  refused_kept = record {
    place = i;
    within = x.within;
    before = λ j l. held_back s a x.setting_a.limit x.same_a (get_or list j 0) (x.marks.held j l);
    missing = λ h. x.missing (held_alike s b limit_b same_b (get_or list i 0) h);
    named = refl;
    alike = alike;
  }

-- Accepted: from s to a no mark is left, from a to b what the listed handles reach is marked, from b to c the rest is freed,
-- and from c to t the chains are made anew.
pub record Sweep (s a b c t : NodeTable) (list : List ℕ) : Type 0 where
  pub order : InOrder s
  pub setting_a : SameSetting s a
  pub same_a : SameButMarks s a
  pub setting_b : SameSetting a b
  pub marks : MarksListed a b list (length list)
  pub setting_c : SameSetting b c
  pub freed : Freed b c 0 b.limit
  pub setting_t : SameSetting c t
  pub used : t.used ≡ 0
  pub same_t : SameNodes c t
  pub chains : Chains t t.limit (Node t)

module _ (s a b c t : NodeTable) (list : List ℕ) (x : Sweep s a b c t list) where
  pub swept_setting : SameSetting s t
  swept_setting = record {
    qubits = x.setting_t.qubits ∙ x.setting_c.qubits ∙ x.setting_b.qubits ∙ x.setting_a.qubits;
    limit = x.setting_t.limit ∙ x.setting_c.limit ∙ x.setting_b.limit ∙ x.setting_a.limit;
  }

  before_b : SameButMarks s b
  before_b = same_marks_then s a b x.same_a x.marks.same

  alike_b : Alike (diagram_of s) (diagram_of b)
  alike_b = marks_alike s b (x.setting_b.limit ∙ x.setting_a.limit) before_b

  alike_a : Alike (diagram_of s) (diagram_of a)
  alike_a = marks_alike s a x.setting_a.limit x.same_a

  alike_t : Alike (diagram_of c) (diagram_of t)
  alike_t = same_nodes_alike c t x.setting_t.limit x.same_t

  word_inside : (h : ℕ) → 2 ≤ h → mark b h ≡ 1 → word c h 0 ≡ word b h 0
  word_inside h l f = x.freed.others h l (λ y z e. clash e)
    where
      clash : mark b h ≡ 0 → ⊥
      clash e = omega arith

  outside' : (h : ℕ) → 2 ≤ h → (mark b h ≡ 1 → ⊥) → (diagram_of t).height h ≡ 0
  outside' h l nf = alike_t.height h ∙ gone (cases_lt h (b.limit + 2))
    where
      clear : mark b h ≡ 0
      clear = ⊎_elim (λ (e : mark b h ≡ 0). e) (λ e. absurd (nf e)) (mark_cases b h)

      gone : (h < b.limit + 2) ⊎ (b.limit + 2 ≤ h) → (diagram_of c).height h ≡ 0
      gone (inl m) = height_zero c h l (x.freed.freed h (omega arith) m clear)
      gone (inr m) = height_past c h (omega (arith, x.setting_c.limit))

  closed' : (h : ℕ) → Node s h → mark b h ≡ 1 → (2 ≤ (diagram_of s).low h → mark b ((diagram_of s).low h) ≡ 1) × (2 ≤ (diagram_of s).high h → mark b ((diagram_of s).high h) ≡ 1)
  closed' h p f =
      let v = x.marks.closed h (rw (alike_a.height h) p) f in
      (subst (Marked b) (low_back s a x.same_a h) v.0, subst (Marked b) (high_back s a x.same_a h) v.1)

  chosen_t : Chosen (diagram_of s) (diagram_of t) (λ h. mark b h ≡ 1)
  chosen_t = record {
    decide = λ h. cases_eq (mark b h) 1;
    constants = λ h l. height_constant t h l;
    inside = λ h l f. alike_t.height h ∙ same_height b c h x.setting_c.limit (λ q. ap (λ (y : ℕ). y % 32) (word_inside h l f)) ∙ alike_b.height h;
    outside = outside';
    low = λ h l. same_low c t h (x.same_t.word_1 h) ∙ same_low b c h (x.freed.word_1 h) ∙ low_back s b before_b h;
    high = λ h l. same_high c t h (x.same_t.word_2 h) ∙ same_high b c h (x.freed.word_2 h) ∙ high_back s b before_b h;
    closed = closed';
  }

  node_of : (h : ℕ) → Node t h → (mark b h ≡ 1) × ((diagram_of t).height h ≡ (diagram_of s).height h)
  node_of h p = chosen_node s.qubits.number (diagram_of s) (diagram_of t) (λ k. mark b k ≡ 1) chosen_t x.order.reduced h p

  pub swept_kept : Swept (diagram_of s) (diagram_of t) list
  swept_kept = record {
    same = chosen_keeps s.qubits.number (diagram_of s) (diagram_of t) (λ k. mark b k ≡ 1) chosen_t x.order.reduced;
    reached = reached';
    stays = λ i l k r. chosen_reach s.qubits.number (diagram_of s) (diagram_of t) (λ h. mark b h ≡ 1) chosen_t x.order.reduced (get_or list i 0) k (held_back s a x.setting_a.limit x.same_a (get_or list i 0) (x.marks.held i l)) (x.marks.roots i l) r;
  }
    where
      reached' : (k : ℕ) → Node t k → (i : ℕ) × (i < length list) × Reaches (diagram_of s) (get_or list i 0) k
      reached' k p =
          let e = node_of k p in
          let q : Node s k = rw e.1 at p in
          let v = x.marks.reached k (rw (alike_a.height k) q) e.0 in
          (v.0, v.1, reaches_alike (diagram_of s) (diagram_of a) alike_a (get_or list v.0 0) k v.2)

  pub swept_order : InOrder t
  swept_order = record {
    some = rw swept_setting.qubits x.order.some;
    reduced = subst (λ (n : ℕ). Reduced n (diagram_of t)) (sym swept_setting.qubits) (swept_reduced s.qubits.number (diagram_of s) (diagram_of t) x.order.reduced list swept_kept);
    in_limit = λ h l. height_past t h l;
    filled = λ h l m. absurd (before h l m);
    marked = λ h l p.
        let two = node_two t h p in
        same_nodes_mark c t x.same_t h two ∙ ap (λ (y : ℕ). y / 32 % 2) (word_inside h two (node_of h p).0) ∙ (node_of h p).0;
    chains = chained_more t.limit (t.limit + t.used) _ _ _ _ _ (omega arith) x.chains;
  }
    where
      before : (h : ℕ) → 2 ≤ h → h < t.used + 2 → ⊥
      before h l m = omega (arith, x.used)
