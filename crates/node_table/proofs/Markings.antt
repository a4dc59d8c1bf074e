-- Marks go over what is reached.
use Rattle.std.proofs.Common.{◌≡◌, ℕ, ◌<◌, ◌≤◌, ◌⊎◌, sym, refl, ap, ◌∙◌, subst, inl, inr, ⊎_elim}
use Rattle.std.proofs.lemmas.Bool.{cases_eq}
use Rattle.diagrams.specs.Diagrams.{Diagram, Held, Reduced}
use Rattle.diagrams.specs.Forming.{Alike}
use Rattle.diagrams.specs.Reaching.{Reaches, itself, by_low, by_high}
use Rattle.diagrams.proofs.Canonical.{alike_reduced, alike_back, alike_keeps, held_kept}
use Rattle.node_table.specs.declared.table.NodeTable.{NodeTable}
use Rattle.node_table.specs.Layout.{diagram_of, Node, mark, SameSetting}
use Rattle.node_table.specs.Marking.{SameButMarks, Marked, Marks}
use Rattle.node_table.proofs.Layouts.{same_height, same_low, same_high, mark_cases}

pub marks_alike : (s t : NodeTable) → t.limit ≡ s.limit → SameButMarks s t → Alike (diagram_of s) (diagram_of t)
marks_alike s t el e = record {
  height = λ h. same_height s t h el (e.height h);
  low = λ h p. same_low s t h (e.word_1 h);
  high = λ h p. same_high s t h (e.word_2 h);
}

pub same_marks_self : (t : NodeTable) → SameButMarks t t
same_marks_self t = record { height = λ h l. refl; link = λ h l. refl; word_1 = λ h. refl; word_2 = λ h. refl; heads = λ b. refl }

pub same_marks_then : (s t u : NodeTable) → SameButMarks s t → SameButMarks t u → SameButMarks s u
same_marks_then s t u x y = record {
  height = λ h l. y.height h l ∙ x.height h l;
  link = λ h l. y.link h l ∙ x.link h l;
  word_1 = λ h. y.word_1 h ∙ x.word_1 h;
  word_2 = λ h. y.word_2 h ∙ x.word_2 h;
  heads = λ b. y.heads b ∙ x.heads b;
}

pub low_back : (s t : NodeTable) → SameButMarks s t → (h : ℕ) → (diagram_of t).low h ≡ (diagram_of s).low h
low_back s t e h = same_low s t h (e.word_1 h)

pub high_back : (s t : NodeTable) → SameButMarks s t → (h : ℕ) → (diagram_of t).high h ≡ (diagram_of s).high h
high_back s t e h = same_high s t h (e.word_2 h)

-- held among the same nodes
pub held_alike : (s t : NodeTable) → t.limit ≡ s.limit → SameButMarks s t → (h : ℕ) → Held (diagram_of s) h → Held (diagram_of t) h
held_alike s t el e = held_kept (diagram_of s) (diagram_of t) (alike_keeps (diagram_of s) (diagram_of t) (marks_alike s t el e))

pub held_back : (s t : NodeTable) → t.limit ≡ s.limit → SameButMarks s t → (h : ℕ) → Held (diagram_of t) h → Held (diagram_of s) h
held_back s t el e = held_kept (diagram_of t) (diagram_of s) (alike_keeps (diagram_of t) (diagram_of s) (alike_back (diagram_of s) (diagram_of t) (marks_alike s t el e)))

pub marks_reduced : (s t : NodeTable) → SameSetting s t → SameButMarks s t → Reduced s.qubits.number (diagram_of s) → Reduced t.qubits.number (diagram_of t)
marks_reduced s t z e o = subst (λ (n : ℕ). Reduced n (diagram_of t)) (sym z.qubits) (alike_reduced s.qubits.number (diagram_of s) (diagram_of t) (marks_alike s t z.limit e) o)

-- what is reached among the same nodes
pub reaches_alike : (s t : Diagram) → Alike s t → (h k : ℕ) → Reaches t h k → Reaches s h k
reaches_alike s t a h k itself = itself
reaches_alike s t a h k (by_low p r) = let q : 0 < s.height h = rw (a.height h) at p in by_low q (subst (λ (j : ℕ). Reaches s j k) (a.low h q) (reaches_alike s t a (t.low h) k r))
reaches_alike s t a h k (by_high p r) = let q : 0 < s.height h = rw (a.height h) at p in by_high q (subst (λ (j : ℕ). Reaches s j k) (a.high h q) (reaches_alike s t a (t.high h) k r))

-- From s to a the node h is marked, from a to b what its low half reaches, and from b to t what its high half reaches.
pub record Marking (s a b t : NodeTable) (h lo hi : ℕ) : Type 0 where
  pub node : Node s h
  pub limit_a : a.limit ≡ s.limit
  pub same_a : SameButMarks s a
  pub marked : mark a h ≡ 1
  pub others : (k : ℕ) → 2 ≤ k → (k ≡ h → ⊥) → mark a k ≡ mark s k
  pub is_low : lo ≡ (diagram_of s).low h
  pub limit_b : b.limit ≡ a.limit
  pub low_marks : Marks a b lo
  pub is_high : hi ≡ (diagram_of s).high h
  pub high_marks : Marks b t hi

module _ (s a b t : NodeTable) (h lo hi : ℕ) (x : Marking s a b t h lo hi) where
  same_b : SameButMarks s b
  same_b = same_marks_then s a b x.same_a x.low_marks.same

  up : (k : ℕ) → 2 ≤ k → mark s k ≡ 1 → mark a k ≡ 1
  up k l f = ⊎_elim (λ (e : k ≡ h). ap (mark a) e ∙ x.marked) (λ ne. x.others k l ne ∙ f) (cases_eq k h)

  on : (k : ℕ) → Marked b k → Marked t k
  on k m l = x.high_marks.stays k l (m l)

  -- a node newly marked is h, or was marked from the low half, or from the high half
  Ways : ℕ → Type 0
  Ways k = (k ≡ h) ⊎ (((mark a k ≡ 0) × (mark b k ≡ 1)) ⊎ ((mark b k ≡ 0) × (mark t k ≡ 1)))

  ways : (k : ℕ) → 2 ≤ k → mark s k ≡ 0 → mark t k ≡ 1 → Ways k
  unfolding Ways
  ways k l z f = go (cases_eq k h) (mark_cases b k)
    where
      go : (k ≡ h) ⊎ (k ≡ h → ⊥) → (mark b k ≡ 0) ⊎ (mark b k ≡ 1) → (k ≡ h) ⊎ (((mark a k ≡ 0) × (mark b k ≡ 1)) ⊎ ((mark b k ≡ 0) × (mark t k ≡ 1)))
      go (inl q) w = inl q
      go (inr q) (inl w) = inr (inr (w, f))
      go (inr q) (inr w) = inr (inl (x.others k l q ∙ z, w))

  reach : (k : ℕ) → 2 ≤ k → Ways k → Reaches (diagram_of s) h k
  unfolding Ways
  reach k l (inl e) = subst (Reaches (diagram_of s) h) (sym e) itself
  reach k l (inr (inl w)) =
      by_low x.node (subst (λ (j : ℕ). Reaches (diagram_of s) j k) x.is_low
      (reaches_alike (diagram_of s) (diagram_of a) (marks_alike s a x.limit_a x.same_a) lo k (x.low_marks.reached k l w.0 w.1)))
  reach k l (inr (inr w)) =
      by_high x.node (subst (λ (j : ℕ). Reaches (diagram_of s) j k) x.is_high
      (reaches_alike (diagram_of s) (diagram_of b) (marks_alike s b (x.limit_b ∙ x.limit_a) same_b) hi k (x.high_marks.reached k l w.0 w.1)))

  close : (k : ℕ) → 2 ≤ k → Ways k → Marked t ((diagram_of s).low k) × Marked t ((diagram_of s).high k)
  unfolding Ways
  close k l (inl e) =
      (subst (Marked t) (x.is_low ∙ ap (diagram_of s).low (sym e)) (on lo x.low_marks.root), subst (Marked t) (x.is_high ∙ ap (diagram_of s).high (sym e)) x.high_marks.root)
  close k l (inr (inl w)) =
      let v = x.low_marks.closed k l w.0 w.1 in
      (on ((diagram_of s).low k) (subst (Marked b) (low_back s a x.same_a k) v.0), on ((diagram_of s).high k) (subst (Marked b) (high_back s a x.same_a k) v.1))
  close k l (inr (inr w)) =
      let v = x.high_marks.closed k l w.0 w.1 in
      (subst (Marked t) (low_back s b same_b k) v.0, subst (Marked t) (high_back s b same_b k) v.1)

  pub marks_both : Marks s t h
  marks_both = record {
    same = same_marks_then s b t same_b x.high_marks.same;
    root = λ l. x.high_marks.stays h l (x.low_marks.stays h l x.marked);
    stays = λ k l f. x.high_marks.stays k l (x.low_marks.stays k l (up k l f));
    reached = λ k l z f. reach k l (ways k l z f);
    closed = λ k l z f. close k l (ways k l z f);
  }

-- under other marks a diagram is reduced, and the halves of a node are held and lower
pub record Remarked (s t : NodeTable) (h : ℕ) : Type 0 where
  pub reduced : Reduced t.qubits.number (diagram_of t)
  pub low : (k : ℕ) → k ≡ (diagram_of s).low h → Held (diagram_of t) k × ((diagram_of t).height k < (diagram_of s).height h)
  pub high : (k : ℕ) → k ≡ (diagram_of s).high h → Held (diagram_of t) k × ((diagram_of t).height k < (diagram_of s).height h)

pub remarked : (s t : NodeTable) (h : ℕ) → Reduced s.qubits.number (diagram_of s) → SameSetting s t → SameButMarks s t → Node s h → Remarked s t h
remarked s t h o z e p = record {
  reduced = marks_reduced s t z e o;
  low = λ k q. half k (subst (λ (y : ℕ). Held (diagram_of s) y × ((diagram_of s).height y < (diagram_of s).height h)) (sym q) (o.low_held h p, o.low_later h p));
  high = λ k q. half k (subst (λ (y : ℕ). Held (diagram_of s) y × ((diagram_of s).height y < (diagram_of s).height h)) (sym q) (o.high_held h p, o.high_later h p));
}
  where
    half : (k : ℕ) → Held (diagram_of s) k × ((diagram_of s).height k < (diagram_of s).height h) → Held (diagram_of t) k × ((diagram_of t).height k < (diagram_of s).height h)
    half k f = (held_alike s t z.limit e k f.0, rw ((marks_alike s t z.limit e).height k) f.1)
