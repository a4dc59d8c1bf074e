-- What the words of a table say of a handle.
use Rattle.std.proofs.Common.{◌≡◌, ℕ, ◌+◌, ◌*◌, ◌/◌, ◌%◌, ◌<◌, ◌≤◌, ◌⊎◌, true, leb, sym, Some, None, refl, ap, ◌∙◌, subst, inl, inr, ⊎_elim, arith}
use Rattle.std.proofs.lemmas.Nat.{mod_below}
use Rattle.std.proofs.lemmas.Bool.{cases_lt, cases_Bool, cond-true, lt-ltb, le-ltb, leb-true, leb-false}
use Rattle.std.proofs.lemmas.Option.{none-some, cond_some}
use Rattle.diagrams.specs.Diagrams.{Diagram}
use Rattle.node_table.specs.declared.table.NodeTable.{NodeTable}
use Rattle.node_table.specs.Layout.{word, diagram_of, Node, link, mark, OnlyWords}
use Rattle.node_table.specs.Chains.{chain_for, handle_in}

pub height_constant : (t : NodeTable) (h : ℕ) → h < 2 → (diagram_of t).height h ≡ 0
unfolding diagram_of
height_constant t h l = rw (lt-ltb h 2 l)

pub height_past : (t : NodeTable) (h : ℕ) → t.limit + 2 ≤ h → (diagram_of t).height h ≡ 0
unfolding diagram_of
height_past t h l = rw (le-ltb h 2 (omega arith), le-ltb h (t.limit + 2) l)

pub height_node : (t : NodeTable) (h : ℕ) → 2 ≤ h → h < t.limit + 2 → (diagram_of t).height h ≡ word t h 0 % 32
unfolding diagram_of
height_node t h l m = rw (le-ltb h 2 l, lt-ltb h (t.limit + 2) m)

pub low_is : (t : NodeTable) (h : ℕ) → (diagram_of t).low h ≡ word t h 1
unfolding diagram_of
low_is t h = refl

pub high_is : (t : NodeTable) (h : ℕ) → (diagram_of t).high h ≡ word t h 2
unfolding diagram_of
high_is t h = refl

-- where a node is
pub node_two : (t : NodeTable) (h : ℕ) → Node t h → 2 ≤ h
node_two t h p = ⊎_elim (λ (l : h < 2). absurd (below l)) (λ l. l) (cases_lt h 2)
  where
    below : h < 2 → ⊥
    below l = omega (arith, height_constant t h l)

pub node_within : (t : NodeTable) (h : ℕ) → Node t h → h < t.limit + 2
node_within t h p = ⊎_elim (λ (l : h < t.limit + 2). l) (λ l. absurd (past l)) (cases_lt h (t.limit + 2))
  where
    past : t.limit + 2 ≤ h → ⊥
    past l = omega (arith, height_past t h l)

-- a node is another handle than a free one
pub apart : (s : Diagram) (k h : ℕ) → s.height k ≡ 0 → 0 < s.height h → h ≡ k → ⊥
apart s k h z p e = omega (arith, ap s.height e)

pub node_at : (t : NodeTable) (h : ℕ) → Node t h → (2 ≤ h) × (h < t.limit + 2)
node_at t h p = (node_two t h p, node_within t h p)

-- heights are equal where word 0 is, up to its multiples of 32
pub same_height : (s t : NodeTable) (h : ℕ) → t.limit ≡ s.limit → (2 ≤ h → word t h 0 % 32 ≡ word s h 0 % 32) → (diagram_of t).height h ≡ (diagram_of s).height h
same_height s t h el e = go (cases_lt h 2) (cases_lt h (s.limit + 2))
  where
    go : (h < 2) ⊎ (2 ≤ h) → (h < s.limit + 2) ⊎ (s.limit + 2 ≤ h) → (diagram_of t).height h ≡ (diagram_of s).height h
    go (inl l) m = height_constant t h l ∙ sym (height_constant s h l)
    go (inr l) (inl m) = height_node t h l (omega arith) ∙ e l ∙ sym (height_node s h l m)
    go (inr l) (inr m) = height_past t h (omega arith) ∙ sym (height_past s h m)

pub same_low : (s t : NodeTable) (h : ℕ) → word t h 1 ≡ word s h 1 → (diagram_of t).low h ≡ (diagram_of s).low h
same_low s t h e = low_is t h ∙ e ∙ sym (low_is s h)

pub same_high : (s t : NodeTable) (h : ℕ) → word t h 2 ≡ word s h 2 → (diagram_of t).high h ≡ (diagram_of s).high h
same_high s t h e = high_is t h ∙ e ∙ sym (high_is s h)

-- a place whose word 0 is 0 is free
pub height_zero : (t : NodeTable) (h : ℕ) → 2 ≤ h → word t h 0 ≡ 0 → (diagram_of t).height h ≡ 0
height_zero t h l e = ⊎_elim (λ (m : h < t.limit + 2). height_node t h l m ∙ ap (λ (x : ℕ). x % 32) e) (λ m. height_past t h m) (cases_lt h (t.limit + 2))

pub link_node : (t : NodeTable) (h : ℕ) → 2 ≤ h → link t h ≡ word t h 0 / 64
unfolding link
link_node t h l = rw (le-ltb h 2 l)

pub link_constant : (t : NodeTable) (h : ℕ) → h < 2 → link t h ≡ 0
unfolding link
link_constant t h l = rw (lt-ltb h 2 l)

pub chain_below : (limit m low high : ℕ) → 0 < limit → chain_for limit m low high < limit
unfolding chain_for
chain_below limit m low high some = mod_below (low * 12289 + high * 24593 + m * 786433) limit some

-- the handle in a chain's word
pub handle_none : (p : ℕ) → handle_in p ≡ None → p < 2
unfolding handle_in
handle_none p e = leb-false 2 p (⊎_elim (λ (t : leb 2 p ≡ true). absurd (none-some p (sym e ∙ cond-true (leb 2 p) (Some p) None t))) (λ f. f) (cases_Bool (leb 2 p)))

pub handle_some : (p h : ℕ) → handle_in p ≡ Some h → (p ≡ h) × (2 ≤ h)
unfolding handle_in
handle_some p h e =
    let q = cond_some (leb 2 p) p h e in
    (q.1, subst (λ (y : ℕ). 2 ≤ y) q.1 (leb-true 2 p q.0))

pub mark_cases : (t : NodeTable) (h : ℕ) → (mark t h ≡ 0) ⊎ (mark t h ≡ 1)
mark_cases t h = ⊎_elim (λ (l : mark t h < 1). inl (omega arith)) (λ l. inr (omega arith)) (cases_lt (mark t h) 1)

-- words that change, and change again
pub only_words_self : (t : NodeTable) → OnlyWords t t
only_words_self t = record { setting = record { qubits = refl; limit = refl }; used = refl }

pub only_words_then : (s t u : NodeTable) → OnlyWords s t → OnlyWords t u → OnlyWords s u
only_words_then s t u x y = record { setting = record { qubits = y.setting.qubits ∙ x.setting.qubits; limit = y.setting.limit ∙ x.setting.limit }; used = y.used ∙ x.used }
