-- Tables that differ in their chains alone, and chains made anew.
use Rattle.std.proofs.Common.{◌≡◌, ℕ, suc, ◌+◌, ◌-◌, ◌*◌, ◌/◌, ◌%◌, ◌<◌, ◌≤◌, ◌⊎◌, sym, refl, ap, ◌∙◌, subst, inl, inr, ⊎_elim, arith}
use Rattle.std.proofs.lemmas.Bool.{cases_eq, cases_lt}
use Rattle.diagrams.specs.Forming.{Alike}
use Rattle.node_table.specs.declared.table.NodeTable.{NodeTable}
use Rattle.node_table.specs.Layout.{diagram_of, word, Node, link, head, mark}
use Rattle.node_table.specs.Chains.{chain_for, chain_of, Chained, Chains, ChainedTo, SameNodes, Attached, SmallHeads}
use Rattle.node_table.proofs.Layouts.{apart, height_constant, node_two, node_within, same_height, same_low, same_high, link_node, link_constant, chain_below}
use Rattle.node_table.proofs.Walks.{chained_more, chained_agree, chained_attach}

pub same_nodes_alike : (s t : NodeTable) → t.limit ≡ s.limit → SameNodes s t → Alike (diagram_of s) (diagram_of t)
same_nodes_alike s t el e = record {
  height = λ h. same_height s t h el (λ l. less (word t h 0) (word s h 0) (e.word_0 h l));
  low = λ h p. same_low s t h (e.word_1 h);
  high = λ h p. same_high s t h (e.word_2 h);
}
  where
    less : (x y : ℕ) → x % 64 ≡ y % 64 → x % 32 ≡ y % 32
    less x y q = omega arith

pub same_nodes_mark : (s t : NodeTable) → SameNodes s t → (h : ℕ) → 2 ≤ h → mark t h ≡ mark s h
same_nodes_mark s t e h l = less (word t h 0) (word s h 0) (e.word_0 h l)
  where
    less : (x y : ℕ) → x % 64 ≡ y % 64 → x / 32 % 2 ≡ y / 32 % 2
    less x y q = omega arith

pub same_nodes_self : (t : NodeTable) → SameNodes t t
same_nodes_self t = record { word_0 = λ h l. refl; word_1 = λ h. refl; word_2 = λ h. refl }

pub chain_same : (s t : NodeTable) (h : ℕ) → t.limit ≡ s.limit → (diagram_of t).height h ≡ (diagram_of s).height h → (diagram_of t).low h ≡ (diagram_of s).low h → (diagram_of t).high h ≡ (diagram_of s).high h → chain_of t h ≡ chain_of s h
chain_same s t h el a b c =
    ap (λ (x : ℕ). chain_for x ((diagram_of t).height h) ((diagram_of t).low h) ((diagram_of t).high h)) el ∙ rw (a, b, c)

-- what a node has in both tables, for its chain
pub record SameLinks (s t : NodeTable) (h : ℕ) : Type 0 where
  pub link : word t h 0 / 64 ≡ word s h 0 / 64
  pub height : (diagram_of t).height h ≡ (diagram_of s).height h
  pub low : (diagram_of t).low h ≡ (diagram_of s).low h
  pub high : (diagram_of t).high h ≡ (diagram_of s).high h

pub chains_agree : (s t : NodeTable) (bound : ℕ) (In In' : ℕ → Type 0) → t.limit ≡ s.limit → ((h : ℕ) → In h → Node s h) → ((h : ℕ) → In h → In' h) → ((h : ℕ) → In' h → In h) → ((h : ℕ) → In h → SameLinks s t h) → ((b : ℕ) → head t b ≡ head s b) → Chains s bound In → Chains t bound In'
chains_agree s t bound In In' el node to back same heads x =
    subst (λ (y : ℕ). Chained bound In' y (link t) (head t) (chain_of t)) (sym el) (chained_agree bound s.limit In In' (link s) (link t) (head s) (head t) (chain_of s) (chain_of t) (record {
      to = to;
      back = back;
      two = λ h i. node_two s h (node h i);
      next_same = λ h i. let l = node_two s h (node h i) in link_node t h l ∙ (same h i).link ∙ sym (link_node s h l);
      next_end = λ h l. rw (link_constant t h l) (omega arith);
      heads_same = λ b l. heads b;
      chain_same = λ h i. let e = same h i in chain_same s t h el e.height e.low e.high;
      chain_in = λ h i. chain_below s.limit ((diagram_of s).height h) ((diagram_of s).low h) ((diagram_of s).high h) (some h (node h i));
    }) x)
  where
    some : (h : ℕ) → Node s h → 0 < s.limit
    some h p = omega (arith, node_two s h p, node_within s h p)

-- heads are handles
pub small_heads : (t : NodeTable) (bound : ℕ) (In : ℕ → Type 0) → ((h : ℕ) → In h → h < t.limit + 2) → Chains t bound In → SmallHeads t
small_heads t bound In within x b l = ⊎_elim (λ (m : head t b < 2). less m) (λ m. more (within (head t b) (x.head_in b l m))) (cases_lt (head t b) 2)
  where
    less : head t b < 2 → head t b < 131072
    less m = omega arith

    more : head t b < t.limit + 2 → head t b < 131072
    more m = omega (arith, t.small)

module _ (s t : NodeTable) (k : ℕ) (el : t.limit ≡ s.limit) (a : Attached s t k) where
  pub attached_same : SameNodes s t
  attached_same = record {
    word_0 = λ h l. zero' h l (cases_eq h k);
    word_1 = a.word_1;
    word_2 = a.word_2;
  }
    where
      tail : (x y : ℕ) → (x % 64 + 64 * y) % 64 ≡ x % 64
      tail x y = omega arith

      zero' : (h : ℕ) → 2 ≤ h → (h ≡ k) ⊎ (h ≡ k → ⊥) → word t h 0 % 64 ≡ word s h 0 % 64
      zero' h l (inl e) = rw e (ap (λ (x : ℕ). x % 64) a.tail ∙ tail (word s k 0) (head s (chain_of s k)))
      zero' h l (inr ne) = ap (λ (x : ℕ). x % 64) (a.others h l ne)

  alike : Alike (diagram_of s) (diagram_of t)
  alike = same_nodes_alike s t el attached_same

  chain_t : (h : ℕ) → Node s h → chain_of t h ≡ chain_of s h
  chain_t h p = chain_same s t h el (alike.height h) (alike.low h p) (alike.high h p)

  -- the handles that were in the chains, and the node k
  pub attached_chains : (bound : ℕ) (In In' : ℕ → Type 0) → Node s k → ((h : ℕ) → In h → Node s h) → ((h : ℕ) → In h → h ≡ k → ⊥) → ((h : ℕ) → In' h → (In h) ⊎ (h ≡ k)) → ((h : ℕ) → In h → In' h) → In' k → Chains s bound In → Chains t (suc bound) In'
  attached_chains bound In In' used node apart cases old new x =
      subst (λ (x : ℕ). Chained (suc bound) In' x (link t) (head t) (chain_of t)) (sym el) (chained_attach bound s.limit In In' (link s) (link t) (head s) (head t) (chain_of s) (chain_of t) k (chain_of s k) x (record {
        cases = cases;
        old = old;
        new = new;
        two = λ h p. node_two s h (node h p);
        next_old = λ h p. let l = node_two s h (node h p) in link_node t h l ∙ ap (λ (y : ℕ). y / 64) (a.others h l (apart h p)) ∙ sym (link_node s h l);
        next_end = λ h l. rw (link_constant t h l) (omega arith);
        next_new = link_node t k (node_two s k used) ∙ ap (λ (y : ℕ). y / 64) a.tail ∙ over (word s k 0) (head s (chain_of s k));
        within = chain_in k;
        head_new = a.headed;
        head_old = a.heads;
        chain_new = chain_t k used;
        chain_old = λ h p. chain_t h (node h p);
        chain_in = λ h p. chain_in h;
      }))
    where
      some : 0 < s.limit
      some = omega (arith, node_two s k used, node_within s k used)

      chain_in : (h : ℕ) → chain_of s h < s.limit
      chain_in h = chain_below s.limit ((diagram_of s).height h) ((diagram_of s).low h) ((diagram_of s).high h) some

      over : (x y : ℕ) → (x % 64 + 64 * y) / 64 ≡ y
      over x y = omega arith

-- handle after handle
pub enter_none : (t : NodeTable) → ((b : ℕ) → b < t.limit → head t b ≡ 0) → ChainedTo t 2
enter_none t z = record {
  chains = record {
    head_in = λ b l m. absurd (no_head b l m);
    link_in = λ h i m. absurd (nothing h i);
    ends = λ h l. rw (link_constant t h l) (omega arith);
    found = λ h i. absurd (nothing h i);
  };
}
  where
    no_head : (b : ℕ) → b < t.limit → 2 ≤ head t b → ⊥
    no_head b l m = omega (arith, z b l)

    nothing : (h : ℕ) → Node t h × (h < 2) → ⊥
    nothing h i = omega (arith, height_constant t h i.1)

pub enter_attach : (s t : NodeTable) (k : ℕ) → t.limit ≡ s.limit → Attached s t k → Node s k → ChainedTo s k → ChainedTo t (k + 1)
enter_attach s t k el a node x = record {
  chains = chained_more (suc (k - 2)) (k + 1 - 2) _ _ _ _ _ (omega (arith, node_two s k node))
      (attached_chains s t k el a (k - 2) (λ h. Node s h × (h < k)) (λ h. Node t h × (h < k + 1)) node (λ h p. p.0) (λ h p e. omega (arith, p.1)) cases' (λ h p. (to h p.0, omega (arith, p.1))) (to k node, omega arith) x.chains);
}
  where
    e : Alike (diagram_of s) (diagram_of t)
    e = same_nodes_alike s t el (attached_same s t k el a)

    to : (h : ℕ) → Node s h → Node t h
    to h p = rw (e.height h) p

    cases' : (h : ℕ) → Node t h × (h < k + 1) → (Node s h × (h < k)) ⊎ (h ≡ k)
    cases' h p = ⊎_elim (λ (q : h ≡ k). inr q) (λ ne. inl (rw (e.height h) at p.0, omega (arith, p.1))) (cases_eq h k)

pub enter_all : (t : NodeTable) → ChainedTo t (t.limit + 2) → Chains t t.limit (Node t)
enter_all t x = record {
  head_in = λ b l m. (x.chains.head_in b l m).0;
  link_in = λ h p m. (x.chains.link_in h (p, node_within t h p) m).0;
  ends = x.chains.ends;
  found = λ h p. let f = x.chains.found h (p, node_within t h p) in (f.0, omega (arith, f.1), f.2);
}
