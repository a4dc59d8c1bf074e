-- A table without nodes.
use Rattle.std.proofs.Common.{◌≡◌, ℕ, ◌+◌, ◌-◌, ◌*◌, ◌%◌, ◌<◌, ◌≤◌, ◌⊎◌, List, get_or, take, ◌++◌, length, vec_items, ap, ◌∙◌, inl, inr, arith, rules}
use Rattle.std.proofs.lemmas.List.{get_or-take, get_or_append_left}
use Rattle.std.proofs.lemmas.Bool.{cases_lt}
use Rattle.node_table.specs.declared.table.NodeTable.{NodeTable}
use Rattle.node_table.specs.Layout.{diagram_of, Node, head}
use Rattle.node_table.specs.Ordering.{InOrder}
use Rattle.node_table.proofs.Layouts.{height_constant, height_past, height_node, link_constant}

-- what a front that was written holds
pub read_front : (front rest : List ℕ) (size k : ℕ) → k < length front → length front ≤ size → get_or (take size (front ++ rest)) k 0 ≡ get_or front k 0
read_front front rest size k l m = search (rules, get_or-take, get_or_append_left)

module _ (t : NodeTable) (z : (k : ℕ) → k < 4 * t.limit → get_or (vec_items t.words) k 0 ≡ 0) where
  pub no_nodes : (h : ℕ) → (diagram_of t).height h ≡ 0
  no_nodes h = go (cases_lt h 2) (cases_lt h (t.limit + 2))
    where
      go : (h < 2) ⊎ (2 ≤ h) → (h < t.limit + 2) ⊎ (t.limit + 2 ≤ h) → (diagram_of t).height h ≡ 0
      go (inl l) m = height_constant t h l
      go (inr l) (inl m) = height_node t h l m ∙ ap (λ (x : ℕ). x % 32) (z (4 * (h - 2) + 0) (omega arith))
      go (inr l) (inr m) = height_past t h m

  nothing : {A : Type 0} (h : ℕ) → Node t h → A
  nothing h p = absurd (never (no_nodes h))
    where
      never : (diagram_of t).height h ≡ 0 → ⊥
      never e = omega arith

  pub empty_order : 1 ≤ t.qubits.number → t.used ≡ 0 → InOrder t
  empty_order some unused = record {
    some = some;
    reduced = record {
      constants = λ h l. no_nodes h;
      within = λ h. omega (arith, no_nodes h);
      low_held = λ h p. nothing h p;
      high_held = λ h p. nothing h p;
      low_later = λ h p. nothing h p;
      high_later = λ h p. nothing h p;
      halves_differ = λ h p e. nothing h p;
      no_double = λ h k p a b c. nothing h p;
    };
    in_limit = λ h l. no_nodes h;
    filled = λ h l m. absurd (before h l m);
    marked = λ h l p. nothing h p;
    chains = record {
      head_in = λ b l m. absurd (no_head b l m);
      link_in = λ h p m. nothing h p;
      ends = λ h l. rw (link_constant t h l) (omega arith);
      found = λ h p. nothing h p;
    };
  }
    where
      before : (h : ℕ) → 2 ≤ h → h < t.used + 2 → ⊥
      before h l m = omega arith

      no_head : (b : ℕ) → b < t.limit → 2 ≤ head t b → ⊥
      no_head b l m = omega (arith, z (4 * b + 3) (omega arith))
