-- Tables that grow.
use Rattle.std.proofs.Common.{◌≡◌, ℕ, ◌+◌, ◌/◌, ◌%◌, ◌<◌, ◌≤◌, ◌⊎◌, refl, ap, ◌∙◌, inl, inr, arith}
use Rattle.std.proofs.lemmas.Bool.{cases_lt}
use Rattle.diagrams.proofs.Canonical.{keeps_self, keeps_then, node_kept}
use Rattle.node_table.specs.declared.table.NodeTable.{NodeTable}
use Rattle.node_table.specs.Layout.{diagram_of, Node, mark}
use Rattle.node_table.specs.Ordering.{Grown}

pub grown_self : (t : NodeTable) → Grown t t
grown_self t = record {
  qubits = refl;
  limit = refl;
  keeps = keeps_self (diagram_of t);
  onward = omega arith;
  word_0 = λ h p. refl;
  new = λ h z p. absurd (never h z p);
}
  where
    never : (h : ℕ) → (diagram_of t).height h ≡ 0 → Node t h → ⊥
    never h z p = omega arith

pub grown_then : (s t u : NodeTable) → Grown s t → Grown t u → Grown s u
grown_then s t u g m = record {
  qubits = m.qubits ∙ g.qubits;
  limit = m.limit ∙ g.limit;
  keeps = keeps_then (diagram_of s) (diagram_of t) (diagram_of u) g.keeps m.keeps;
  onward = omega (arith, g.onward, m.onward);
  word_0 = λ h p. m.word_0 h (node_kept (diagram_of s) (diagram_of t) g.keeps h p) ∙ g.word_0 h p;
  new = λ h z p. new' h z p (cases_lt 0 ((diagram_of t).height h));
}
  where
    new' : (h : ℕ) → (diagram_of s).height h ≡ 0 → Node u h → (Node t h) ⊎ ((diagram_of t).height h ≤ 0) → (s.used + 2 ≤ h) × (h < u.used + 2) × (mark u h ≡ 0)
    new' h z p (inl q) =
        let a = g.new h z q in
        (a.0, omega (arith, a.1, m.onward), ap (λ (x : ℕ). x / 32 % 2) (m.word_0 h q) ∙ a.2)
    new' h z p (inr q) =
        let a = m.new h (omega arith) p in
        (omega (arith, a.0, g.onward), a.1, a.2)
