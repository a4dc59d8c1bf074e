use Rattle.std.proofs.Common.{◌≡◌, ℕ, ◌+◌, ◌<◌, ◌≤◌, Some, None, Option, rules}
use Rattle.std.specs.Option.{MatchOption}
use Rattle.std.proofs.lemmas.Iterator.{first_from_Range}
use Rattle.node_table.specs.declared.table.NodeTable.{NodeTable}
use Rattle.node_table.specs.Layout.{diagram_of, Node}
use Rattle.node_table.specs.Adding.{AllNodes, FirstFree}
use Rattle.node_table.proofs.table.NodeTable.first_free.Goals as goal

pub returns : goal.returns
returns c =
    let t = c.args.self.now in
    go t c.find.result (first_from_Range _ _ _ c.find.result (λ h. (diagram_of t).height h ≡ 0) (Node t) c.find.ensures.ran (λ h q k. search rules) (λ h q k. search rules))
  where
    go : (t : NodeTable) (r : Option ℕ) → MatchOption r ((k : ℕ) → t.used + 2 ≤ k → k < t.limit + 2 → Node t k) (λ h. (t.used + 2 ≤ h) × (h < t.limit + 2) × ((diagram_of t).height h ≡ 0) × ((k : ℕ) → t.used + 2 ≤ k → k < h → Node t k)) → MatchOption r (AllNodes t (t.used + 2) (t.limit + 2)) (FirstFree t)
    go t None p = p
    go t (Some h) p = record { after = p.0; within = p.1; passed = p.3; free = p.2 }
