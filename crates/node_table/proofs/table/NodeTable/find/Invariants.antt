use Rattle.std.proofs.Common.{◌≡◌, ℕ, ◌+◌, ◌<◌, ◌≤◌}
use Rattle.diagrams.specs.Forming.{IsNode}
use Rattle.node_table.specs.Layout.{diagram_of, Node, link}
use Rattle.node_table.specs.Chains.{walk, handle_in}
use Rattle.node_table.proofs.table.NodeTable.find.Given as goal

-- the chain goes on at p, or has ended there, and the node that is looked for is ahead
abbrev pub invariant-loop-step : goal.invariant-loop-step
invariant-loop-step l =
    (p : ℕ) × (l.next ≡ handle_in p)
    × (2 ≤ p → Node l.self p)
    × ((x : ℕ) → IsNode (diagram_of l.self) x l.branch.height l.branch.low l.branch.high → (k : ℕ) × (k + l._step < l.self.limit + l.self.used) × (walk (link l.self) k p ≡ x))
