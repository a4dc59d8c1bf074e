use Rattle.std.proofs.Common.{◌≡◌, ℕ, ◌<◌}
use Rattle.node_table.specs.Layout.{head, OnlyWords}
use Rattle.node_table.specs.Chains.{SameNodes}
use Rattle.node_table.proofs.table.NodeTable.drop_heads.Given as goal

abbrev pub invariant-loop-b : goal.invariant-loop-b
invariant-loop-b l =
    OnlyWords l.initial.self l.self × SameNodes l.initial.self l.self
    × ((d : ℕ) → d < l.b → head l.self d ≡ 0)
