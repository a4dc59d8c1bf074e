use Rattle.std.proofs.Common.{◌-◌}
use Rattle.node_table.specs.Layout.{OnlyWords}
use Rattle.node_table.specs.Freeing.{Freed}
use Rattle.node_table.proofs.table.NodeTable.free_unmarked.Given as goal

abbrev pub invariant-loop-h : goal.invariant-loop-h
invariant-loop-h l = OnlyWords l.initial.self l.self × Freed l.initial.self l.self l.from (l.h - 2)
