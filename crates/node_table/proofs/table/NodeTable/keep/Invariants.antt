use Rattle.node_table.specs.Layout.{OnlyWords}
use Rattle.node_table.specs.Marking.{MarksListed}
use Rattle.node_table.proofs.table.NodeTable.keep.Given as goal

abbrev pub invariant-loop-h : goal.invariant-loop-h
invariant-loop-h l = OnlyWords l.initial.self l.self × MarksListed l.initial.self l.self l.list l.h-index
