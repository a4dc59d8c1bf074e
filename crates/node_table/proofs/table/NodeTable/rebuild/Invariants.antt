use Rattle.node_table.specs.Layout.{OnlyWords}
use Rattle.node_table.specs.Chains.{ChainedTo, SameNodes}
use Rattle.node_table.proofs.table.NodeTable.rebuild.Given as goal

abbrev pub invariant-loop-h : goal.invariant-loop-h
invariant-loop-h l = OnlyWords l.initial.self l.self × SameNodes l.initial.self l.self × ChainedTo l.self l.h
