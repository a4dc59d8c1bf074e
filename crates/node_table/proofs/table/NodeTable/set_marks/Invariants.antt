use Rattle.std.proofs.Common.{◌≡◌, ℕ, ◌<◌, ◌≤◌, cond}
use Rattle.node_table.specs.Layout.{mark, OnlyWords}
use Rattle.node_table.specs.Marking.{SameButMarks}
use Rattle.node_table.proofs.table.NodeTable.set_marks.Given as goal

abbrev pub invariant-loop-h : goal.invariant-loop-h
invariant-loop-h l =
    OnlyWords l.initial.self l.self × SameButMarks l.initial.self l.self
    × ((h : ℕ) → 2 ≤ h → h < l.h → mark l.self h ≡ cond l.marked 1 0)
