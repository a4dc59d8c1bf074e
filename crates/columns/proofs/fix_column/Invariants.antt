use Rattle.std.proofs.Common.{◌≡◌, length}
use Rattle.columns.proofs.Fixing.{Fixing}
use Rattle.columns.proofs.fix_column.Given as goal

abbrev pub invariant-loop-slice : goal.invariant-loop-slice
invariant-loop-slice g l =
    let s = g.S.FunctionStore in
    s.ordered l.store × Fixing (s.meaning l.initial.store) (s.meaning l.store) l.column l.q l.bit l.fixed l.slice-index × (length l.fixed ≡ l.slice-index)
