use Rattle.std.proofs.Common.{◌≡◌, length}
use Rattle.columns.proofs.Choosing.{Choosing}
use Rattle.columns.proofs.choose_column.Given as goal

abbrev pub invariant-loop-p : goal.invariant-loop-p
invariant-loop-p g l =
    let s = g.S.FunctionStore in
    s.ordered l.store × Choosing (s.meaning l.initial.store) (s.meaning l.store) l.f l.fn.p l.fn.q l.chosen (length l.yielded) × (length l.chosen ≡ length l.yielded)
