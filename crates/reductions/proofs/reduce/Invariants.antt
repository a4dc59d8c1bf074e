use Rattle.std.proofs.Common.{◌≡◌, length}
use Rattle.reductions.proofs.Reducing.{Reducing}
use Rattle.reductions.proofs.reduce.Given as goal

abbrev pub invariant-loop-lower : goal.invariant-loop-lower
invariant-loop-lower g l =
    let s = g.S.FunctionStore in
    s.ordered l.store × Reducing (s.meaning l.initial.store) (s.meaning l.store) l.fn.columns l.fn.power.0 l.columns l.lower × (length l.columns.a ≡ length l.fn.columns.a)
