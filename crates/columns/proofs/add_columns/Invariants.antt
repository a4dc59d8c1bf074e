use Rattle.std.proofs.Common.{◌≡◌, length}
use Rattle.columns.proofs.Adding.{Adding}
use Rattle.columns.proofs.add_columns.Given as goal

abbrev pub invariant-loop-p : goal.invariant-loop-p
invariant-loop-p g l =
    let s = g.S.FunctionStore in
    s.ordered l.store × Adding (s.meaning l.initial.store) (s.meaning l.store) l.fn.p l.fn.q l.e l.sums l.carry (length l.yielded) × (length l.sums ≡ length l.yielded)
