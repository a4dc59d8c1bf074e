use Rattle.gate_records.proofs.Opening.{Opening}
use Rattle.gate_records.proofs.index_product.Given as goal

abbrev pub invariant-loop-q : goal.invariant-loop-q
invariant-loop-q g l =
    let s = g.S.FunctionStore in
    s.ordered l.store × Opening (s.meaning l.initial.store) (s.meaning l.store) l.index l.product l.rest l.q
