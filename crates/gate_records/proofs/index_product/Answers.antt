use Rattle.std.proofs.Common.{refl, arith}
use Rattle.std.proofs.lemmas.Result.{err_from_is_err_and}
use Rattle.gate_records.proofs.Opening.{opening_none, opening_done, opening_stopped_literal, opening_stopped_factor, opening_more}
use Rattle.gate_records.proofs.index_product.Goals as goal

pub loop-q-init : goal.loop-q-init
loop-q-init g c = (c.requires.order, opening_none _ _ _ c.qubits-q.ensures)

pub returns-in_err-literal-clause-made : goal.returns-in_err-literal-clause-made
returns-in_err-literal-clause-made g c =
    let p = err_from_is_err_and c.from_residual.result c.from_residual.ensures.1 in
    let v = g.S.FunctionStore.meaning c.args.store.now in
    rw (p.1, p.2) (opening_stopped_literal _ _ _ v _ _ _ _ (omega arith) c.loop-q.invariant.1 _ c.in_err-literal.ensures.made)

pub returns-in_err-product-clause-made : goal.returns-in_err-product-clause-made
returns-in_err-product-clause-made g c =
    let p = err_from_is_err_and c.from_residual-in_err-product.result c.from_residual-in_err-product.ensures.1 in
    rw (p.1, p.2) (opening_stopped_factor _ _ _ _ _ _ _ _ (omega arith) c.loop-q.invariant.1 _ c.in_ok-literal.ensures.made _ _ refl c.in_err-product.ensures.narrowed)

pub loop-q-preserved : goal.loop-q-preserved
loop-q-preserved g c = (
  c.narrow.ensures.order,
  opening_more _ _ _ _ _ _ _ _ (omega arith) c.loop-q.invariant.1 _ c.in_ok-literal.ensures.made _ _ refl c.in_ok-product.ensures.narrowed,
)

pub returns-clause-made : goal.returns-clause-made
returns-clause-made g c = opening_done _ _ _ _ _ _ (omega arith) c.loop-q.invariant.1
