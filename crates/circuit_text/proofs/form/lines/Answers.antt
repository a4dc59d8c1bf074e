use Rattle.std.proofs.Common.{◌≡◌, [], ◌∙◌, arith}
use Rattle.text_fields.proofs.Exits.{follows_stuck}
use Rattle.text_fields.proofs.Several.{underway_none, underway_more, underway_stuck, underway_all}
use Rattle.circuit_text.proofs.form.lines.Goals as goal

pub loop-init : goal.loop-init
loop-init g c = ([], underway_none (g.L.Listed.phrase c.args.qubits.number) c.args.total c.args.reader.now)

pub returns-in_err-read : goal.returns-in_err-read
returns-in_err-read g c = follows_stuck _ _ _ _ _ _ c.from_residual.ensures.1 (underway_stuck _ _ _ _ _ _ c.loop.invariant.1 c.loop-test.true _ c.in_err-read.ensures)

pub loop-preserved : goal.loop-preserved
loop-preserved g c = (_, underway_more _ _ _ _ _ _ c.loop.invariant.1 _ c.loop-test.true _ c.in_ok-read.ensures.1.1)

pub returns : goal.returns
returns g c =
    let e : c.loop.counter ≡ c.args.total = omega (arith, c.loop-test.false, c.loop.auto.counter-end) in
    (_, (c.loop.invariant.1.many ∙ e, underway_all _ _ _ _ _ _ c.loop.invariant.1 c.loop-test.false))
