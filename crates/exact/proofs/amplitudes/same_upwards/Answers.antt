use Rattle.std.proofs.Common.{◌≡◌, ℕ, ◌-◌, sym, ap, ◌∙◌, arith}
use mathlib.Core.Bool.{false≢true}
use Rattle.exact.specs.Quadruples.{times_power_of_√2}
use Rattle.exact.proofs.Comparison.{starts, goes_on, differ, same_if, same_only_if, equals}
use Rattle.exact.proofs.amplitudes.same_upwards.Goals as goal

pub loop-power-init : goal.loop-power-init
loop-power-init c = starts c.args.low.power.0 c.args.high.quadruple

pub loop-power-preserved : goal.loop-power-preserved
loop-power-preserved c = goes_on c.args.low.power.0 c.loop-power._power c.args.high.quadruple c.loop-power.quadruple c.in-Some.divided c.loop-power.auto._power c.in-Some.ensures c.loop-power.invariant

pub returns-in-None : goal.returns-in-None
returns-in-None c = (
  λ e. absurd (false≢true e),
  λ s. absurd (differ c.args.low c.args.high c.requires c.loop-power._power c.loop-power.quadruple c.loop-power.auto._power c.loop-power-test.true c.in-None.ensures c.loop-power.invariant s),
)

pub returns : goal.returns
returns c =
    let k : c.loop-power._power ≡ c.args.high.power.0 = omega (arith, c.loop-power.auto._power-end c.requires) in
    let i : times_power_of_√2 (c.args.high.power.0 - c.args.low.power.0) c.loop-power.quadruple ≡ c.args.high.quadruple =
    ap (λ (m : ℕ). times_power_of_√2 (m - c.args.low.power.0) c.loop-power.quadruple) (sym k) ∙ c.loop-power.invariant in
    let d = equals c.eq.result c.loop-power.quadruple c.args.low.quadruple c.eq.ensures in (
      λ e. same_if c.args.low c.args.high c.requires c.loop-power.quadruple i (d.0 e),
      λ s. d.1 (same_only_if c.args.low c.args.high c.requires c.loop-power.quadruple i s),
    )
