use Rattle.std.proofs.Common.{arith}
use Rattle.exact.proofs.Shares.{too_small, unit_range, quotient}
use Rattle.exact.proofs.weights.thousandths.Goals as goal

pub returns-then-power-ge-LARGE_POWER : goal.returns-then-power-ge-LARGE_POWER
returns-then-power-ge-LARGE_POWER c = too_small c.args.whole c.args.power.0 c.ranges.whole.fits c.if-power-ge-LARGE_POWER.true

pub overflow_add-result : goal.overflow_add-result
overflow_add-result c = let u = unit_range c.args.power.0 c.if-power-ge-LARGE_POWER.false in record { fits = omega arith }

pub overflow_mul-result-2 : goal.overflow_mul-result-2
overflow_mul-result-2 c = let u = unit_range c.args.power.0 c.if-power-ge-LARGE_POWER.false in record { fits = omega arith }

pub returns : goal.returns
returns c = quotient c.args.whole c.args.power.0 c.if-power-ge-LARGE_POWER.false
