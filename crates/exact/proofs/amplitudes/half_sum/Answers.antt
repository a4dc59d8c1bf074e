use Rattle.exact.proofs.Halves.{even_sum}
use Rattle.exact.proofs.amplitudes.half_sum.Goals as goal

pub returns-then-sum-eq0 : goal.returns-then-sum-eq0
returns-then-sum-eq0 c = even_sum c.args.x c.args.y c.ranges.x c.ranges.y c.if-sum-eq0.true
