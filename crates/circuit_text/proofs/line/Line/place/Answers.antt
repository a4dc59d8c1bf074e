use Rattle.std.proofs.Common.{arith}
use Rattle.circuit_text.proofs.Spaces.{spaces_within}
use Rattle.circuit_text.proofs.line.Line.place.Goals as goal

pub overflow_add-result : goal.overflow_add-result
overflow_add-result c = omega (arith, c.offset.ensures, spaces_within c.args.nth c.args.self.now.bytes.now)
