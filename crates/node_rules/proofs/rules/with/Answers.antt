use Rattle.std.proofs.Common.{arith}
use Rattle.node_rules.proofs.Replacing.{set_to_1, set_to_0}
use Rattle.node_rules.proofs.rules.with.Goals as goal

pub returns-then-bit : goal.returns-then-bit
returns-then-bit c = rw c.if-bit.true (set_to_1 c.args.operand c.args.rule _ _ (omega arith) (omega arith) c.copied.ensures c.weight.ensures)

pub returns-else-bit : goal.returns-else-bit
returns-else-bit c = rw c.if-bit.false (set_to_0 c.args.operand c.args.rule _ _ (omega arith) (omega arith) c.copied-else-bit.ensures c.weight-else-bit.ensures)
