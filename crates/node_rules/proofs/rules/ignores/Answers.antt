use Rattle.std.proofs.Common.{arith}
use Rattle.node_rules.proofs.Comparing.{equal_decides}
use Rattle.node_rules.proofs.rules.ignores.Goals as goal

pub returns : goal.returns
returns c = equal_decides _ _ _ (omega arith) (omega arith) c.with.ensures
