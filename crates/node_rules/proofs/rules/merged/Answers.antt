use Rattle.std.proofs.Common.{arith}
use Rattle.node_rules.proofs.Replacing.{merged}
use Rattle.node_rules.proofs.rules.merged.Goals as goal

pub returns : goal.returns
returns c = merged c.args.rule c.args.operand c.args.other _ _ _ (omega arith) c.with.ensures c.with-2.ensures c.copied-ones.ensures
