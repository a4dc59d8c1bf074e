use Rattle.node_rules.proofs.AllRules.{rule_240, rule_204, rule_170}
use Rattle.node_rules.proofs.operands.Operand.copied.Goals as goal

pub returns-in-First : goal.returns-in-First
returns-in-First c = rw c.in-First.is rule_240

pub returns-in-Second : goal.returns-in-Second
returns-in-Second c = rw c.in-Second.is rule_204

pub returns-in-Third : goal.returns-in-Third
returns-in-Third c = rw c.in-Third.is rule_170
