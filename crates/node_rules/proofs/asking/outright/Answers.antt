use Rattle.std.proofs.Common.{arith}
use Rattle.node_rules.proofs.Simplifying.{plain_zero, plain_one, plain_first, plain_second, plain_third, mixed}
use Rattle.node_rules.proofs.asking.outright.Goals as goal

pub returns-in-0 : goal.returns-in-0
returns-in-0 c = plain_zero _ c.in-0.is

pub returns-in-255 : goal.returns-in-255
returns-in-255 c = plain_one _ c.in-255.is

pub returns-in-240 : goal.returns-in-240
returns-in-240 c = plain_first _ c.in-240.is

pub returns-in-204 : goal.returns-in-204
returns-in-204 c = plain_second _ c.in-204.is

pub returns-in-170 : goal.returns-in-170
returns-in-170 c = plain_third _ c.in-170.is

pub returns-in_default : goal.returns-in_default
returns-in_default c = mixed c.args.asked.rule (omega arith) (λ e. omega arith) (λ e. omega arith) (λ e. omega arith) (λ e. omega arith) (λ e. omega arith)
