use Rattle.std.proofs.Common.{rules}
use Rattle.gate_columns.proofs.Naming.{literals_stopped_target, literals_stopped_controls, literals_done}
use Rattle.gate_columns.proofs.literals.Goals as goal

pub returns-in_err-literal-clause-made : goal.returns-in_err-literal-clause-made
returns-in_err-literal-clause-made g c = search (rules, literals_stopped_target)

pub returns-in_err-controls-clause-made : goal.returns-in_err-controls-clause-made
returns-in_err-controls-clause-made g c = search (rules, literals_stopped_controls)

pub returns-clause-made : goal.returns-clause-made
returns-clause-made g c = search (rules, literals_done)
