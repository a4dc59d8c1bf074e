use Rattle.std.proofs.Common.{rules}
use Rattle.gate_columns.proofs.Naming.{no_controls, one_control, two_stopped_first, two_stopped_second, two_controls}
use Rattle.gate_columns.proofs.controls_product.Goals as goal

pub returns-in_err-first-in-Three-clause-made : goal.returns-in_err-first-in-Three-clause-made
returns-in_err-first-in-Three-clause-made g c = search (rules, two_stopped_first)

pub returns-in_err-second-in-Three-clause-made : goal.returns-in_err-second-in-Three-clause-made
returns-in_err-second-in-Three-clause-made g c = search (rules, two_stopped_second)

pub returns-in-One-clause-made : goal.returns-in-One-clause-made
returns-in-One-clause-made g c = search (rules, no_controls)

pub returns-in-Two-clause-made : goal.returns-in-Two-clause-made
returns-in-Two-clause-made g c = search (rules, one_control)

pub returns-in_ok-second-in-Three-clause-made : goal.returns-in_ok-second-in-Three-clause-made
returns-in_ok-second-in-Three-clause-made g c = search (rules, two_controls)
