use Rattle.std.proofs.Common.{rules}
use Rattle.gate_columns.proofs.Operands.{operand_zero, operand_old, operand_fixed, operand_flipped, operand_chosen, operand_stopped, operand_controlled}
use Rattle.gate_columns.proofs.operand.Goals as goal

pub returns-in_err-turned-in-Controlled-clause-made : goal.returns-in_err-turned-in-Controlled-clause-made
returns-in_err-turned-in-Controlled-clause-made g c = search (rules, operand_stopped)

pub returns-in-Zero-clause-made : goal.returns-in-Zero-clause-made
returns-in-Zero-clause-made g c = search (rules, operand_zero)

pub returns-in-Old-clause-made : goal.returns-in-Old-clause-made
returns-in-Old-clause-made g c = search (rules, operand_old)

pub returns-in-Fixed-clause-made : goal.returns-in-Fixed-clause-made
returns-in-Fixed-clause-made g c = search (rules, operand_fixed)

pub returns-in-Flipped-clause-made : goal.returns-in-Flipped-clause-made
returns-in-Flipped-clause-made g c = search (rules, operand_flipped)

pub returns-in-Chosen-clause-made : goal.returns-in-Chosen-clause-made
returns-in-Chosen-clause-made g c = search (rules, operand_chosen)

pub returns-in_ok-turned-in-Controlled-clause-made : goal.returns-in_ok-turned-in-Controlled-clause-made
returns-in_ok-turned-in-Controlled-clause-made g c = search (rules, operand_controlled)
