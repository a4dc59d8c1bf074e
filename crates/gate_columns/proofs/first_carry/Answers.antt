use Rattle.std.proofs.Common.{rules}
use Rattle.gate_columns.proofs.Carries.{carry_nowhere, carry_everywhere, carry_target, carry_not_target, carry_controls_and_target}
use Rattle.gate_columns.proofs.first_carry.Goals as goal

pub returns-in-Nowhere-clause-made : goal.returns-in-Nowhere-clause-made
returns-in-Nowhere-clause-made g c = search (rules, carry_nowhere)

pub returns-in-Everywhere-clause-made : goal.returns-in-Everywhere-clause-made
returns-in-Everywhere-clause-made g c = search (rules, carry_everywhere)

pub returns-in-Target-clause-made : goal.returns-in-Target-clause-made
returns-in-Target-clause-made g c = search (rules, carry_target)

pub returns-in-NotTarget-clause-made : goal.returns-in-NotTarget-clause-made
returns-in-NotTarget-clause-made g c = search (rules, carry_not_target)

pub returns-in-ControlsAndTarget-clause-made : goal.returns-in-ControlsAndTarget-clause-made
returns-in-ControlsAndTarget-clause-made g c = search (rules, carry_controls_and_target)
