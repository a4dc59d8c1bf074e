use Rattle.std.proofs.Common.{rules}
use Rattle.gate_columns.proofs.NewColumns.{new_stopped_a, new_stopped_b, new_stopped_c, new_stopped_d, new_made}
use Rattle.gate_columns.proofs.new_columns.Goals as goal

pub returns-in_err-a-clause-made : goal.returns-in_err-a-clause-made
returns-in_err-a-clause-made g c = search (rules, new_stopped_a)

pub returns-in_err-b-clause-made : goal.returns-in_err-b-clause-made
returns-in_err-b-clause-made g c = search (rules, new_stopped_b)

pub returns-in_err-c-clause-made : goal.returns-in_err-c-clause-made
returns-in_err-c-clause-made g c = search (rules, new_stopped_c)

pub returns-in_err-d-clause-made : goal.returns-in_err-d-clause-made
returns-in_err-d-clause-made g c = search (rules, new_stopped_d)

pub returns-clause-made : goal.returns-clause-made
returns-clause-made g c = search (rules, new_made)
