use Rattle.std.proofs.Common.{rules}
use Rattle.gate_columns.proofs.Terms.{term_just, term_stopped_first, term_stopped_second, term_stopped_carry, term_added}
use Rattle.gate_columns.proofs.term.Goals as goal

pub returns-in_err-p-in-Add-clause-made : goal.returns-in_err-p-in-Add-clause-made
returns-in_err-p-in-Add-clause-made g c = search (rules, term_stopped_first)

pub returns-in_err-q-in-Add-clause-made : goal.returns-in_err-q-in-Add-clause-made
returns-in_err-q-in-Add-clause-made g c = search (rules, term_stopped_second)

pub returns-in_err-e-in-Add-clause-made : goal.returns-in_err-e-in-Add-clause-made
returns-in_err-e-in-Add-clause-made g c = search (rules, term_stopped_carry)

pub returns-in-Just-clause-made : goal.returns-in-Just-clause-made
returns-in-Just-clause-made g c = search (rules, term_just)

pub returns-in_ok-e-in-Add-clause-made : goal.returns-in_ok-e-in-Add-clause-made
returns-in_ok-e-in-Add-clause-made g c = search (rules, term_added)
