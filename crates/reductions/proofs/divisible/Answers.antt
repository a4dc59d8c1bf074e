use Rattle.std.proofs.Common.{rules}
use Rattle.reductions.proofs.Asking.{asked_stopped_a_c, asked_stopped_b_d, asked_both}
use Rattle.reductions.proofs.divisible.Goals as goal

pub returns-in_err-with_c-clause-asked : goal.returns-in_err-with_c-clause-asked
returns-in_err-with_c-clause-asked g c = search (rules, asked_stopped_a_c)

pub returns-in_err-with_d-clause-asked : goal.returns-in_err-with_d-clause-asked
returns-in_err-with_d-clause-asked g c = search (rules, asked_stopped_b_d)

pub returns-clause-asked : goal.returns-clause-asked
returns-clause-asked g c = search (rules, asked_both)
