use Rattle.std.proofs.Common.{rules}
use Rattle.reductions.proofs.Dividing.{divide_stopped_a, divide_stopped_b, divide_stopped_c, divide_stopped_d, divide_made}
use Rattle.reductions.proofs.divide.Goals as goal

pub returns-in_err-a-clause-divided : goal.returns-in_err-a-clause-divided
returns-in_err-a-clause-divided g c = search (rules, divide_stopped_a)

pub returns-in_err-b-clause-divided : goal.returns-in_err-b-clause-divided
returns-in_err-b-clause-divided g c = search (rules, divide_stopped_b)

pub returns-in_err-c-clause-divided : goal.returns-in_err-c-clause-divided
returns-in_err-c-clause-divided g c = search (rules, divide_stopped_c)

pub returns-in_err-d-clause-divided : goal.returns-in_err-d-clause-divided
returns-in_err-d-clause-divided g c = search (rules, divide_stopped_d)

pub returns-clause-divided : goal.returns-clause-divided
returns-clause-divided g c = search (rules, divide_made)
