use Rattle.std.proofs.Common.{rules}
use Rattle.reductions.proofs.Reducing.{reducing_none, reducing_stopped_sums, reducing_stays, reducing_stopped_division, reducing_more, reducing_done}
use Rattle.reductions.proofs.reduce.Goals as goal

pub loop-lower-init : goal.loop-lower-init
loop-lower-init g c = search (rules, reducing_none)

pub returns-in_err-divisible-clause-reduced : goal.returns-in_err-divisible-clause-reduced
returns-in_err-divisible-clause-reduced g c = search (rules, reducing_stopped_sums)

pub returns-then-not-branch-clause-reduced : goal.returns-then-not-branch-clause-reduced
returns-then-not-branch-clause-reduced g c = search (rules, reducing_stays)

pub returns-in_err-columns-clause-reduced : goal.returns-in_err-columns-clause-reduced
returns-in_err-columns-clause-reduced g c = search (rules, reducing_stopped_division)

pub loop-lower-preserved : goal.loop-lower-preserved
loop-lower-preserved g c = search (rules, reducing_more)

pub returns-clause-reduced : goal.returns-clause-reduced
returns-clause-reduced g c = search (rules, reducing_done)
