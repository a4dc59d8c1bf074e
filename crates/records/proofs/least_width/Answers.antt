use Rattle.std.proofs.Common.{rules}
use Rattle.records.proofs.Widths.{trimming_none, trimming_stays, trimming_more, trimming_one}
use Rattle.records.proofs.least_width.Goals as goal

pub loop-top-init : goal.loop-top-init
loop-top-init c = search (rules, trimming_none)

pub returns-then-not-same_slices-clause-least : goal.returns-then-not-same_slices-clause-least
returns-then-not-same_slices-clause-least c = search (rules, trimming_stays)

pub loop-top-preserved : goal.loop-top-preserved
loop-top-preserved c = search (rules, trimming_more)

pub returns-clause-least : goal.returns-clause-least
returns-clause-least c = search (rules, trimming_one)
