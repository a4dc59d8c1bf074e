use Rattle.std.proofs.Common.{rules}
use Rattle.std.proofs.lemmas.List.{length_push}
use Rattle.columns.proofs.Fixing.{fixing_none, fixing_more, fixing_stopped, fixing_done}
use Rattle.columns.proofs.fix_column.Goals as goal

pub loop-slice-init : goal.loop-slice-init
loop-slice-init g c = search (rules, fixing_none)

pub returns-in_err-fixed-clause-fixed : goal.returns-in_err-fixed-clause-fixed
returns-in_err-fixed-clause-fixed g c = search (rules, fixing_stopped)

pub loop-slice-preserved : goal.loop-slice-preserved
loop-slice-preserved g c = search (rules, fixing_more, length_push)

pub returns-clause-fixed : goal.returns-clause-fixed
returns-clause-fixed g c = search (rules, fixing_done)
