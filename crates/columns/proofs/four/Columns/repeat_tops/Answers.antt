use Rattle.std.proofs.Common.{rules}
use Rattle.columns.proofs.Repeating.{tops_repeated, level_tops}
use Rattle.columns.proofs.four.Columns.repeat_tops.Goals as goal

pub invariant_of-result : goal.invariant_of-result
invariant_of-result g c =
    let t = level_tops c.args.self.now c.requires in
    search (rules, t)

pub returns : goal.returns
returns g c = search (rules, tops_repeated)
