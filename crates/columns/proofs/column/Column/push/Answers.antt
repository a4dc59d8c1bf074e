use Rattle.std.proofs.Common.{◌<◌, arith, rules, length-take-le}
use Rattle.columns.proofs.Places.{unused_less}
use Rattle.columns.proofs.column.Column.push.Goals as goal

pub invariant_of-self : goal.invariant_of-self
invariant_of-self g c =
    let room : c.self.inside.len < g.row.N = grind (arith, length-take-le) in
    search (rules, unused_less)
