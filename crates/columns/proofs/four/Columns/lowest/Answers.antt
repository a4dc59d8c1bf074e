use Rattle.std.proofs.Common.{rules}
use Rattle.columns.proofs.Lowest.{lowest_slices}
use Rattle.columns.proofs.four.Columns.lowest.Goals as goal

pub returns : goal.returns
returns g c = search (rules, lowest_slices)
