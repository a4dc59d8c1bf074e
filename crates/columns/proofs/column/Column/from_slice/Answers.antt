use Rattle.std.proofs.Common.{rules}
use Rattle.columns.proofs.Places.{all_places, unused_rest}
use Rattle.columns.proofs.column.Column.from_slice.Goals as goal

pub invariant_of-result : goal.invariant_of-result
invariant_of-result g c = search (rules, all_places, unused_rest)
