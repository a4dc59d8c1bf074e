use Rattle.exact.proofs.Widths.{at_least_one, holds, least}
use Rattle.exact.proofs.laws.width_laws.Goals as goal

pub returns : goal.returns
returns c = record { at_least_one = at_least_one; holds = holds; least = least }
