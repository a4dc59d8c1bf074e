use Rattle.exact.proofs.Expressions.{twice_doubles}
use Rattle.exact.proofs.Roots.{injective, doubles_square}
use Rattle.exact.proofs.Division.{no_odd_sum, divided}
use Rattle.exact.proofs.laws.root_two_laws.Goals as goal

pub returns : goal.returns
returns c = record { twice_doubles = twice_doubles; injective = injective; doubles_square = doubles_square; no_odd_sum = no_odd_sum; divided = divided }
