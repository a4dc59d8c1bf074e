use Rattle.exact.proofs.Roots.{of_modulus}
use Rattle.exact.proofs.Squares.{halved, parted, outcomes}
use Rattle.exact.proofs.laws.square_laws.Goals as goal

pub returns : goal.returns
returns c = record { of_modulus = of_modulus; halved = halved; parted = parted; outcomes = outcomes }
