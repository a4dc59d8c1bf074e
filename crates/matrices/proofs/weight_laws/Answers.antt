use Rattle.matrices.proofs.Weights.{everything, outcomes}
use Rattle.matrices.proofs.weight_laws.Goals as goal

pub returns : goal.returns
returns c = record { everything = everything; outcomes = outcomes }
