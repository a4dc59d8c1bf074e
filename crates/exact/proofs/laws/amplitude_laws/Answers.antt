use Rattle.exact.proofs.Roots.{reflexive, symmetric, transitive}
use Rattle.exact.proofs.laws.amplitude_laws.Goals as goal

pub returns : goal.returns
returns c = record { reflexive = reflexive; symmetric = symmetric; transitive = transitive }
