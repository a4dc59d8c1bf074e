use Rattle.adder.proofs.Slices.{slice_law}
use Rattle.adder.proofs.slice_laws.Goals as goal

pub returns : goal.returns
returns c = slice_law
