use Rattle.matrices.proofs.Table.{square_shaped}
use Rattle.matrices.proofs.Multiplied.{multiplies}
use Rattle.matrices.proofs.gate_laws.Goals as goal

pub returns : goal.returns
returns c = record { square_shaped = square_shaped; multiplies = multiplies }
