use Rattle.matrices.proofs.Columns.{columns}
use Rattle.matrices.proofs.Registers.{normal, amplitudes, equal}
use Rattle.matrices.proofs.product_laws.Goals as goal

pub returns : goal.returns
returns c = record { columns = columns; normal = normal; amplitudes = amplitudes; equal = equal }
