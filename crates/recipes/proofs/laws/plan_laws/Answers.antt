use Rattle.recipes.proofs.Sufficient.{opening_enough, gate_enough}
use Rattle.recipes.proofs.laws.plan_laws.Goals as goal

pub returns : goal.returns
returns c = record { opening = opening_enough; gate = gate_enough }
