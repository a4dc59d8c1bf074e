use Rattle.recipes.proofs.Applied.{state_stands, same_state, weight_whole, weight_root}
use Rattle.recipes.proofs.laws.state_laws.Goals as goal

pub returns : goal.returns
returns c = record { stands = state_stands; same = same_state; whole = weight_whole; root = weight_root }
