use Rattle.functions.proofs.Constants.{constants_only_lawful, simplest_lawful}
use Rattle.functions.proofs.laws.new_store_laws.Goals as goal

pub returns : goal.returns
returns c = record { new_store = constants_only_lawful; simplest = simplest_lawful }
