use Rattle.functions.proofs.Handles.{under_0, under_1, same_function, same_handle, grew_again}
use Rattle.functions.proofs.laws.handle_laws.Goals as goal

pub returns : goal.returns
returns c = record { zero = under_0; one = under_1; same_function = same_function; same_handle = same_handle; made_again = grew_again }
