use Rattle.std.proofs.Common.{rules}
use Rattle.columns.proofs.Flipping.{flip_stopped_low, flip_stopped_high, flip_done}
use Rattle.columns.proofs.flip_column.Goals as goal

pub returns-in_err-low-clause-flipped : goal.returns-in_err-low-clause-flipped
returns-in_err-low-clause-flipped g c = search (rules, flip_stopped_low)

pub returns-in_err-high-clause-flipped : goal.returns-in_err-high-clause-flipped
returns-in_err-high-clause-flipped g c = search (rules, flip_stopped_high)

pub returns-clause-flipped : goal.returns-clause-flipped
returns-clause-flipped g c = search (rules, flip_done)
