use Rattle.std.proofs.Common.{List, ap}
use Rattle.memory.specs.declared.entry.Remembered.{Remembered}
use Rattle.memory.specs.Recalling.{newest_first}
use Rattle.memory.proofs.Rings.{round}
use Rattle.memory.proofs.recent.Recent.clear.Goals as goal

pub returns : goal.returns
unfolding newest_first
returns c = ap (λ (l : List Remembered). round 0 l) c.clear.ensures
