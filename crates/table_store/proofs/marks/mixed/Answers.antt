use Rattle.std.proofs.Common.{refl}
use Rattle.table_store.specs.Marks.{mixed}
use Rattle.table_store.proofs.marks.mixed.Goals as goal

pub returns : goal.returns
unfolding mixed
returns c = refl
