use Rattle.std.proofs.Common.{refl}
use Rattle.memory.proofs.Remembering.{all_right_made}
use Rattle.memory.proofs.MemoryFunctionStore.fixed.Goals as goal

pub returns : goal.returns
returns g c = record {
  order = record { below = c.fixed.ensures.order; right = all_right_made _ _ _ _ _ c.fixed.ensures.made c.requires.right };
  made = c.fixed.ensures.made;
  memory = refl;
}
