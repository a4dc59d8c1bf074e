use Rattle.std.proofs.Common.{refl}
use Rattle.memory.proofs.Remembering.{all_right_made}
use Rattle.memory.proofs.MemoryFunctionStore.literal.Goals as goal

pub returns : goal.returns
returns g c = record {
  order = record { below = c.literal.ensures.order; right = all_right_made _ _ _ _ _ c.literal.ensures.made c.requires.right };
  made = c.literal.ensures.made;
  memory = refl;
}
