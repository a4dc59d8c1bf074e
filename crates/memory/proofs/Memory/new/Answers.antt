use Rattle.std.proofs.Common.{sym, refl, subst}
use Rattle.std.specs.List.{AllByRecursion as All}
use Rattle.memory.specs.Remembering.{Right, Remembers}
use Rattle.memory.proofs.Memory.new.Goals as goal

pub returns : goal.returns
unfolding Remembers
returns g c = record {
  same = refl;
  order = record { below = c.requires; right = subst (All (Right (g.S.FunctionStore.meaning c.args.store))) (sym c.new-recent.ensures) tt };
  empty = c.new-recent.ensures;
}
