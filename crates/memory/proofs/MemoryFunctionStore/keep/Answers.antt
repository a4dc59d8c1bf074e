use Rattle.std.proofs.Common.{sym, refl, subst}
use Rattle.std.specs.List.{AllByRecursion as All}
use Rattle.std.proofs.lemmas.Result.{err_from_is_err_and}
use Rattle.memory.specs.Remembering.{Right, Remembers, KeptOver}
use Rattle.memory.proofs.Remembering.{all_right_refused, kept_refused}
use Rattle.memory.proofs.MemoryFunctionStore.keep.Goals as goal

pub returns-in_err-keep : goal.returns-in_err-keep
returns-in_err-keep g c =
    let p = err_from_is_err_and c.from_residual.result c.from_residual.ensures.1 in
    record {
      order = record { below = c.keep.ensures.order; right = all_right_refused _ _ _ _ _ c.in_err-keep.ensures.kept c.requires.right };
      kept = rw (p.1, p.2) c.in_err-keep.ensures.kept;
      memory = rw (p.1, p.2) (kept_refused _ _ _ refl);
    }

pub returns : goal.returns
unfolding KeptOver Remembers
returns g c = record {
  order = record { below = c.keep.ensures.order; right = subst (All (Right (g.S.FunctionStore.meaning c.keep.new.self))) (sym c.clear.ensures) tt };
  kept = c.in_ok-keep.ensures.kept;
  memory = c.clear.ensures;
}
