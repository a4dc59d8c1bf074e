use Rattle.std.proofs.Common.{◌∷◌, take, sym, ap, ◌∙◌, subst}
use Rattle.std.specs.List.{AllByRecursion as All}
use Rattle.std.proofs.lemmas.Result.{err_from_is_err_and}
use Rattle.memory.specs.declared.recent.Recent.{Recent}
use Rattle.memory.specs.Recalling.{newest_first}
use Rattle.memory.specs.Remembering.{Right}
use Rattle.memory.proofs.Remembering.{all_right_new, combined_accepted, combined_refused}
use Rattle.memory.proofs.MemoryFunctionStore.combine.Goals as goal

pub returns-in_err-answer : goal.returns-in_err-answer
returns-in_err-answer g c =
    let p = err_from_is_err_and c.from_residual.result c.from_residual.ensures.1 in
    record {
      order = c.answer.ensures.order;
      made = rw (p.1, p.2) c.in_err-answer.ensures.made;
      memory = rw (p.1, p.2) (combined_refused _ _ _ _ c.in_err-answer.ensures.recalls (ap (λ (r : Recent). newest_first r) c.answer.ensures.memory));
    }

pub returns : goal.returns
returns g c =
    let made = c.in_ok-answer.ensures.made in
    let more = sym c.remember.ensures in
    record {
      order = record { below = c.answer.ensures.order.below; right = subst (All (Right (g.S.FunctionStore.meaning c.answer.new.self.store))) more (all_right_new _ _ _ _ _ made c.answer.ensures.order.right) };
      made = made;
      memory = combined_accepted _ _ _ _ c.in_ok-answer.ensures.recalls (c.remember.ensures ∙ ap (λ (r : Recent). take 64 (record { combination = record { rule = c.args.rule; f = c.args.f; g = c.args.g; h = c.args.h }; answer = c.in_ok-answer.answer } ∷ newest_first r)) c.answer.ensures.memory);
    }
