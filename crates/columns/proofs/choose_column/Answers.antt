use Rattle.std.proofs.Common.{◌+◌, Some, None, sym, refl, ap, ◌∙◌, rules}
use Rattle.std.proofs.lemmas.Result.{err_from_is_err_and}
use Rattle.std.proofs.lemmas.List.{length_push}
use Rattle.std.proofs.lemmas.Slice.Zip.{zip_turn, zip_end}
use Rattle.columns.proofs.Choosing.{choosing_none, choosing_more, choosing_stopped, choosing_done}
use Rattle.columns.proofs.choose_column.Goals as goal

pub loop-p-init : goal.loop-p-init
loop-p-init g c = search (rules, choosing_none)

pub returns-in_err-combine-clause-chosen : goal.returns-in_err-combine-clause-chosen
returns-in_err-combine-clause-chosen g c =
    let p = err_from_is_err_and c.from_residual.result c.from_residual.ensures.1 in
    let t = zip_turn c.args.p.now c.args.q.now _ _ _ c.next.new.self (Some (c.in-Some.p, c.in-Some.q)) (search rules) (search rules) c.loop-p.yielded_by _ refl c.in-Some.ensures.steps in
    rw (p.1, p.2) (choosing_stopped _ _ _ _ _ _ _ _ t.0 t.1 c.loop-p.invariant.1 _ (rw (sym (t.2 0), sym (t.3 0)) c.in_err-combine.ensures.made))

pub loop-p-preserved : goal.loop-p-preserved
loop-p-preserved g c =
    let t = zip_turn c.args.p.now c.args.q.now _ _ _ c.next.new.self (Some (c.in-Some.p, c.in-Some.q)) (search rules) (search rules) c.loop-p.yielded_by _ refl c.in-Some.ensures.steps in
    rw (c.push.ensures, length_push c.loop-p.yielded (c.in-Some.p, c.in-Some.q)) (
      c.combine.ensures.order,
      choosing_more _ _ _ _ _ _ _ _ t.0 t.1 c.loop-p.invariant.1 _ (rw (sym (t.2 0), sym (t.3 0)) c.in_ok-combine.ensures.made),
      length_push _ _ ∙ ap (λ k. k + 1) c.loop-p.invariant.2,
    )

pub returns-clause-chosen : goal.returns-clause-chosen
returns-clause-chosen g c =
    let e = zip_end c.args.p.now c.args.q.now _ _ _ c.loop-p.p-iterator None (search rules) (search rules) c.loop-p.yielded_by refl c.in-None.ensures.steps in
    choosing_done _ _ _ _ _ _ _ e c.loop-p.invariant.1
