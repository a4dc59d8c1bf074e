use Rattle.std.proofs.Common.{◌+◌, Some, None, sym, refl, ap, ◌∙◌, rules}
use Rattle.std.proofs.lemmas.Result.{err_from_is_err_and}
use Rattle.std.proofs.lemmas.List.{length_push}
use Rattle.std.proofs.lemmas.Slice.Zip.{zip_turn, zip_end}
use Rattle.columns.proofs.Adding.{adding_none, adding_more, adding_stopped, adding_done}
use Rattle.columns.proofs.add_columns.Goals as goal

pub loop-p-init : goal.loop-p-init
loop-p-init g c = search (rules, adding_none)

pub returns-in_err-slice-clause-added : goal.returns-in_err-slice-clause-added
returns-in_err-slice-clause-added g c =
    let p = err_from_is_err_and c.from_residual.result c.from_residual.ensures.1 in
    let t = zip_turn c.args.p.now c.args.q.now _ _ _ c.next.new.self (Some (c.in-Some.p, c.in-Some.q)) (search rules) (search rules) c.loop-p.yielded_by _ refl c.in-Some.ensures.steps in
    rw (p.1, p.2) (adding_stopped _ _ _ _ _ _ _ _ _ t.0 t.1 c.loop-p.invariant.1 _ (rw (sym (t.2 0), sym (t.3 0)) c.in_err-slice.ensures.added))

pub loop-p-preserved : goal.loop-p-preserved
loop-p-preserved g c =
    let t = zip_turn c.args.p.now c.args.q.now _ _ _ c.next.new.self (Some (c.in-Some.p, c.in-Some.q)) (search rules) (search rules) c.loop-p.yielded_by _ refl c.in-Some.ensures.steps in
    rw (c.push.ensures, length_push c.loop-p.yielded (c.in-Some.p, c.in-Some.q)) (
      c.add_slice.ensures.order,
      adding_more _ _ _ _ _ _ _ _ _ t.0 t.1 c.loop-p.invariant.1 _ (rw (sym (t.2 0), sym (t.3 0)) c.in_ok-slice.ensures.added),
      length_push _ _ ∙ ap (λ k. k + 1) c.loop-p.invariant.2,
    )

pub returns-clause-added : goal.returns-clause-added
returns-clause-added g c =
    let e = zip_end c.args.p.now c.args.q.now _ _ _ c.loop-p.p-iterator None (search rules) (search rules) c.loop-p.yielded_by refl c.in-None.ensures.steps in
    adding_done _ _ _ _ _ _ _ _ e c.loop-p.invariant.1
