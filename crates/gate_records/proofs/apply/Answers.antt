use Rattle.std.proofs.Common.{◌≡◌, suc, ◌+◌, length, ap, ◌∙◌, rules}
use Rattle.exact.specs.declared.RootTwoPower.{RootTwoPower}
use Rattle.gate_records.proofs.Applying.{apply_stopped_literals, apply_stopped_columns, apply_stopped_reduction, apply_done, on_state}
use Rattle.gate_records.proofs.apply.Goals as goal

pub returns-in_err-literals-clause-applied : goal.returns-in_err-literals-clause-applied
returns-in_err-literals-clause-applied g c = search (rules, on_state, apply_stopped_literals)

pub returns-in_err-columns-clause-applied : goal.returns-in_err-columns-clause-applied
returns-in_err-columns-clause-applied g c = search (rules, on_state, apply_stopped_columns)

pub returns-in_err-normal-clause-applied : goal.returns-in_err-normal-clause-applied
returns-in_err-normal-clause-applied g c = search (rules, on_state, apply_stopped_reduction)

pub returns-clause-applied : goal.returns-clause-applied
returns-clause-applied g c =
    let wide : length c.in_ok-normal.normal.columns.a ≡ suc (length c.args.old.now.handles.a) =
    c.in_ok-normal.ensures.slices ∙ c.in_ok-columns.ensures.slices ∙ c.repeat_tops-repeated.ensures.slices ∙ ap suc c.columns.ensures.slices in
    on_state _ _ _ _ _ _ (apply_done _ _ _ _ _ _ _ _ c.in_ok-literals.ensures.made _ _ c.columns.ensures c.repeat_tops-repeated.ensures _ c.of.ensures
    _ c.in_ok-columns.ensures.made _ (ap (λ (k : RootTwoPower). k.0 + c.args.old.now.power.0) c.gate_power.ensures.is)
    _ c.in_ok-normal.ensures.reduced (g.met.S.FunctionStore.lawful _ c.reduce.ensures.order) wide _ c.trimmed.ensures)
