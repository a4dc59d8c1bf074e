use Rattle.node_rules.proofs.Simplifying.{simplified}
use Rattle.node_rules.proofs.asking.simplified.Goals as goal

pub returns : goal.returns
returns c =
    simplified c.args.asked _ _ _ _ _ _
    c.merged_if_equal-rule.ensures c.merged_if_equal-rule-2.ensures c.merged_if_equal-rule-3.ensures
    c.set_if_constant-rule.ensures c.set_if_constant-rule-2.ensures c.set_if_constant-rule-3.ensures
    _ _ _ c.unless_ignored.ensures c.unless_ignored-2.ensures c.unless_ignored-3.ensures
