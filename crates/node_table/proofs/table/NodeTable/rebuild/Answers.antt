use Rattle.std.proofs.Common.{◌≡◌, ℕ, ◌+◌, ◌<◌, subst, arith}
use Rattle.node_table.specs.Layout.{head}
use Rattle.node_table.specs.Chains.{ChainedTo}
use Rattle.node_table.proofs.Layouts.{only_words_self}
use Rattle.node_table.proofs.Rebuilding.{same_nodes_self, enter_none, enter_all}
use Rattle.node_table.proofs.table.NodeTable.rebuild.Goals as goal

pub loop-h-init : goal.loop-h-init
loop-h-init c =
    let t = c.drop_heads.new.self in
    let none : (b : ℕ) → b < t.limit → head t b ≡ 0 = λ b l. c.drop_heads.ensures.none b (omega (arith, c.drop_heads.ensures.only.setting.limit)) in
    (only_words_self _, same_nodes_self _, enter_none t none)

pub returns-clause-chains : goal.returns-clause-chains
returns-clause-chains c =
    let t = c.loop-h.self in
    let v = c.loop-h.invariant in
    let e : c.loop-h.h ≡ t.limit + 2 = omega (arith, v.0.setting.limit) in
    enter_all t (subst (ChainedTo t) e v.2)
