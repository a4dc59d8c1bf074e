use Rattle.std.proofs.Common.{drop, length, ◌∙◌, refl, arith}
use Rattle.node_table.proofs.Empties.{read_front, no_nodes, empty_order}
use Rattle.node_table.proofs.table.NodeTable.new.Goals as goal

pub returns-clause-order : goal.returns-clause-order
returns-clause-order c =
    let n = c.clear.ensures in
    empty_order _ (λ k l. read_front c.clear.new.words (drop (length c.clear.new.words) c.args.words.items) c.args.words.len k (omega (arith, n.len)) (omega (arith, n.len)) ∙ n.zero k l) c.requires refl

pub returns-clause-empty : goal.returns-clause-empty
returns-clause-empty c =
    let n = c.clear.ensures in
    no_nodes _ (λ k l. read_front c.clear.new.words (drop (length c.clear.new.words) c.args.words.items) c.args.words.len k (omega (arith, n.len)) (omega (arith, n.len)) ∙ n.zero k l)
