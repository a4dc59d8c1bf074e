use Rattle.std.proofs.Common.{refl, arith}
use Rattle.node_table.proofs.Empties.{no_nodes, empty_order}
use Rattle.node_table.proofs.table.NodeTable.none.Goals as goal

pub returns-clause-order : goal.returns-clause-order
returns-clause-order c = empty_order _ (λ k l. absurd (omega arith)) (omega arith) refl

pub returns-clause-empty : goal.returns-clause-empty
returns-clause-empty c = no_nodes _ (λ k l. absurd (omega arith))
