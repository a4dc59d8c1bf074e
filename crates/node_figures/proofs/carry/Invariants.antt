use Rattle.node_store.specs.Orders.{Ordered}
use Rattle.node_figures.proofs.carry.Given as goal

abbrev pub invariant-loop-i : goal.invariant-loop-i
invariant-loop-i l = Ordered l.store
