use Rattle.node_store.specs.Orders.{Ordered}
use Rattle.node_figures.proofs.odd_sum.Given as goal

abbrev pub invariant-loop-q : goal.invariant-loop-q
invariant-loop-q l = Ordered l.store
