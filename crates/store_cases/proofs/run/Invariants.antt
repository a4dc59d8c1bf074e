use Rattle.memory.specs.Remembering.{OrderedOver}
use Rattle.table_store.specs.Stores.{meaning_of, InOrder}
use Rattle.store_cases.proofs.run.Given as goal

abbrev pub invariant-loop-line : goal.invariant-loop-line
invariant-loop-line l = OrderedOver meaning_of InOrder l.cells.store
