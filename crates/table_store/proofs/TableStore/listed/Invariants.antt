use Rattle.table_store.specs.Stores.{meaning_of}
use Rattle.table_store.proofs.Releasing.{Listing}
use Rattle.table_store.proofs.TableStore.listed.Given as goal

abbrev pub invariant-loop-k : goal.invariant-loop-k
invariant-loop-k l = Listing (meaning_of l.self) l.list l.places l.k-index
