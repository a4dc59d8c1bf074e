use Rattle.std.proofs.Common.{◌≡◌, vec_items}
use Rattle.table_store.proofs.Releasing.{Freeing}
use Rattle.table_store.proofs.TableStore.free_unlisted.Given as goal

abbrev pub invariant-loop-place : goal.invariant-loop-place
invariant-loop-place l = Freeing l.listed.places (vec_items l.initial.self.words) (vec_items l.self.words) l.place × (l.self.qubits ≡ l.initial.self.qubits) × (l.self.limit ≡ l.initial.self.limit)
