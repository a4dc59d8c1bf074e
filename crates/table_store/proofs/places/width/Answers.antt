use Rattle.std.proofs.Common.{ℕ, ◌+◌, ◌/◌, ap, arith}
use Rattle.std.proofs.lemmas.Nat.{one_shl}
use Rattle.table_store.specs.Places.{width}
use Rattle.table_store.proofs.places.width.Goals as goal

pub returns-clause-value : goal.returns-clause-value
unfolding width
returns-clause-value c = ap (λ (x : ℕ). (x + 63) / 64) (one_shl c.args.qubits.number 64 (omega (arith, c.args.qubits.within)))
