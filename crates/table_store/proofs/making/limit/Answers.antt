use Rattle.std.proofs.Common.{ℕ, ◌+◌, ◌/◌, min, ap, ◌∙◌, arith}
use native.Mathlib.Nat.{min_comm}
use Rattle.table_store.specs.Places.{limit_of}
use Rattle.table_store.proofs.Laid.{width_few}
use Rattle.table_store.proofs.making.limit.Goals as goal

pub overflow_add-width : goal.overflow_add-width
overflow_add-width c = omega (arith, c.width.ensures.value, width_few c.args.qubits.number c.args.qubits.within)

pub returns : goal.returns
unfolding limit_of
returns c = c.min.ensures ∙ min_comm _ 4096 ∙ ap (λ (d : ℕ). min 4096 (c.args.words / (d + 1))) c.width.ensures.value
