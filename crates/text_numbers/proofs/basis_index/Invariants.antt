use Rattle.text_numbers.proofs.Indices.{BitsRead}
use Rattle.text_numbers.proofs.basis_index.Given as goal

abbrev pub invariant-loop-b : goal.invariant-loop-b
invariant-loop-b l = BitsRead l.word l.b-index l.value
