use Rattle.std.proofs.Common.{List}
use Rattle.text_fields.proofs.Several.{Underway}
use Rattle.circuit_text.proofs.form.lines.Given as goal

abbrev pub invariant-loop : goal.invariant-loop
invariant-loop g l = (got : List g.L.Listed.Value) × Underway (g.L.Listed.phrase l.qubits.number) l.total l.counter l.initial.reader l.reader got
