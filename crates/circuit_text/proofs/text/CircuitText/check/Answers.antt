use Rattle.std.proofs.Common.{sym, ap, ◌∙◌}
use Rattle.circuit_text.specs.Forms.{checked}
use Rattle.circuit_text.proofs.Ahead.{checked_passes}
use Rattle.circuit_text.proofs.text.CircuitText.check.Goals as goal

pub invariant_of-result : goal.invariant_of-result
invariant_of-result c = record { passed = checked_passes _ _ (ap checked (sym c.deref.ensures.value) ∙ sym c.in_ok-form.ensures.equals) }
