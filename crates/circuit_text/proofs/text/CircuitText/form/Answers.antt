use Rattle.circuit_text.proofs.Ahead.{passes_checked}
use Rattle.circuit_text.proofs.text.CircuitText.form.Goals as goal

pub returns : goal.returns
returns c = passes_checked _ _ c.args.self.now.passed
