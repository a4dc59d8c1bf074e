use Rattle.std.proofs.Common.{ap, ◌∙◌}
use Rattle.circuit_text.specs.Texts.{passes}
use Rattle.circuit_text.proofs.Ahead.{passed, all_come, all_ahead}
use Rattle.circuit_text.proofs.text.CircuitText.lines.Goals as goal

pub invariant_of-result : goal.invariant_of-result
invariant_of-result c =
    let form = c.args.self.now.form in
    let same = c.new.ensures.same ∙ c.deref.ensures.value in
    let whole = c.new.ensures.whole ∙ c.deref.ensures.value in
    record {
      passed = ap (λ t. passes t form) same ∙ c.args.self.now.passed;
      ahead = all_ahead _ form c.new.result (passed _ form c.args.self.now.passed) same whole c.new.ensures.start;
    }

pub returns : goal.returns
returns c =
    let same = c.new.ensures.same ∙ c.deref.ensures.value in
    record { same = same; circuit_of_text = (passed _ c.args.self.now.form c.args.self.now.passed).accepted; all = all_come _ c.new.result same c.new.ensures.start }
