use Rattle.std.proofs.Common.{[], ◌∷◌, ◌++◌, length, sym, refl, ap, ◌∙◌, arith, rules}
use Rattle.text_reader.specs.Tokens.{first_line}
use Rattle.text_reader.specs.Reading.{text_of}
use Rattle.text_reader.specs.declared.place.Place.{Place}
use Rattle.circuit_text.specs.Texts.{passes}
use Rattle.circuit_text.proofs.Ahead.{Passed, passed, few_qubits, Coming, coming, none_ahead, before_line, line_lent, others_come, others_ahead}
use Rattle.circuit_text.proofs.reading.LinesIterator.next.Goals as goal
use Rattle.circuit_text.proofs.reading.LinesIterator.next.Goals.{In_default}

passed_here : (c : In_default) → Passed (text_of c.args.self.now.reader) c.args.self.now.form
passed_here c = passed _ _ c.args.self.now.passed

comes : (c : In_default) → Coming c.args.self.now.reader c.args.self.now.form (passed_here c) c.args.self.now.ahead
comes c = coming _ _ _ _ c.in_default.ensures.1

pub returns-in-Ok : goal.returns-in-Ok
returns-in-Ok c = record {
  steps = (none_ahead c.args.self.now.reader c.args.self.now.form (passed _ _ c.args.self.now.passed) c.args.self.now.ahead c.in-Ok.ensures, refl);
  goes = record { on = λ e. tt; keeps = search rules; rests = λ h. search rules };
}

pub invariant_of-qubits : goal.invariant_of-qubits
invariant_of-qubits c = record { within = few_qubits _ _ (passed_here (goal.at.invariant_of-qubits c).In_default) }

pub content-content-requires : goal.content-content-requires
content-content-requires c = before_line _ _ _ _ (comes (goal.at.content-content-requires c).In_default)

pub invariant_of-self : goal.invariant_of-self
invariant_of-self c =
    let n = comes (goal.at.invariant_of-self c).In_default in
    let d = c.content-content.ensures (before_line _ _ _ _ n) in
    record {
      passed = ap (λ t. passes t c.args.self.now.form) d.same ∙ c.args.self.now.passed;
      ahead = others_ahead _ _ _ _ n c.content-content.new.reader d.same d.left;
    }

pub returns : goal.returns
returns c =
    let n = comes (goal.at.returns c).In_default in
    let b = before_line _ _ _ _ n in
    let d = c.content-content.ensures b in
    let next = n.next ∙ ap (λ l. n.line ∷ l) (sym (others_come _ _ _ _ n c.content-content.new.reader d.same d.left)) in
    record {
      steps = record {
        same = d.same;
        line = n.line;
        next = next;
        means = d.means;
        bytes = line_lent _ n.line b.more n.fits ∙ ap (λ t. first_line t ++ (10 ∷ [])) (sym b.text) ∙ ap (λ l. l ++ (10 ∷ [])) (sym c.line-bytes.ensures);
        number = ap (λ (p : Place). p.line) c.place-number.ensures;
      };
      goes = record { on = λ e. (tt, tt, omega (arith, ap length next)); keeps = search rules; rests = λ h. search rules };
    }
