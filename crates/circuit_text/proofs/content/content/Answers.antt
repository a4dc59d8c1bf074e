use Rattle.std.proofs.Common.{◌≡◌, sym, ap, ◌∙◌}
use Rattle.text_reader.specs.Tokens.{first_word}
use Rattle.text_reader.specs.Reading.{rest}
use Rattle.circuit_text.proofs.Heads.{kind_of, is_section, is_step, is_question, is_opening}
use Rattle.circuit_text.proofs.Heads.Kind.{SectionKind, StepKind, QuestionKind, OpeningKind}
use Rattle.circuit_text.proofs.Taken.{always_read, taken}
use Rattle.circuit_text.proofs.Contents.{sections, openings, steps, questions, section_content, opening_content, step_content, question_content}
use Rattle.circuit_text.proofs.content.content.Goals as goal

pub unwrap-count-requires : goal.unwrap-count-requires
unfolding sections
unwrap-count-requires c =
    let k : kind_of (first_word (rest c.args.reader.now)) ≡ SectionKind c.in-Some.named = ap kind_of (sym c.peek-word.ensures) ∙ is_section c.peek-word.result.now _ c.named.ensures _ c.in-Some.is in
    always_read (sections c.args.qubits.number c.in-Some.named) c.args.reader.now c.requires k _ c.section.result c.section.ensures

pub returns-in-Some : goal.returns-in-Some
unfolding sections
returns-in-Some c =
    let k : kind_of (first_word (rest c.args.reader.now)) ≡ SectionKind c.in-Some.named = ap kind_of (sym c.peek-word.ensures) ∙ is_section c.peek-word.result.now _ c.named.ensures _ c.in-Some.is in
    λ h. section_content _ _ (taken (sections c.args.qubits.number c.in-Some.named) c.args.reader.now h k _ _ (rw c.unwrap-count.ensures at c.section.ensures))

pub unwrap-requires : goal.unwrap-requires
unfolding steps
unwrap-requires c =
    let k : kind_of (first_word (rest c.args.reader.now)) ≡ StepKind = ap kind_of (sym c.peek-word.ensures) ∙ is_step c.peek-word.result.now _ c.named.ensures c.in_default.is _ c.named-in_default.ensures (sym c.is_some.ensures ∙ c.if-is_some.true) in
    always_read (steps c.args.qubits.number) c.args.reader.now c.requires k _ c.step.result c.step.ensures

pub returns-then-is_some : goal.returns-then-is_some
unfolding steps
returns-then-is_some c =
    let k : kind_of (first_word (rest c.args.reader.now)) ≡ StepKind = ap kind_of (sym c.peek-word.ensures) ∙ is_step c.peek-word.result.now _ c.named.ensures c.in_default.is _ c.named-in_default.ensures (sym c.is_some.ensures ∙ c.if-is_some.true) in
    λ h. step_content _ (taken (steps c.args.qubits.number) c.args.reader.now h k _ _ (rw c.unwrap.ensures at c.step.ensures))

pub unwrap-requires-then-is_some-2 : goal.unwrap-requires-then-is_some-2
unfolding questions
unwrap-requires-then-is_some-2 c =
    let k : kind_of (first_word (rest c.args.reader.now)) ≡ QuestionKind = ap kind_of (sym c.peek-word.ensures) ∙ is_question c.peek-word.result.now _ c.named.ensures c.in_default.is _ c.named-in_default.ensures (sym c.is_some.ensures ∙ c.if-is_some.false) _ c.named-else-is_some.ensures (sym c.is_some-else-is_some.ensures ∙ c.if-is_some-2.true) in
    always_read (questions c.args.qubits.number) c.args.reader.now c.requires k _ c.question.result c.question.ensures

pub returns-then-is_some-2 : goal.returns-then-is_some-2
unfolding questions
returns-then-is_some-2 c =
    let k : kind_of (first_word (rest c.args.reader.now)) ≡ QuestionKind = ap kind_of (sym c.peek-word.ensures) ∙ is_question c.peek-word.result.now _ c.named.ensures c.in_default.is _ c.named-in_default.ensures (sym c.is_some.ensures ∙ c.if-is_some.false) _ c.named-else-is_some.ensures (sym c.is_some-else-is_some.ensures ∙ c.if-is_some-2.true) in
    λ h. question_content _ (taken (questions c.args.qubits.number) c.args.reader.now h k _ _ (rw c.unwrap-then-is_some-2.ensures at c.question.ensures))

pub unwrap-requires-else-is_some-2 : goal.unwrap-requires-else-is_some-2
unfolding openings
unwrap-requires-else-is_some-2 c =
    let k : kind_of (first_word (rest c.args.reader.now)) ≡ OpeningKind = ap kind_of (sym c.peek-word.ensures) ∙ is_opening c.peek-word.result.now _ c.named.ensures c.in_default.is _ c.named-in_default.ensures (sym c.is_some.ensures ∙ c.if-is_some.false) _ c.named-else-is_some.ensures (sym c.is_some-else-is_some.ensures ∙ c.if-is_some-2.false) in
    always_read (openings c.args.qubits.number) c.args.reader.now c.requires k _ c.opening.result c.opening.ensures

pub returns-else-is_some-2 : goal.returns-else-is_some-2
unfolding openings
returns-else-is_some-2 c =
    let k : kind_of (first_word (rest c.args.reader.now)) ≡ OpeningKind = ap kind_of (sym c.peek-word.ensures) ∙ is_opening c.peek-word.result.now _ c.named.ensures c.in_default.is _ c.named-in_default.ensures (sym c.is_some.ensures ∙ c.if-is_some.false) _ c.named-else-is_some.ensures (sym c.is_some-else-is_some.ensures ∙ c.if-is_some-2.false) in
    λ h. opening_content _ (taken (openings c.args.qubits.number) c.args.reader.now h k _ _ (rw c.unwrap-else-is_some-2.ensures at c.opening.ensures))
