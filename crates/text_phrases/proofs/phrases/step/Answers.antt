use Rattle.std.proofs.Common.{sym, ap, ◌∙◌}
use Rattle.text_words.specs.Spelling.{numbers_of}
use Rattle.text_words.specs.declared.spelling.StepWord.TheVariants.{Close}
use Rattle.text_fields.specs.Reading.{onward}
use Rattle.text_fields.proofs.Moves.{passed_on, passed_stuck}
use Rattle.text_fields.proofs.Exits.{follows_stuck}
use Rattle.text_grammar.specs.Syntaxes as syntax
use Rattle.text_phrases.proofs.phrases.step.Goals as goal

pub returns-in_err-name : goal.returns-in_err-name
unfolding syntax.step syntax.step_name
returns-in_err-name c = follows_stuck _ _ _ _ _ _ c.from_residual.ensures.1 (λ k. c.in_err-name.ensures Close _)

pub returns-in_err-numbers : goal.returns-in_err-numbers
unfolding syntax.step syntax.step_name
returns-in_err-numbers c = follows_stuck _ _ _ _ _ _ c.from_residual-in_err-numbers.ensures.1 (λ k. (c.in_ok-name.ensures Close).1.1.goes _ ∙ ap (λ m. onward (syntax.several syntax.spaced_number m (λ ns. syntax.line_end (k (record { name = (c.in_ok-name.ensures Close).0; numbers = ns })))) c.keyword.new.reader) (ap numbers_of (sym (c.in_ok-name.ensures Close).1.0) ∙ sym c.numbers.ensures) ∙ c.in_err-numbers.ensures _)

pub returns-in_err-expect : goal.returns-in_err-expect
unfolding syntax.step syntax.step_name
returns-in_err-expect c = follows_stuck _ _ _ _ _ _ c.from_residual-in_err-expect.ensures.1 (λ k. (c.in_ok-name.ensures Close).1.1.goes _ ∙ ap (λ m. onward (syntax.several syntax.spaced_number m (λ ns. syntax.line_end (k (record { name = (c.in_ok-name.ensures Close).0; numbers = ns })))) c.keyword.new.reader) (ap numbers_of (sym (c.in_ok-name.ensures Close).1.0) ∙ sym c.numbers.ensures) ∙ c.in_ok-numbers.ensures.1.1.goes _ ∙ passed_stuck 10 _ _ _ c.in_err-expect.ensures _)

pub returns : goal.returns
unfolding syntax.step syntax.step_name
returns c = (
  record { name = (c.in_ok-name.ensures Close).0; numbers = c.in_ok-numbers.ensures.0 },
  (
    ((c.in_ok-name.ensures Close).1.0, c.in_ok-numbers.ensures.1.0),
    record {
      same = c.in_ok-expect.ensures.0 ∙ c.in_ok-numbers.ensures.1.1.same ∙ (c.in_ok-name.ensures Close).1.1.same;
      goes = λ k. (c.in_ok-name.ensures Close).1.1.goes _ ∙ ap (λ m. onward (syntax.several syntax.spaced_number m (λ ns. syntax.line_end (k (record { name = (c.in_ok-name.ensures Close).0; numbers = ns })))) c.keyword.new.reader) (ap numbers_of (sym (c.in_ok-name.ensures Close).1.0) ∙ sym c.numbers.ensures) ∙ c.in_ok-numbers.ensures.1.1.goes _ ∙ passed_on 10 _ _ c.in_ok-expect.ensures _;
    },
  ),
)
