use Rattle.std.proofs.Common.{sym, ap, subst, ◌∙◌}
use Rattle.text_fields.specs.Reading.{onward, Counts}
use Rattle.text_fields.proofs.Moves.{passed_on, passed_stuck}
use Rattle.text_fields.proofs.Exits.{follows_stuck}
use Rattle.text_grammar.specs.Syntaxes as syntax
use Rattle.text_phrases.proofs.phrases.section.Goals as goal

pub returns-in_err-section_name : goal.returns-in_err-section_name
unfolding syntax.section
returns-in_err-section_name c = follows_stuck _ _ _ _ _ _ c.from_residual.ensures.1 (λ k. c.in_err-section_name.ensures _)

pub returns-in_err-expect : goal.returns-in_err-expect
unfolding syntax.section
returns-in_err-expect c = follows_stuck _ _ _ _ _ _ c.from_residual-in_err-expect.ensures.1 (λ k. c.in_ok-section_name.ensures.1.1.goes _ ∙ passed_stuck 32 _ _ _ c.in_err-expect.ensures _)

pub returns-in_err-total : goal.returns-in_err-total
unfolding syntax.section
returns-in_err-total c = follows_stuck _ _ _ _ _ _ c.from_residual-in_err-total.ensures.1 (λ k. c.in_ok-section_name.ensures.1.1.goes _ ∙ passed_on 32 _ _ c.in_ok-expect.ensures _ ∙ ap (λ r. onward (syntax.count r (λ n. syntax.line_end (k n))) c.expect.new.self) (sym c.range.ensures) ∙ c.in_err-total.ensures _)

pub returns-in_err-expect-2 : goal.returns-in_err-expect-2
unfolding syntax.section
returns-in_err-expect-2 c = follows_stuck _ _ _ _ _ _ c.from_residual-in_err-expect-2.ensures.1 (λ k. c.in_ok-section_name.ensures.1.1.goes _ ∙ passed_on 32 _ _ c.in_ok-expect.ensures _ ∙ ap (λ r. onward (syntax.count r (λ n. syntax.line_end (k n))) c.expect.new.self) (sym c.range.ensures) ∙ c.in_ok-total.ensures.1.1.goes _ ∙ passed_stuck 10 _ _ _ c.in_err-expect-2.ensures _)

pub returns : goal.returns
unfolding syntax.section
returns c = (
  c.in_ok-total.ensures.0,
  (
    subst (λ r. Counts r c.in_ok-total.total c.in_ok-total.ensures.0) c.range.ensures c.in_ok-total.ensures.1.0,
    record {
      same = c.in_ok-expect-2.ensures.0 ∙ c.in_ok-total.ensures.1.1.same ∙ c.in_ok-expect.ensures.0 ∙ c.in_ok-section_name.ensures.1.1.same;
      goes = λ k. c.in_ok-section_name.ensures.1.1.goes _ ∙ passed_on 32 _ _ c.in_ok-expect.ensures _ ∙ ap (λ r. onward (syntax.count r (λ n. syntax.line_end (k n))) c.expect.new.self) (sym c.range.ensures) ∙ c.in_ok-total.ensures.1.1.goes _ ∙ passed_on 10 _ _ c.in_ok-expect-2.ensures _;
    },
  ),
)
