use Rattle.std.proofs.Common.{sym, ◌∙◌}
use Rattle.text_grammar.specs.Circuits.Question.{same}
use Rattle.text_fields.proofs.Moves.{passed_on, passed_stuck}
use Rattle.text_fields.proofs.Exits.{follows_stuck}
use Rattle.text_grammar.specs.Syntaxes as syntax
use Rattle.text_phrases.proofs.phrases.same_tail.Goals as goal

pub returns-in_err-first : goal.returns-in_err-first
unfolding syntax.same_tail
returns-in_err-first c = follows_stuck _ _ _ _ _ _ c.from_residual.ensures.1 (λ k. c.in_err-first.ensures _)

pub returns-in_err-second : goal.returns-in_err-second
unfolding syntax.same_tail
returns-in_err-second c = follows_stuck _ _ _ _ _ _ c.from_residual-in_err-second.ensures.1 (λ k. c.in_ok-first.ensures.1.1.goes _ ∙ c.in_err-second.ensures _)

pub returns-in_err-expect : goal.returns-in_err-expect
unfolding syntax.same_tail
returns-in_err-expect c = follows_stuck _ _ _ _ _ _ c.from_residual-in_err-expect.ensures.1 (λ k. c.in_ok-first.ensures.1.1.goes _ ∙ c.in_ok-second.ensures.1.1.goes _ ∙ passed_stuck 10 _ _ _ c.in_err-expect.ensures _)

pub returns : goal.returns
unfolding syntax.same_tail
returns c = (
  same c.in_ok-first.ensures.0 c.in_ok-second.ensures.0,
  (
    (λ i. same (sym c.in_ok-first.ensures.1.0 i) (sym c.in_ok-second.ensures.1.0 i)),
    record {
      same = c.in_ok-expect.ensures.0 ∙ c.in_ok-second.ensures.1.1.same ∙ c.in_ok-first.ensures.1.1.same;
      goes = λ k. c.in_ok-first.ensures.1.1.goes _ ∙ c.in_ok-second.ensures.1.1.goes _ ∙ passed_on 10 _ _ c.in_ok-expect.ensures _;
    },
  ),
)
