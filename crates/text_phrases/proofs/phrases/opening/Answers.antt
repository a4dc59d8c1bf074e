use Rattle.std.proofs.Common.{◌∙◌}
use Rattle.text_fields.proofs.Moves.{passed_on, passed_stuck}
use Rattle.text_fields.proofs.Exits.{follows_stuck}
use Rattle.text_grammar.specs.Syntaxes as syntax
use Rattle.text_phrases.proofs.phrases.opening.Goals as goal

pub returns-in_err-register : goal.returns-in_err-register
unfolding syntax.opening
returns-in_err-register c = follows_stuck _ _ _ _ _ _ c.from_residual.ensures.1 (λ k. c.in_err-register.ensures _)

pub returns-in_err-expect : goal.returns-in_err-expect
unfolding syntax.opening
returns-in_err-expect c = follows_stuck _ _ _ _ _ _ c.from_residual-in_err-expect.ensures.1 (λ k. c.in_ok-register.ensures.1.1.goes _ ∙ passed_stuck 32 _ _ _ c.in_err-expect.ensures _)

pub returns-in_err-index : goal.returns-in_err-index
unfolding syntax.opening
returns-in_err-index c = follows_stuck _ _ _ _ _ _ c.from_residual-in_err-index.ensures.1 (λ k. c.in_ok-register.ensures.1.1.goes _ ∙ passed_on 32 _ _ c.in_ok-expect.ensures _ ∙ c.in_err-index.ensures _)

pub returns-in_err-expect-2 : goal.returns-in_err-expect-2
unfolding syntax.opening
returns-in_err-expect-2 c = follows_stuck _ _ _ _ _ _ c.from_residual-in_err-expect-2.ensures.1 (λ k. c.in_ok-register.ensures.1.1.goes _ ∙ passed_on 32 _ _ c.in_ok-expect.ensures _ ∙ c.in_ok-index.ensures.1.1.goes _ ∙ passed_stuck 10 _ _ _ c.in_err-expect-2.ensures _)

pub returns : goal.returns
unfolding syntax.opening
returns c = (
  record { register = c.in_ok-register.ensures.0; index = c.in_ok-index.ensures.0 },
  (
    (c.in_ok-register.ensures.1.0, c.in_ok-index.ensures.1.0),
    record {
      same = c.in_ok-expect-2.ensures.0 ∙ c.in_ok-index.ensures.1.1.same ∙ c.in_ok-expect.ensures.0 ∙ c.in_ok-register.ensures.1.1.same;
      goes = λ k. c.in_ok-register.ensures.1.1.goes _ ∙ passed_on 32 _ _ c.in_ok-expect.ensures _ ∙ c.in_ok-index.ensures.1.1.goes _ ∙ passed_on 10 _ _ c.in_ok-expect-2.ensures _;
    },
  ),
)
