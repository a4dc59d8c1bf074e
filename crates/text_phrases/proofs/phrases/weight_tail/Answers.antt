use Rattle.std.proofs.Common.{sym, ◌∙◌}
use Rattle.text_grammar.specs.Circuits.Question.{weight}
use Rattle.text_fields.proofs.Moves.{passed_on, passed_stuck}
use Rattle.text_fields.proofs.Exits.{follows_stuck}
use Rattle.text_grammar.specs.Syntaxes as syntax
use Rattle.text_phrases.proofs.phrases.weight_tail.Goals as goal

pub returns-in_err-register : goal.returns-in_err-register
unfolding syntax.weight_tail
returns-in_err-register c = follows_stuck _ _ _ _ _ _ c.from_residual.ensures.1 (λ k. c.in_err-register.ensures _)

pub returns-in_err-qubit : goal.returns-in_err-qubit
unfolding syntax.weight_tail
returns-in_err-qubit c = follows_stuck _ _ _ _ _ _ c.from_residual-in_err-qubit.ensures.1 (λ k. c.in_ok-register.ensures.1.1.goes _ ∙ c.in_err-qubit.ensures _)

pub returns-in_err-expect : goal.returns-in_err-expect
unfolding syntax.weight_tail
returns-in_err-expect c = follows_stuck _ _ _ _ _ _ c.from_residual-in_err-expect.ensures.1 (λ k. c.in_ok-register.ensures.1.1.goes _ ∙ c.in_ok-qubit.ensures.1.1.goes _ ∙ passed_stuck 32 _ _ _ c.in_err-expect.ensures _)

pub returns-in_err-outcome : goal.returns-in_err-outcome
unfolding syntax.weight_tail
returns-in_err-outcome c = follows_stuck _ _ _ _ _ _ c.from_residual-in_err-outcome.ensures.1 (λ k. c.in_ok-register.ensures.1.1.goes _ ∙ c.in_ok-qubit.ensures.1.1.goes _ ∙ passed_on 32 _ _ c.in_ok-expect.ensures _ ∙ c.in_err-outcome.ensures _)

pub returns-in_err-expect-2 : goal.returns-in_err-expect-2
unfolding syntax.weight_tail
returns-in_err-expect-2 c = follows_stuck _ _ _ _ _ _ c.from_residual-in_err-expect-2.ensures.1 (λ k. c.in_ok-register.ensures.1.1.goes _ ∙ c.in_ok-qubit.ensures.1.1.goes _ ∙ passed_on 32 _ _ c.in_ok-expect.ensures _ ∙ c.in_ok-outcome.ensures.1.1.goes _ ∙ passed_stuck 10 _ _ _ c.in_err-expect-2.ensures _)

pub returns : goal.returns
unfolding syntax.weight_tail
returns c = (
  weight c.in_ok-register.ensures.0 c.in_ok-qubit.ensures.0 c.in_ok-outcome.ensures.0,
  (
    (λ i. weight (sym c.in_ok-register.ensures.1.0 i) (sym c.in_ok-qubit.ensures.1.0 i) (sym c.in_ok-outcome.ensures.1.0 i)),
    record {
      same = c.in_ok-expect-2.ensures.0 ∙ c.in_ok-outcome.ensures.1.1.same ∙ c.in_ok-expect.ensures.0 ∙ c.in_ok-qubit.ensures.1.1.same ∙ c.in_ok-register.ensures.1.1.same;
      goes = λ k. c.in_ok-register.ensures.1.1.goes _ ∙ c.in_ok-qubit.ensures.1.1.goes _ ∙ passed_on 32 _ _ c.in_ok-expect.ensures _ ∙ c.in_ok-outcome.ensures.1.1.goes _ ∙ passed_on 10 _ _ c.in_ok-expect-2.ensures _;
    },
  ),
)
