use Rattle.text_fields.proofs.Moves.{passed_on, passed_stuck}
use Rattle.text_fields.proofs.Exits.{follows_stuck, follows_then}
use Rattle.text_grammar.specs.Syntaxes as syntax
use Rattle.text_fields.proofs.spaced_number.Goals as goal

pub returns-in_err-expect : goal.returns-in_err-expect
unfolding syntax.spaced_number
returns-in_err-expect c = follows_stuck _ _ _ _ _ _ c.from_residual.ensures.1 (λ k. passed_stuck 32 _ _ _ c.in_err-expect.ensures _)

pub returns : goal.returns
unfolding syntax.spaced_number
returns c = follows_then _ _ _ _ _ _ _ c.in_ok-expect.ensures.0 (λ k. passed_on 32 _ _ c.in_ok-expect.ensures _) c.number.ensures
