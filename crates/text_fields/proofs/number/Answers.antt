use Rattle.std.proofs.Common.{rules}
use Rattle.text_numbers.specs.Numbers.{number_of}
use Rattle.text_fields.proofs.Exits.{follows_told}
use Rattle.text_fields.proofs.Words.{named_judged}
use Rattle.text_grammar.specs.Syntaxes as syntax
use Rattle.text_fields.proofs.number.Goals as goal

pub returns : goal.returns
unfolding syntax.number syntax.telling
returns c = follows_told _ _ _ c.told.ensures (λ w o h. named_judged number_of 0 w o (search rules))
