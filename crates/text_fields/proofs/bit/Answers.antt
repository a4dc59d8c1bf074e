use Rattle.std.proofs.Common.{rules}
use Rattle.text_fields.proofs.Exits.{follows_told}
use Rattle.text_fields.proofs.Words.{bit_judged}
use Rattle.text_grammar.specs.Syntaxes as syntax
use Rattle.text_fields.proofs.bit.Goals as goal

pub returns : goal.returns
unfolding syntax.bit
returns c = follows_told _ _ _ c.told.ensures (λ w o h. search (rules, bit_judged))
