use Rattle.std.proofs.Common.{refl, ap}
use Rattle.text_grammar.specs.Syntaxes.{when}
use Rattle.text_fields.proofs.Moves.{reached_word, stuck_word}
use Rattle.text_fields.proofs.Words.{section_told, section_not_told}
use Rattle.text_grammar.specs.Syntaxes as syntax
use Rattle.text_fields.proofs.section_name.Goals as goal

pub returns-then-eq : goal.returns-then-eq
unfolding syntax.section_name
returns-then-eq c = (tt, (tt, reached_word c.word-word.ensures _ _ _ (ap when (section_told _ _ _ c.named.ensures c.if-eq.ensures)) refl))

pub returns-else-eq : goal.returns-else-eq
unfolding syntax.section_name
returns-else-eq c = λ k. stuck_word c.word-word.ensures _ _ _ (ap when (section_not_told _ _ _ c.named.ensures c.if-eq.ensures)) c.unexpected.ensures
