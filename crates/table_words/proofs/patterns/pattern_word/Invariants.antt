use Rattle.table_words.proofs.Gathering.{Gathering}
use Rattle.table_words.proofs.patterns.pattern_word.Given as goal

abbrev pub invariant-loop-i : goal.invariant-loop-i
invariant-loop-i g l = Gathering (g.P.Pattern.values l.pattern) l.first l.word l.i
