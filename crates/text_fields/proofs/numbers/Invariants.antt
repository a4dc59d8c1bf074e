use Rattle.text_grammar.specs.Syntaxes as syntax
use Rattle.text_fields.proofs.Several.{Numbering}
use Rattle.text_fields.proofs.numbers.Given as goal

abbrev pub invariant-loop-number : goal.invariant-loop-number
invariant-loop-number l = Numbering syntax.spaced_number l.total l.number-index l.initial.reader l.reader l.number-items
