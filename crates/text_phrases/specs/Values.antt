-- What the values that are read of lines stand for.
use Rattle.std.specs.Prelude.{◌≡◌, Bool, List}
use Rattle.text_grammar.specs.Circuits as circuit
use Rattle.text_grammar.specs.Circuits.Question.{amp, weight, same}
use Rattle.text_fields.specs.Reading.{IsIndex, IsNumbers}
use Rattle.text_phrases.specs.declared.values.Opening.{Opening}
use Rattle.text_phrases.specs.declared.values.Step.{Step}
use Rattle.text_phrases.specs.declared.values.Question.{Question}
use Rattle.text_phrases.specs.declared.values.Question.TheVariants.{Amp, Weight, Same}

abbrev pub IsOpening : Opening → circuit.Opening → Type 0
IsOpening u o = (u.register ≡ o.register) × IsIndex u.index o.index

abbrev pub IsStep : Step → circuit.Step → Type 0
IsStep u s = (u.name ≡ s.name) × IsNumbers u.numbers s.numbers

abbrev pub IsQuestion : Question → circuit.Question → Type 0
IsQuestion (Amp r i) q = (bits : List Bool) × ((q ≡ amp r bits) × IsIndex i bits)
IsQuestion (Weight r n b) q = q ≡ weight r n b
IsQuestion (Same r n) q = q ≡ same r n
