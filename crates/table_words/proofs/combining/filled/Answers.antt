use Rattle.std.proofs.Common.{sym, ◌∙◌}
use Rattle.table_words.proofs.Packed.{ones_word, zeros_word}
use Rattle.table_words.proofs.combining.filled.Goals as goal

pub returns-then-bit : goal.returns-then-bit
returns-then-bit c = λ i l. ones_word i l ∙ sym c.if-bit.true

pub returns-else-bit : goal.returns-else-bit
returns-else-bit c = λ i l. zeros_word i l ∙ sym c.if-bit.false
