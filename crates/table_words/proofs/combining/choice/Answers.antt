use Rattle.table_words.proofs.Bits.{choice_bits}
use Rattle.table_words.proofs.combining.choice.Goals as goal

pub returns : goal.returns
returns c = λ i l. choice_bits c.args.s c.args.a c.args.b i
