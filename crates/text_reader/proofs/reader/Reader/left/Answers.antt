use Rattle.std.proofs.lemmas.List.{take_rest}
use Rattle.text_reader.specs.Reading.{rest}
use Rattle.text_reader.proofs.reader.Reader.left.Goals as goal

pub returns : goal.returns
unfolding rest
returns c = take_rest c.args.self.now.text.now c.args.self.now.pos
