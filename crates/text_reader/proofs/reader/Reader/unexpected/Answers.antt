use Rattle.text_reader.specs.declared.fault.TextFault.TheVariants.{Unexpected}
use Rattle.text_reader.specs.Reading.{standing}
use Rattle.text_reader.proofs.Spots.{stands_place}
use Rattle.text_reader.proofs.Standing.{stands}
use Rattle.text_reader.proofs.reader.Reader.unexpected.Goals as goal

pub returns : goal.returns
unfolding standing
returns c = (λ i. Unexpected (c.byte.ensures i) (stands_place (stands c.args.self.now) i))
