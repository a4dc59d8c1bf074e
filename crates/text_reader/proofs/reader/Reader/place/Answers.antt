use Rattle.text_reader.specs.Reading.{standing}
use Rattle.text_reader.proofs.Spots.{stands_place}
use Rattle.text_reader.proofs.Standing.{stands}
use Rattle.text_reader.proofs.reader.Reader.place.Goals as goal

pub returns : goal.returns
unfolding standing
returns c = stands_place (stands c.args.self.now)
