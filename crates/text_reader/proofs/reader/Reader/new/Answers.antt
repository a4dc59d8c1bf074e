use Rattle.std.proofs.Common.{refl, arith}
use Rattle.text_reader.specs.Reading.{text_of, rest, standing}
use Rattle.text_reader.proofs.Spots.{stands_start}
use Rattle.text_reader.proofs.reader.Reader.new.Goals as goal

pub invariant_of-result : goal.invariant_of-result
invariant_of-result c = let s = stands_start c.args.text.now (omega arith) in record { sized = s.sized; within = s.within; lines = s.lines; columns = s.columns }

pub returns : goal.returns
unfolding text_of rest standing
returns c = record { same = refl; whole = refl; start = refl }
