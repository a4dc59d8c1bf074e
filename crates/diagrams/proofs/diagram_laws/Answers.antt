use Rattle.diagrams.proofs.Canonical.{length_over, canonical}
use Rattle.diagrams.proofs.Wanted.{over_zero, over_one}
use Rattle.diagrams.proofs.Values.{value_step}
use Rattle.diagrams.proofs.Reaching.{reach_part, part_reach}
use Rattle.diagrams.proofs.diagram_laws.Goals as goal

pub returns : goal.returns
returns c = record {
  sized = length_over;
  zero = over_zero;
  one = over_one;
  value = value_step;
  same_handle = λ n s o f g hf hg e. canonical n s o n f g hf hg (o.within f) (o.within g) e;
  reached_part = λ n limit s o h k r p. reach_part n s o h k r p;
  part_reached = λ n limit s o h hh g p. part_reach n s o h hh g p;
}
