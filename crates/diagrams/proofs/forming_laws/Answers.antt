use Rattle.diagrams.proofs.Canonical.{over_kept}
use Rattle.diagrams.proofs.Wanted.{combination_over, fixing_asked, bit_asked}
use Rattle.diagrams.proofs.Forming.{formed_literal, short_literal}
use Rattle.diagrams.proofs.Making.{made_formed, short_exceeds}
use Rattle.diagrams.proofs.forming_laws.Goals as goal

pub returns : goal.returns
returns c = record {
  stays = over_kept;
  combination_halves = combination_over;
  fixing_qubit = fixing_asked;
  bit_of_qubit = bit_asked;
  literal_formed = λ n s t o k m r p j. formed_literal n s o t m r p k j;
  literal_short = λ n s o limit m p x. short_literal n s o limit m p x;
  made = made_formed;
  exceeds = short_exceeds;
}
