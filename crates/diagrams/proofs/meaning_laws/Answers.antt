use Rattle.diagrams.proofs.Meanings.{under_held, under_not_held, alike_meaning, diagram_lawful, none_reduced, none_means}
use Rattle.diagrams.proofs.Keeping.{kept_swept}
use Rattle.diagrams.proofs.meaning_laws.Goals as goal

pub returns : goal.returns
returns c = record {
  held = under_held;
  not_held = under_not_held;
  same_nodes = alike_meaning;
  lawful = diagram_lawful;
  none_reduced = none_reduced;
  none_means = none_means;
  kept = kept_swept;
}
