use Rattle.functions.proofs.Growth.{grew_none, grew_then, stopped_after, stopped_before, stopped_exceeds, grew_fits}
use Rattle.functions.proofs.laws.plan_laws.Goals as goal

pub returns : goal.returns
returns c = record {
  made_none = grew_none;
  made_both = λ u v w a b x y. grew_then a b x y;
  stopped_in_second = λ u v w e a b x y. stopped_after a b x y;
  stopped_in_first = λ v w e a b y. stopped_before a b y;
  stopped_exceeds = λ v w e fs y. stopped_exceeds fs y;
  made_fits = λ v w fs x laws e. grew_fits fs x laws e;
}
