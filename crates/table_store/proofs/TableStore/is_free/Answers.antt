use Rattle.std.proofs.Common.{vec_items}
use Rattle.std.proofs.lemmas.Bool.{eqb-true, eq-eqb}
use Rattle.table_store.proofs.Looking.{free_there, free_mark}
use Rattle.table_store.proofs.TableStore.is_free.Goals as goal

pub returns : goal.returns
returns c = (
  (λ h. free_there _ _ (vec_items c.args.self.now.words) _ _ c.requires.order.laid_out c.requires.within c.index.ensures (eqb-true _ _ h)),
  (λ e. eq-eqb _ 0 (free_mark _ _ (vec_items c.args.self.now.words) _ _ c.requires.order.laid_out c.requires.within c.index.ensures e)),
)
