use Rattle.std.proofs.Common.{None, rules}
use Rattle.table_store.proofs.Looking.{some_found}
use Rattle.table_store.proofs.TableStore.free_place.Goals as goal

pub returns : goal.returns
returns c = some_found _ (None) _ _ _ _ c.find.ensures (λ p l h. search rules) (λ p l h. search rules)
