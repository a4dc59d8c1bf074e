use Rattle.std.proofs.Common.{Some, rules}
use Rattle.table_store.proofs.Looking.{some_found}
use Rattle.table_store.proofs.TableStore.place_of.Goals as goal

pub returns : goal.returns
returns c = some_found _ (Some c.args.function.table.words) _ _ _ _ c.find.ensures (λ p l h. search rules) (λ p l h. search rules)
