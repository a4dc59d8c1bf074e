use Rattle.std.proofs.Common.{vec_items, sym, ◌∙◌, rules}
use Rattle.std.proofs.lemmas.Bool.{eqb-true, eq-eqb}
use Rattle.table_store.proofs.Looking.{function_there, function_mark, function_words}
use Rattle.table_store.proofs.TableStore.has.Goals as goal

pub returns-then-index-function : goal.returns-then-index-function
returns-then-index-function c = (
  (λ h. function_there _ _ (vec_items c.args.self.now.words) _ _ c.requires.order.laid_out c.requires.within c.index.ensures c.args.function.table.words (search rules) c.args.function.mark c.args.function.right _ c.if-index-function.true c.read.ensures (sym c.same.ensures ∙ h)),
  (λ e. c.same.ensures ∙ function_words _ _ (vec_items c.args.self.now.words) _ _ c.requires.order.laid_out c.requires.within c.index.ensures c.args.function.table.words (search rules) c.args.function.mark c.args.function.right _ c.read.ensures e),
)

pub returns-else-index-function : goal.returns-else-index-function
returns-else-index-function c = (
  (λ h. absurd (c.if-index-function.false (eqb-true _ _ h))),
  (λ e. eq-eqb _ _ (function_mark _ _ (vec_items c.args.self.now.words) _ _ c.requires.order.laid_out c.requires.within c.index.ensures c.args.function.table.words (search rules) c.args.function.mark c.args.function.right e)),
)
