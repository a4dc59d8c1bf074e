use Rattle.std.proofs.Common.{ℕ, ◌-◌, List, [], ◌∷◌, ◌++◌, take, drop, ap, ◌∙◌}
use Rattle.table_store.proofs.Laid.{words_read}
use Rattle.table_store.proofs.TableStore.read.Goals as goal

pub returns : goal.returns
returns c =
    ap (λ (us : List ℕ). us ++ drop c.width.result (0 ∷ 0 ∷ 0 ∷ 0 ∷ []))
    (c.copy_from_slice.ensures.after ∙ ap (λ (us : List ℕ). take (c.range.result.end - c.range.result.start) (drop c.range.result.start us)) c.deref.ensures.value)
    ∙ words_read _ _ _ _ _ _ _ c.width.ensures.value c.width.ensures.few c.range.ensures.start c.range.ensures.end c.range.ensures.suffice
