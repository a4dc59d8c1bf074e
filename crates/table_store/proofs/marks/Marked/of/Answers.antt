use Rattle.std.proofs.Common.{ℕ, get_or, ap, ◌∙◌}
use lib.Bits.{bit_or}
use Rattle.table_store.specs.Marks.{mixed, mark_of}
use Rattle.table_store.proofs.marks.Marked.of.Goals as goal

pub invariant_of-result : goal.invariant_of-result
unfolding mark_of
invariant_of-result c =
    let ws = c.args.table.words in
    record {
      right =
          ap (λ (m : ℕ). bit_or m 1)
          (c.mixed-mark.ensures
          ∙ ap (λ (m : ℕ). mixed m (get_or ws 3 0)) (c.mixed-3.ensures
          ∙ ap (λ (m : ℕ). mixed m (get_or ws 2 0)) (c.mixed-2.ensures
          ∙ ap (λ (m : ℕ). mixed m (get_or ws 1 0)) c.mixed.ensures)));
    }
