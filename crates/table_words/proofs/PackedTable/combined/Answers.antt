use Rattle.std.proofs.Common.{ℕ, rules, get_or}
use Rattle.functions.specs.Tables.{ruled}
use Rattle.table_words.specs.Words.{bit_of, BitsOf}
use Rattle.table_words.proofs.Made.{each_made}
use Rattle.table_words.proofs.Packed.{combined_packed}
use Rattle.table_words.proofs.PackedTable.combined.Goals as goal

pub returns : goal.returns
returns c =
    let word = each_made _ (λ (j w : ℕ). BitsOf w (λ i. ruled c.args.rule (bit_of (get_or c.args.f.words j 0) i) (bit_of (get_or c.args.g.words j 0) i) (bit_of (get_or c.args.h.words j 0) i))) _ _ _ (λ k y q h. search rules) c.from_fn-words.ensures.items in
    combined_packed _ _ _ _ _ _ _ c.args.qubits.within (λ j k. word j 0 k) c.clean.ensures
