use Rattle.std.proofs.Common.{ℕ, ◌+◌, ◌*◌, rules}
use Rattle.table_words.specs.Words.{BitsOf}
use Rattle.table_words.proofs.Made.{each_made}
use Rattle.table_words.proofs.Packed.{has_bits}
use Rattle.table_words.proofs.patterns.packed.Goals as goal

pub returns : goal.returns
returns g c =
    let word = each_made _ (λ (j w : ℕ). BitsOf w (λ i. g.P.Pattern.values c.args.pattern.now (64 * j + i))) _ _ _ (λ k y q h. search rules) c.from_fn-words.ensures.items in
    has_bits _ _ (g.P.Pattern.values c.args.pattern.now) _ c.args.qubits.within (λ j k. word j 0 k) c.clean.ensures
