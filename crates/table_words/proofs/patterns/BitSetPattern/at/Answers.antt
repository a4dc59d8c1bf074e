use Rattle.std.proofs.Common.{ℕ, ◌*◌, ◌/◌, ◌%◌, ◌^◌, ◌≤◌, sym, subst, arith}
use Rattle.std.proofs.lemmas.Nat.{one_shl}
use Rattle.table_words.proofs.Settings.{bit_within}
use Rattle.table_words.proofs.patterns.BitSetPattern.at.Goals as goal

pub overflow_sub-cleared : goal.overflow_sub-cleared
overflow_sub-cleared c =
    let i = c.args.index in
    let s = c.args.self.now.shift in
    subst (λ (w : ℕ). i / 2 ^ s % 2 * w ≤ i) (sym (one_shl s 32 (omega (arith, c.requires.ready)))) (bit_within i s)
