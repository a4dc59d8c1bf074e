use Rattle.std.proofs.Common.{ℕ, ◌+◌, ◌-◌, ◌*◌, sym, subst, ◌∙◌}
use Rattle.table_words.proofs.Gathering.{Gathering, gathering_more, byte_digit}
use Rattle.table_words.proofs.patterns.pattern_word.Goals as goal

pub loop-i-preserved : goal.loop-i-preserved
loop-i-preserved g c =
    let p = g.P.Pattern.values c.args.pattern.now in
    subst (λ (d : ℕ). Gathering p c.args.first (2 * c.loop-i.word + d) (c.loop-i.i - 1)) (sym (c.from.ensures ∙ byte_digit c.at.result))
    (gathering_more p c.args.first c.loop-i.word c.loop-i.i c.at.result c.loop-i-test.true c.at.ensures c.loop-i.invariant)
