use Rattle.std.proofs.Common.{◌≡◌, true, false, ◌&&◌, leb, sym, refl, ap, ◌∙◌, arith, rules}
use Rattle.std.proofs.lemmas.Bool.Decides.{nat_tests}
use Rattle.std.proofs.lemmas.Bool.{cond-true, cond-false}
use Rattle.text_grammar.specs.Syntaxes.{otherwise, ranged}
use Rattle.text_fields.proofs.Moves.{reached_word, stuck_word, stuck_count}
use Rattle.text_grammar.specs.Syntaxes as syntax
use Rattle.text_fields.proofs.count.Goals as goal

pub returns-in-Some : goal.returns-in-Some
unfolding syntax.count
returns-in-Some c =
    let n = c.in-Some.n in
    let h = sym c.in-Some.ensures.equals in
    let b : (leb c.args.range.least n && leb n c.args.range.most) ≡ true = grind (arith, nat_tests) in
    (_, ((refl, (search rules)), reached_word c.word-word.ensures _ _ _ (ap (ranged c.args.range) h ∙ cond-true _ _ _ b) (ap (otherwise 0) h)))

pub returns-in-Some-2 : goal.returns-in-Some-2
unfolding syntax.count
returns-in-Some-2 c =
    let n = c.in-Some.n in
    let h = sym c.in-Some.ensures.equals in
    let b : (leb c.args.range.least n && leb n c.args.range.most) ≡ false = grind (arith, nat_tests) in
    λ k. stuck_count c.word-word.ensures _ _ n (ap (ranged c.args.range) h ∙ cond-false _ _ _ b)

pub returns-in-None : goal.returns-in-None
unfolding syntax.count
returns-in-None c = λ k. stuck_word c.word-word.ensures _ _ _ (ap (ranged c.args.range) (sym c.in-None.ensures.equals)) c.unexpected.ensures
