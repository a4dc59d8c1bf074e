use Rattle.std.proofs.Common.{◌≡◌, true, false, get_or, sym, ◌∙◌, arith}
use Rattle.std.proofs.lemmas.Bool.Decides.{nat_tests}
use Rattle.text_numbers.specs.Numbers.{digit}
use Rattle.text_numbers.proofs.Decimal.{digits_more, digits_stop, digits_all, value_more}
use Rattle.text_numbers.proofs.digits.Goals as goal

pub returns-then-not-is_ascii_digit : goal.returns-then-not-is_ascii_digit
returns-then-not-is_ascii_digit c =
    let d : digit (get_or c.args.word.now c.loop-b.b-index 0) ≡ false = grind (arith, nat_tests) in
    sym (sym c.loop-b.invariant.1 ∙ digits_stop _ _ _ c.loop-b-test.true d)

pub loop-b-preserved : goal.loop-b-preserved
loop-b-preserved c =
    let d : digit (get_or c.args.word.now c.loop-b.b-index 0) ≡ true = grind (arith, nat_tests) in
    rw c.from.ensures (value_more _ _ _ c.loop-b.invariant.0 (grind (arith, nat_tests)), sym (digits_more _ _ _ c.loop-b-test.true d) ∙ c.loop-b.invariant.1)

pub returns : goal.returns
returns c = sym (sym c.loop-b.invariant.1 ∙ digits_all c.args.word.now c.loop-b.b-index _ (omega arith))
