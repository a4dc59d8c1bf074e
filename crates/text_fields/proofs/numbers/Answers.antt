use Rattle.std.proofs.Common.{◌≡◌, ℕ, ◌≤◌, ◌++◌, length, take, replicate, ap, ◌∙◌, arith}
use Rattle.std.proofs.lemmas.List.{take-replicate, drop-replicate, length-replicate}
use Rattle.text_fields.proofs.Exits.{follows_stuck}
use Rattle.text_fields.proofs.Several.{numbering_none, numbering_more, numbering_stuck, numbering_all}
use Rattle.text_grammar.specs.Syntaxes as syntax
use Rattle.text_fields.proofs.numbers.Goals as goal

-- the places that numbers are put in
places : (total : ℕ) → total ≤ 4 → length {A = ℕ} (take total (replicate 4 0)) ≡ total
places total h = ap length (take-replicate total 4 0 h) ∙ length-replicate total 0

pub loop-number-init : goal.loop-number-init
loop-number-init c = numbering_none syntax.spaced_number c.args.total c.args.reader.now _ (take-replicate c.args.total 4 0 c.requires)

pub returns-in_err-number : goal.returns-in_err-number
returns-in_err-number c = follows_stuck _ _ _ _ _ _ c.from_residual.ensures.1 (numbering_stuck _ _ _ _ _ _ c.loop-number.invariant (omega (arith, c.loop-number-test.true, places c.args.total c.requires)) _ c.in_err-number.ensures)

pub loop-number-preserved : goal.loop-number-preserved
loop-number-preserved c = numbering_more _ _ _ _ _ _ c.loop-number.invariant _ (omega (arith, c.loop-number-test.true, places c.args.total c.requires)) _ _ c.in_ok-number.ensures.1.0 c.in_ok-number.ensures.1.1

pub returns : goal.returns
returns c = numbering_all _ _ _ _ _ _ c.loop-number.invariant (omega (arith, c.loop-number-test.false, c.loop-number.auto.number-index-end, places c.args.total c.requires)) _ (ap (λ l. c.loop-number.number-items ++ l) (drop-replicate c.args.total 4 0))
