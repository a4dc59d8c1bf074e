use Rattle.std.proofs.Common.{◌≡◌, ℕ, suc, ◌+◌, ◌-◌, ◌<◌, ◌≤◌, eqb, List, length, drop, Some, sym, ap, ◌∙◌, arith, rules, length-drop}
use Rattle.std.specs.List.{position}
use Rattle.std.proofs.lemmas.Bool.Decides.{nat_tests}
use Rattle.std.proofs.lemmas.List.{take_rest}
use Rattle.std.proofs.lemmas.Iterator.{YieldsList-from_slice}
use Rattle.std.proofs.lemmas.Iterator.Search.{position_from_yields_List}
use Rattle.circuit_text.specs.Columns.{after_spaces}
use Rattle.circuit_text.proofs.Spaces.{space_found, no_space, spaces_none}
use Rattle.circuit_text.proofs.line.offset.Goals as goal
use Rattle.circuit_text.proofs.line.offset.Goals.{After-position}

-- what is left is passed up to its first space
passed_on : (all rest next : List ℕ) (nth i space : ℕ) → i < nth → length rest ≤ length all → after_spaces nth all + length rest ≡ length all + after_spaces (nth - i) rest → Some space ≡ position (λ b. eqb b 32) rest → next ≡ drop (space + 1) rest → record { within : length next ≤ length all; passed : after_spaces nth all + length next ≡ length all + after_spaces (nth - (i + 1)) next }
passed_on all rest next nth i space l w p found e =
    let f = space_found (nth - (i + 1)) rest space found in
    let m : nth - i ≡ suc (nth - (i + 1)) = omega arith in
    let long : length next + (space + 1) ≡ length rest = omega (arith, ap length e, length-drop (space + 1) rest, f.0) in
    record {
      within = omega (arith, w, long);
      passed = omega (arith, p, ap (λ k. after_spaces k rest) m, f.1, ap (after_spaces (nth - (i + 1))) e, long);
    }

found : (c : After-position) → c.position.result ≡ position (λ b. eqb b 32) c.loop.rest.now
found c = position_from_yields_List (λ b. eqb b 32) _ _ _ c.position.ensures.ran (YieldsList-from_slice c.loop.rest.now cc) (λ x b q k. search (rules, nat_tests))

pub returns-in-None : goal.returns-in-None
returns-in-None c =
    let none = no_space (c.args.nth - (c.loop.counter + 1)) c.loop.rest.now (sym c.in-None.is ∙ found (goal.at.returns-in-None c).After-position) in
    let m : c.args.nth - c.loop.counter ≡ suc (c.args.nth - (c.loop.counter + 1)) = omega (arith, c.loop-test.true) in
    omega (arith, c.loop.invariant.passed, ap (λ k. after_spaces k c.loop.rest.now) m, none)

pub loop-preserved : goal.loop-preserved
loop-preserved c = passed_on _ c.loop.rest.now _ c.args.nth c.loop.counter c.in-Some.space c.loop-test.true c.loop.invariant.within c.loop.invariant.passed (sym c.in-Some.is ∙ found (goal.at.loop-preserved c).After-position) (take_rest c.loop.rest.now (c.in-Some.space + 1))

pub returns : goal.returns
returns c =
    let z : c.args.nth - c.loop.counter ≡ 0 = omega (arith, c.loop-test.false) in
    omega (arith, c.loop.invariant.passed, c.loop.invariant.within, ap (λ k. after_spaces k c.loop.rest.now) z, spaces_none c.loop.rest.now)
