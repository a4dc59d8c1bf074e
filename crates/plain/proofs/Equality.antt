-- Whether two states are equal is decided entry by entry.
use Rattle.std.proofs.Common.{◌≡◌, suc, true, ◌&&◌, eqb, List, [], ◌∷◌, ℤ, pos, negsuc, ◌-ℤ◌, nat_abs, Decides, sym, refl, ap, ◌∙◌, ap₂, arith}
use borrow.Author.Differences.{ints}
use Rattle.std.proofs.lemmas.Bool.{false≢true, eqb-true, eq-eqb, and_parts, and_from}
use Rattle.exact.specs.declared.Quadruple.{Quadruple}
use Rattle.exact.specs.States.{State}
use Rattle.exact.proofs.Expressions.{quadruple_path}
use Rattle.exact.proofs.NormalForms.{state_path}
use Rattle.plain.specs.Runs.{same_integer, same_quadruple, same_quadruples, same_state}

no_magnitude : (z : ℤ) → nat_abs z ≡ 0 → z ≡ pos 0
no_magnitude (pos n) e = ap pos e
no_magnitude (negsuc n) e = absurd (let f : suc n ≡ 0 = e in let b : ⊥ = omega arith in b)

same_integers : (x y : ℤ) → same_integer x y ≡ true → x ≡ y
same_integers x y h = let e : x -ℤ y ≡ pos 0 = no_magnitude (x -ℤ y) (eqb-true (nat_abs (x -ℤ y)) 0 h) in omega (arith, ints)

integer_self : (x : ℤ) → same_integer x x ≡ true
integer_self x = let e : x -ℤ x ≡ pos 0 = omega (arith, ints) in ap (λ (z : ℤ). eqb (nat_abs z) 0) e

same_parts : (p q : Quadruple) → same_quadruple p q ≡ true → p ≡ q
same_parts p q h =
    let a = and_parts (same_integer p.a q.a) (same_integer p.b q.b && (same_integer p.c q.c && same_integer p.d q.d)) h in
    let b = and_parts (same_integer p.b q.b) (same_integer p.c q.c && same_integer p.d q.d) a.1 in
    let c = and_parts (same_integer p.c q.c) (same_integer p.d q.d) b.1 in
    quadruple_path (same_integers p.a q.a a.0) (same_integers p.b q.b b.0) (same_integers p.c q.c c.0) (same_integers p.d q.d c.1)

quadruple_self : (q : Quadruple) → same_quadruple q q ≡ true
quadruple_self q =
    and_from (same_integer q.a q.a) (same_integer q.b q.b && (same_integer q.c q.c && same_integer q.d q.d)) (integer_self q.a)
    (and_from (same_integer q.b q.b) (same_integer q.c q.c && same_integer q.d q.d) (integer_self q.b)
    (and_from (same_integer q.c q.c) (same_integer q.d q.d) (integer_self q.c) (integer_self q.d)))

same_lists : (v w : List Quadruple) → same_quadruples v w ≡ true → v ≡ w
unfolding same_quadruples
same_lists [] [] h = refl
same_lists [] (q ∷ w) h = absurd (false≢true h)
same_lists (p ∷ v) [] h = absurd (false≢true h)
same_lists (p ∷ v) (q ∷ w) h = let r = and_parts (same_quadruple p q) (same_quadruples v w) h in ap₂ (λ (x : Quadruple) (l : List Quadruple). x ∷ l) (same_parts p q r.0) (same_lists v w r.1)

list_self : (v : List Quadruple) → same_quadruples v v ≡ true
unfolding same_quadruples
list_self [] = refl
list_self (q ∷ v) = and_from (same_quadruple q q) (same_quadruples v v) (quadruple_self q) (list_self v)

pub same_decides : (s t : State) → Decides (same_state s t) (s ≡ t)
unfolding same_state
same_decides s t = (equal, λ e. ap (same_state s) (sym e) ∙ and_from (eqb s.power.0 s.power.0) (same_quadruples s.quadruples s.quadruples) (eq-eqb s.power.0 s.power.0 refl) (list_self s.quadruples))
  where
    equal : same_state s t ≡ true → s ≡ t
    equal h = let r = and_parts (eqb s.power.0 t.power.0) (same_quadruples s.quadruples t.quadruples) h in state_path (eqb-true s.power.0 t.power.0 r.0) (same_lists s.quadruples t.quadruples r.1)
