use Rattle.std.proofs.Common.{ℕ, ◌≤◌, ◌<◌, true, false, sym, subst, rules}
use Rattle.std.proofs.lemmas.Iterator.{first_from_Range, serves_from_Range}
use Rattle.table_store.proofs.places.first.Goals as goal

pub find-requires-clause-callable : goal.find-requires-clause-callable
find-requires-clause-callable g c =
    serves_from_Range (λ x q k. search rules)
    (λ x a b y z. c.requires y.now (subst (λ (p : ℕ). c.args.places.start ≤ p) (sym z) a) (subst (λ (p : ℕ). p < c.args.places.end) (sym z) b))

pub returns : goal.returns
returns g c =
    first_from_Range _ _ _ _ (λ (p : ℕ). goal.F-post g c.args.passes.now p true) (λ (p : ℕ). goal.F-post g c.args.passes.now p false) c.find.ensures.ran
    (λ x q k. search rules) (λ x q k. search rules)
