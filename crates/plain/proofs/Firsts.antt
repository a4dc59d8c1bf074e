-- The first number of a list that a test holds of, and the first that is equal to an earlier one.
use Rattle.std.proofs.Common.{◌≡◌, ℕ, Bool, true, false, cond, eqb, List, [], ◌∷◌, ◌++◌, Some, None, Decides, sym, refl, ap, ◌∙◌}
use Rattle.std.proofs.lemmas.Option.{none-some, same_Some}
use Rattle.std.specs.List.{AllByRecursion}
use Rattle.std.proofs.lemmas.Bool.{both_ways, eqb-false, ne_eqb, or_parts, or_from, cond-true, cond-false}
use Rattle.exact.specs.Indices.{NotAmong, Apart}
use Rattle.calls.specs.declared.faults.SimulatorFault.{SimulatorFault}
use Rattle.calls.specs.declared.faults.SimulatorFault.TheVariants.{QubitTwice}
use Rattle.plain.specs.Refusals.{first_that, among, first_repeated}
use Rattle.plain.specs.Faults.{First, FirstRepeated}

-- ---- the first that a test holds of
module _ (test : ℕ → Bool) (P : ℕ → Type 0) (decides : (x : ℕ) → Decides (test x) (P x)) (fault : ℕ → SimulatorFault) where
  pub first_found : (xs : List ℕ) (e : SimulatorFault) → first_that test fault xs ≡ Some e → (x : ℕ) × (fault x ≡ e) × First P x xs
  unfolding first_that
  first_found [] e h = absurd (none-some _ h)
  first_found (y ∷ ys) e h = go (test y) refl h (λ k. first_found ys e k)
    where
      go : (b : Bool) → test y ≡ b → cond b (Some (fault y)) (first_that test fault ys) ≡ Some e → (first_that test fault ys ≡ Some e → (x : ℕ) × (fault x ≡ e) × First P x ys) → (x : ℕ) × (fault x ≡ e) × First P x (y ∷ ys)
      go true t k rest = (y, same_Some _ _ k, record { before = []; behind = ys; place = refl; here = (decides y).0 t; none_before = tt })
      go false t k rest =
          let r = rest k in
          (r.0, r.1, record { before = y ∷ r.2.before; behind = r.2.behind; place = ap (λ (l : List ℕ). y ∷ l) r.2.place; here = r.2.here; none_before = ((λ p. both_ways (test y) t ((decides y).1 p)), r.2.none_before) })

  found_after : (before : List ℕ) (x : ℕ) (behind : List ℕ) → AllByRecursion (λ y. P y → ⊥) before → P x → first_that test fault (before ++ (x ∷ behind)) ≡ Some (fault x)
  unfolding first_that
  found_after [] x behind none here = cond-true (test x) (Some (fault x)) (first_that test fault behind) ((decides x).1 here)
  found_after (y ∷ ys) x behind none here = go (test y) refl ∙ found_after ys x behind none.1 here
    where
      go : (b : Bool) → test y ≡ b → cond b (Some (fault y)) (first_that test fault (ys ++ (x ∷ behind))) ≡ first_that test fault (ys ++ (x ∷ behind))
      go true t = absurd (none.0 ((decides y).0 t))
      go false t = refl

  pub found_first : (xs : List ℕ) (x : ℕ) → First P x xs → first_that test fault xs ≡ Some (fault x)
  found_first xs x f = ap (first_that test fault) f.place ∙ found_after f.before x f.behind f.none_before f.here

  pub none_found : (xs : List ℕ) → first_that test fault xs ≡ None → AllByRecursion (λ y. P y → ⊥) xs
  unfolding first_that
  none_found [] h = tt
  none_found (y ∷ ys) h = go (test y) refl h (λ k. none_found ys k)
    where
      go : (b : Bool) → test y ≡ b → cond b (Some (fault y)) (first_that test fault ys) ≡ None → (first_that test fault ys ≡ None → AllByRecursion (λ z. P z → ⊥) ys) → (P y → ⊥) × AllByRecursion (λ z. P z → ⊥) ys
      go true t k rest = absurd (none-some _ (sym k))
      go false t k rest = ((λ p. both_ways (test y) t ((decides y).1 p)), rest k)

-- ---- the first that is equal to an earlier one
not_among : (q : ℕ) (qs : List ℕ) → among q qs ≡ false → NotAmong q qs
unfolding among
not_among q [] e = tt
not_among q (p ∷ qs) e = let r = or_parts (eqb q p) (among q qs) e in (eqb-false q p r.0, not_among q qs r.1)

among_none : (q : ℕ) (qs : List ℕ) → NotAmong q qs → among q qs ≡ false
unfolding among
among_none q [] h = refl
among_none q (p ∷ qs) h = or_from (eqb q p) (among q qs) (ne_eqb q p h.0) (among_none q qs h.1)

-- no qubit of a list is among the earlier ones
abbrev AllNew : List ℕ → List ℕ → Type 0
AllNew earlier qs = AllByRecursion (λ q. NotAmong q earlier) qs

not_first : (q : ℕ) (earlier qs : List ℕ) → AllNew (q ∷ earlier) qs → NotAmong q qs
not_first q earlier [] h = tt
not_first q earlier (p ∷ qs) h = ((λ e. h.0.0 (sym e)), not_first q earlier qs h.1)

new_before : (q : ℕ) (earlier qs : List ℕ) → AllNew (q ∷ earlier) qs → AllNew earlier qs
new_before q earlier [] h = tt
new_before q earlier (p ∷ qs) h = (h.0.1, new_before q earlier qs h.1)

new_after : (q : ℕ) (earlier qs : List ℕ) → NotAmong q qs → AllNew earlier qs → AllNew (q ∷ earlier) qs
new_after q earlier [] h k = tt
new_after q earlier (p ∷ qs) h k = (((λ e. h.0 (sym e)), k.0), new_after q earlier qs h.1 k.1)

-- q is the first qubit of a list that is equal to an earlier one, of the list or of those before it
record Repeated (earlier : List ℕ) (q : ℕ) (qs : List ℕ) : Type 0 where
  before : List ℕ
  behind : List ℕ
  place : qs ≡ before ++ (q ∷ behind)
  here : NotAmong q before → NotAmong q earlier → ⊥
  new : AllNew earlier before
  apart : Apart before

twice : ℕ → SimulatorFault
twice q = QubitTwice (record { 0 = q })

repeated_found : (earlier qs : List ℕ) (e : SimulatorFault) → first_repeated earlier qs ≡ Some e → (q : ℕ) × (twice q ≡ e) × Repeated earlier q qs
unfolding first_repeated twice
repeated_found earlier [] e h = absurd (none-some _ h)
repeated_found earlier (p ∷ qs) e h = go (among p earlier) refl h (λ k. repeated_found (p ∷ earlier) qs e k)
  where
    go : (b : Bool) → among p earlier ≡ b → cond b (Some (twice p)) (first_repeated (p ∷ earlier) qs) ≡ Some e → (first_repeated (p ∷ earlier) qs ≡ Some e → (q : ℕ) × (twice q ≡ e) × Repeated (p ∷ earlier) q qs) → (q : ℕ) × (twice q ≡ e) × Repeated earlier q (p ∷ qs)
    go true t k rest = (p, same_Some _ _ k, record { before = []; behind = qs; place = refl; here = λ x y. both_ways (among p earlier) (among_none p earlier y) t; new = tt; apart = tt })
    go false t k rest =
        let r = rest k in
        let f = r.2 in (
          r.0,
          r.1,
          record {
            before = p ∷ f.before;
            behind = f.behind;
            place = ap (λ (l : List ℕ). p ∷ l) f.place;
            here = λ x y. f.here x.1 (x.0, y);
            new = (not_among p earlier t, new_before p earlier f.before f.new);
            apart = (not_first p earlier f.before f.new, f.apart);
          },
        )

found_repeated : (earlier before : List ℕ) (q : ℕ) (behind : List ℕ) → (NotAmong q before → NotAmong q earlier → ⊥) → AllNew earlier before → Apart before → first_repeated earlier (before ++ (q ∷ behind)) ≡ Some (twice q)
unfolding first_repeated twice
found_repeated earlier [] q behind here new apart = go (among q earlier) refl
  where
    go : (b : Bool) → among q earlier ≡ b → cond b (Some (twice q)) (first_repeated (q ∷ earlier) behind) ≡ Some (twice q)
    go true t = refl
    go false t = absurd (here tt (not_among q earlier t))
found_repeated earlier (p ∷ before) q behind here new apart =
    cond-false (among p earlier) (Some (twice p)) (first_repeated (p ∷ earlier) (before ++ (q ∷ behind))) (among_none p earlier new.0)
    ∙ found_repeated (p ∷ earlier) before q behind (λ x y. here (y.0, x) y.1) (new_after p earlier before apart.0 new.1) apart.1

none_repeated : (earlier qs : List ℕ) → first_repeated earlier qs ≡ None → AllNew earlier qs × Apart qs
unfolding first_repeated
none_repeated earlier [] h = (tt, tt)
none_repeated earlier (p ∷ qs) h = go (among p earlier) refl h (λ k. none_repeated (p ∷ earlier) qs k)
  where
    go : (b : Bool) → among p earlier ≡ b → cond b (Some (QubitTwice (record { 0 = p }))) (first_repeated (p ∷ earlier) qs) ≡ None → (first_repeated (p ∷ earlier) qs ≡ None → AllNew (p ∷ earlier) qs × Apart qs) → AllNew earlier (p ∷ qs) × Apart (p ∷ qs)
    go true t k rest = absurd (none-some _ (sym k))
    go false t k rest = let r = rest k in ((not_among p earlier t, new_before p earlier qs r.0), (not_first p earlier qs r.0, r.1))

-- with none before the list
all_new : (qs : List ℕ) → AllNew [] qs
all_new [] = tt
all_new (q ∷ qs) = (tt, all_new qs)

pub first_repetition : (qs : List ℕ) (e : SimulatorFault) → first_repeated [] qs ≡ Some e → (q : ℕ) × (QubitTwice (record { 0 = q }) ≡ e) × FirstRepeated q qs
unfolding twice
first_repetition qs e h =
    let r = repeated_found [] qs e h in
    let f = r.2 in
    (r.0, r.1, record { before = f.before; behind = f.behind; place = f.place; here = λ x. f.here x tt; none_before = f.apart })

pub repetition_first : (qs : List ℕ) (q : ℕ) → FirstRepeated q qs → first_repeated [] qs ≡ Some (QubitTwice (record { 0 = q }))
unfolding twice
repetition_first qs q f = ap (first_repeated []) f.place ∙ found_repeated [] f.before q f.behind (λ x y. f.here x) (all_new f.before) f.none_before

pub no_repetition : (qs : List ℕ) → first_repeated [] qs ≡ None → Apart qs
no_repetition qs h = (none_repeated [] qs h).1
