-- A table of refusals: the first fault of its rows is the one of the lowest number that applies.
use Rattle.std.proofs.Common.{◌≡◌, ℕ, ◌<◌, Bool, true, false, cond, eqb, List, [], ◌∷◌, length, Some, None, sym, refl, ◌∙◌, subst, arith}
use Rattle.std.proofs.lemmas.Option.{none-some, same_Some}
use Rattle.std.specs.List.{AllByRecursion}
use Rattle.std.proofs.lemmas.Bool.{eqb-true, ne_eqb, cond-false}
use Rattle.calls.specs.declared.faults.SimulatorFault.{SimulatorFault}
use Rattle.calls.specs.Faults.{number_of}
use Rattle.plain.specs.Refusals.{Fault, first_fault}

-- each number of a list is above the one before it
abbrev pub AscendingFrom : ℕ → List ℕ → Type 0
AscendingFrom k [] = Unit {0}
AscendingFrom k (j ∷ ks) = (k < j) × AscendingFrom j ks

-- and so above all of those before it
abbrev Above : ℕ → List ℕ → Type 0
Above k ks = AllByRecursion (λ j. k < j) ks

above : (j k : ℕ) (ks : List ℕ) → j < k → AscendingFrom k ks → Above j ks
above j k [] l a = tt
above j k (i ∷ ks) l a =
    let m : k < i = a.0 in
    let n : j < i = omega arith in
    (n, above j i ks n a.1)

abbrev pub Ascending : List ℕ → Type 0
Ascending [] = Unit {0}
Ascending (k ∷ ks) = AscendingFrom k ks

rest_ascends : (k : ℕ) (ks : List ℕ) → AscendingFrom k ks → Ascending ks
rest_ascends k [] a = tt
rest_ascends k (j ∷ ks) a = a.1

all_above : (k : ℕ) (ks : List ℕ) → AscendingFrom k ks → Above k ks
all_above k [] a = tt
all_above k (j ∷ ks) a = (a.0, above k j ks a.0 a.1)

-- the row that has the number j
unfoldable pub row_at : List ℕ → List Fault → ℕ → Fault
row_at [] fs j = None
row_at (k ∷ ks) [] j = None
row_at (k ∷ ks) (f ∷ fs) j = cond (eqb j k) f (row_at ks fs j)

below_all : (j : ℕ) (ks : List ℕ) (fs : List Fault) → Above j ks → row_at ks fs j ≡ None
unfolding row_at
below_all j [] fs a = refl
below_all j (k ∷ ks) [] a = refl
below_all j (k ∷ ks) (f ∷ fs) a =
    let l : j < k = a.0 in
    cond-false (eqb j k) f (row_at ks fs j) (ne_eqb j k (λ e. (let b : ⊥ = omega arith in b))) ∙ below_all j ks fs a.1

above_some : (k : ℕ) (ks : List ℕ) (fs : List Fault) (j : ℕ) (e : SimulatorFault) → Above k ks → row_at ks fs j ≡ Some e → k < j
unfolding row_at
above_some k [] fs j e a h = absurd (none-some _ h)
above_some k (i ∷ ks) [] j e a h = absurd (none-some _ h)
above_some k (i ∷ ks) (f ∷ fs) j e a h = go (eqb j i) refl h (λ r. above_some k ks fs j e a.1 r)
  where
    go : (b : Bool) → eqb j i ≡ b → cond b f (row_at ks fs j) ≡ Some e → (row_at ks fs j ≡ Some e → k < j) → k < j
    go true t r rest = subst (λ (x : ℕ). k < x) (sym (eqb-true j i t)) a.0
    go false t r rest = rest r

module _ (P : SimulatorFault → Type 0) where
  -- a row tells only faults that apply and have its number
  abbrev pub Row : ℕ → Fault → Type 0
  Row k f = (e : SimulatorFault) → f ≡ Some e → P e × (number_of e ≡ k)

  abbrev pub Rows : List ℕ → List Fault → Type 0
  Rows [] fs = Unit {0}
  Rows (k ∷ ks) [] = Unit {0}
  Rows (k ∷ ks) (f ∷ fs) = Row k f × Rows ks fs

  -- a fault that applies stands in the row of its number
  abbrev pub Complete : List ℕ → List Fault → Type 0
  Complete ks fs = (e : SimulatorFault) → P e → row_at ks fs (number_of e) ≡ Some e

  complete_past : (k : ℕ) (ks : List ℕ) (fs : List Fault) → Complete (k ∷ ks) (None ∷ fs) → Complete ks fs
  unfolding row_at
  complete_past k ks fs c e p = go (eqb (number_of e) k) (c e p)
    where
      go : (b : Bool) → cond b None (row_at ks fs (number_of e)) ≡ Some e → row_at ks fs (number_of e) ≡ Some e
      go true h = absurd (none-some _ h)
      go false h = h

  pub nothing_applies : (ks : List ℕ) (fs : List Fault) → Complete ks fs → first_fault fs ≡ None → (e : SimulatorFault) → P e → ⊥
  unfolding row_at first_fault
  nothing_applies [] fs c h e p = none-some _ (c e p)
  nothing_applies (k ∷ ks) [] c h e p = none-some _ (c e p)
  nothing_applies (k ∷ ks) (None ∷ fs) c h e p = nothing_applies ks fs (complete_past k ks fs c) h e p
  nothing_applies (k ∷ ks) (Some d ∷ fs) c h e p = none-some _ (sym h)

  -- the first fault applies, and none of a lower number does
  pub first_due : (ks : List ℕ) (fs : List Fault) → Ascending ks → Rows ks fs → Complete ks fs → length ks ≡ length fs → (e : SimulatorFault) → first_fault fs ≡ Some e
      → P e × ((d : SimulatorFault) → number_of d < number_of e → P d → ⊥)
  unfolding row_at first_fault
  first_due [] [] a r c l e h = absurd (none-some _ h)
  first_due [] (f ∷ fs) a r c l e h = absurd (omega arith)
  first_due (k ∷ ks) [] a r c l e h = absurd (none-some _ h)
  first_due (k ∷ ks) (None ∷ fs) a r c l e h = first_due ks fs (rest_ascends k ks a) r.1 (complete_past k ks fs c) (let m : length ks ≡ length fs = omega arith in m) e h
  first_due (k ∷ ks) (Some d ∷ fs) a r c l e h = subst (λ (x : SimulatorFault). P x × ((d : SimulatorFault) → number_of d < number_of x → P d → ⊥)) (same_Some _ _ h) ((r.0 d refl).0, lower)
    where
      n : number_of d ≡ k
      n = (r.0 d refl).1

      lower : (x : SimulatorFault) → number_of x < number_of d → P x → ⊥
      lower x b p =
          let b' : number_of x < k = subst (λ (j : ℕ). number_of x < j) n b in
          none-some _ (sym (below_all (number_of x) (k ∷ ks) (Some d ∷ fs) (b', above (number_of x) k ks b' a)) ∙ c x p)

  -- and the only such fault is the first
  pub due_first : (ks : List ℕ) (fs : List Fault) → Ascending ks → Rows ks fs → Complete ks fs → (e : SimulatorFault) → P e → ((d : SimulatorFault) → number_of d < number_of e → P d → ⊥) → first_fault fs ≡ Some e
  unfolding row_at first_fault
  due_first [] fs a r c e p q = absurd (none-some _ (c e p))
  due_first (k ∷ ks) [] a r c e p q = absurd (none-some _ (c e p))
  due_first (k ∷ ks) (None ∷ fs) a r c e p q = due_first ks fs (rest_ascends k ks a) r.1 (complete_past k ks fs c) e p q
  due_first (k ∷ ks) (Some d ∷ fs) a r c e p q = go (eqb (number_of e) k) (c e p)
    where
      go : (b : Bool) → cond b (Some d) (row_at ks fs (number_of e)) ≡ Some e → Some d ≡ Some e
      go true h = h
      go false h =
          let l : k < number_of e = above_some k ks fs (number_of e) e (all_above k ks a) h in
          let n : number_of d ≡ k = (r.0 d refl).1 in
          absurd (q d (subst (λ (j : ℕ). j < number_of e) (sym n) l) (r.0 d refl).0)
