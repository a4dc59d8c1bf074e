-- The rows of the plain machine's table of refusals, and the refusals that follow.
use Rattle.std.proofs.Common.{◌≡◌, ℕ, ◌^◌, ◌<◌, ◌≤◌, Bool, true, not, ltb, ◌⊎◌, List, [], ◌∷◌, Some, None, Decides, Option, sym, refl, ap, ◌∙◌, subst, inl, inr, arith, lit<}
use Rattle.std.proofs.lemmas.Option.{none-some, cond_some}
use Rattle.std.specs.List.{AllByRecursion}
use Rattle.std.proofs.lemmas.Bool.{ltb-true, ltb-false, lt-ltb, le-ltb, not-true, not_from_false, cond-true, cases_lt}
use Rattle.exact.specs.Indices.{Below, Apart}
use Rattle.exact.specs.States.{State, width}
use Rattle.functions.specs.declared.faults.StoreFault.{StoreFault}
use Rattle.functions.specs.declared.faults.StoreFault.TheVariants.{NoSpace}
use Rattle.functions.specs.Meanings.{Setting}
use Rattle.calls.specs.declared.Call.{Call}
use Rattle.calls.specs.declared.faults.SimulatorFault.{SimulatorFault}
use Rattle.calls.specs.declared.faults.SimulatorFault.TheVariants.{NoSuchRegister, RegisterEmpty, RegisterOpen, IndexOutOfRange, QubitOutOfRange, QubitTwice, PowerTooHigh, TooWide, Store}
use Rattle.calls.specs.Faults.{number_of}
use Rattle.plain.specs.Registers.{Contents, Register, Registers, register_of, is_open}
use Rattle.plain.specs.Calls.{named, used, filled, indices, qubits, functions_made, state_left}
use Rattle.plain.specs.Refusals.{Fault, fault_if, first_that, first_repeated, space_needed, of_any, no_space, power_too_high, too_wide, rows, first_fault, refusal}
use Rattle.plain.specs.Faults.{First, OpenIn, Applies, Due}
use Rattle.plain.proofs.Firsts.{first_found, found_first, none_found, first_repetition, repetition_first, no_repetition}
use Rattle.plain.proofs.Tables.{Ascending, Row, Rows, Complete, row_at, nothing_applies, first_due, due_first}

-- ---- what the tests decide
pub above : (n x : ℕ) → Decides (ltb n x) (n < x)
above n x = (ltb-true n x, lt-ltb n x)

pub not_below : (n x : ℕ) → Decides (not (ltb x n)) (n ≤ x)
not_below n x = ((λ h. ltb-false x n (not-true (ltb x n) h)), (λ h. not_from_false (ltb x n) (le-ltb x n h)))

pub open_decided : (rs : Registers) (r : ℕ) → Decides (is_open (register_of rs r)) (OpenIn rs r)
open_decided rs r = ((λ h. opened (register_of rs r) h), (λ h. ap is_open h.1))
  where
    opened : (x : Register) → is_open x ≡ true → (c : Contents) × (x ≡ Some c)
    opened None h = absurd (let z : ◌≡◌ {A = ℕ} 0 1 = cc in let b : ⊥ = omega arith in b)
    opened (Some c) h = (c, refl)

pub empty_decided : (rs : Registers) (r : ℕ) → Decides (not (is_open (register_of rs r))) (register_of rs r ≡ None)
empty_decided rs r = ((λ h. empty (register_of rs r) h), (λ h. ap (λ (x : Register). not (is_open x)) h))
  where
    empty : (x : Register) → not (is_open x) ≡ true → x ≡ None
    empty None h = refl
    empty (Some c) h = absurd (let z : ◌≡◌ {A = ℕ} 0 1 = cc in let b : ⊥ = omega arith in b)

-- ---- rows about functions made and states left
if_found : (b : Bool) (d e : SimulatorFault) → fault_if b d ≡ Some e → (b ≡ true) × (d ≡ e)
unfolding fault_if
if_found b d e h = cond_some b d e h

found_if : (b : Bool) (e : SimulatorFault) → b ≡ true → fault_if b e ≡ Some e
unfolding fault_if
found_if b e h = cond-true b (Some e) None h

any_found : {A : Type 0} (o : Option A) (f : A → Fault) (e : SimulatorFault) → of_any o f ≡ Some e → (x : A) × (o ≡ Some x) × (f x ≡ Some e)
unfolding of_any
any_found None f e h = absurd (none-some _ h)
any_found (Some x) f e h = (x, refl, h)

found_any : {A : Type 0} (o : Option A) (f : A → Fault) (x : A) (e : SimulatorFault) → o ≡ Some x → f x ≡ Some e → of_any o f ≡ Some e
unfolding of_any
found_any {A = A} o f x e h k = ap (λ (p : Option A). of_any p f) h ∙ k

-- ---- the table
numbers : List ℕ
numbers = 2 ∷ 3 ∷ 4 ∷ 5 ∷ 6 ∷ 7 ∷ 9 ∷ 10 ∷ 11 ∷ []

module _ (s : Setting) (rs : Registers) (c : Call) where
  abbrev P : SimulatorFault → Type 0
  P e = Applies s rs c e

  -- a row of the first number that a test holds of
  listed : (test : ℕ → Bool) (Q : ℕ → Type 0) (fault : ℕ → SimulatorFault) (xs : List ℕ) (k : ℕ) → ((x : ℕ) → Decides (test x) (Q x)) → ((x : ℕ) → First Q x xs → P (fault x) × (number_of (fault x) ≡ k)) → Row P k (first_that test fault xs)
  listed test Q fault xs k decides says e h =
      let r = first_found test Q decides fault xs e h in
      subst (λ (d : SimulatorFault). P d × (number_of d ≡ k)) r.1 (says r.0 r.2)

  row_7 : Row P 7 (first_repeated [] (qubits c))
  unfolding Applies
  row_7 e h = let r = first_repetition (qubits c) e h in subst (λ (d : SimulatorFault). P d × (number_of d ≡ 7)) r.1 (r.2, refl)

  row_9 : Row P 9 (of_any (functions_made s.qubits rs c) (no_space s rs))
  unfolding Applies no_space
  row_9 e h =
      let r = any_found (functions_made s.qubits rs c) (no_space s rs) e h in
      let i = if_found (ltb s.limit (space_needed s rs r.0)) (Store (NoSpace s.limit)) e r.2 in
      subst (λ (d : SimulatorFault). P d × (number_of d ≡ 9)) i.1 ((r.0, r.1, ltb-true s.limit (space_needed s rs r.0) i.0, refl), refl)

  row_10 : Row P 10 (of_any (state_left s.qubits rs c) power_too_high)
  unfolding Applies power_too_high
  row_10 e h =
      let r = any_found (state_left s.qubits rs c) power_too_high e h in
      let i = if_found (ltb 40 r.0.power.0) (PowerTooHigh r.0.power) e r.2 in
      subst (λ (d : SimulatorFault). P d × (number_of d ≡ 10)) i.1 ((r.0, r.1, refl, ltb-true 40 r.0.power.0 i.0), refl)

  row_11 : Row P 11 (of_any (state_left s.qubits rs c) too_wide)
  unfolding Applies too_wide
  row_11 e h =
      let r = any_found (state_left s.qubits rs c) too_wide e h in
      let w : ℕ = width r.0.quadruples in
      let i = if_found (ltb 22 w) (TooWide (record { 0 = w })) e r.2 in
      subst (λ (d : SimulatorFault). P d × (number_of d ≡ 11)) i.1 ((r.0, r.1, refl, ltb-true 22 w i.0), refl)

  all_rows : Rows P numbers (rows s rs c)
  unfolding rows numbers Applies
  all_rows = (
    listed (λ r. ltb 3 r) (λ x. 3 < x) NoSuchRegister (named c) 2 (above 3) (λ x f. (f, refl)),
    (
      listed (λ r. not (is_open (register_of rs r))) (λ x. register_of rs x ≡ None) RegisterEmpty (used c) 3 (empty_decided rs) (λ x f. (f, refl)),
      (
        listed (λ r. is_open (register_of rs r)) (OpenIn rs) RegisterOpen (filled c) 4 (open_decided rs) (λ x f. (f, refl)),
        (
          listed (λ i. not (ltb i (2 ^ s.qubits))) (λ x. 2 ^ s.qubits ≤ x) IndexOutOfRange (indices c) 5 (not_below (2 ^ s.qubits)) (λ x f. (f, refl)),
          (
            listed (λ q. not (ltb q s.qubits)) (λ x. s.qubits ≤ x) (λ q. QubitOutOfRange (record { 0 = q })) (qubits c) 6 (not_below s.qubits) (λ x f. (f, refl)),
            (row_7, (row_9, (row_10, (row_11, tt)))),
          ),
        ),
      ),
    ),
  )

  complete : Complete P numbers (rows s rs c)
  unfolding rows numbers Applies row_at no_space power_too_high too_wide
  complete (NoSuchRegister r) p = found_first (λ r. ltb 3 r) (λ x. 3 < x) (above 3) NoSuchRegister (named c) r p
  complete (RegisterEmpty r) p = found_first (λ r. not (is_open (register_of rs r))) (λ x. register_of rs x ≡ None) (empty_decided rs) RegisterEmpty (used c) r p
  complete (RegisterOpen r) p = found_first (λ r. is_open (register_of rs r)) (OpenIn rs) (open_decided rs) RegisterOpen (filled c) r p
  complete (IndexOutOfRange i) p = found_first (λ i. not (ltb i (2 ^ s.qubits))) (λ x. 2 ^ s.qubits ≤ x) (not_below (2 ^ s.qubits)) IndexOutOfRange (indices c) i p
  complete (QubitOutOfRange q) p = found_first (λ q. not (ltb q s.qubits)) (λ x. s.qubits ≤ x) (not_below s.qubits) (λ q. QubitOutOfRange (record { 0 = q })) (qubits c) q.0 p
  complete (QubitTwice q) p = repetition_first (qubits c) q.0 p
  complete (PowerTooHigh k) p =
      found_any (state_left s.qubits rs c) power_too_high p.0 (PowerTooHigh k) p.1
      (subst (λ j. power_too_high p.0 ≡ Some (PowerTooHigh j)) p.2 (found_if (ltb 40 p.0.power.0) (PowerTooHigh p.0.power) (lt-ltb 40 p.0.power.0 (subst (λ j. 40 < j.0) (sym p.2) p.3))))
  complete (TooWide w) p =
      found_any (state_left s.qubits rs c) too_wide p.0 (TooWide w) p.1
      (subst (λ (j : ℕ). too_wide p.0 ≡ Some (TooWide (record { 0 = j }))) p.2 (found_if (ltb 22 (width p.0.quadruples)) (TooWide (record { 0 = width p.0.quadruples })) (lt-ltb 22 (width p.0.quadruples) (subst (λ (j : ℕ). 22 < j) (sym p.2) p.3))))
  complete (Store e) p =
      subst (λ (d : StoreFault). row_at numbers (rows s rs c) (number_of (Store d)) ≡ Some (Store d)) (sym p.3)
      (found_any (functions_made s.qubits rs c) (no_space s rs) p.0 (Store (NoSpace s.limit)) p.1 (found_if (ltb s.limit (space_needed s rs p.0)) (Store (NoSpace s.limit)) (lt-ltb s.limit (space_needed s rs p.0) p.2)))

  ascending : Ascending numbers
  unfolding numbers
  ascending = (lit< tt, (lit< tt, (lit< tt, (lit< tt, (lit< tt, (lit< tt, (lit< tt, (lit< tt, tt))))))))

  pub refused_due : (e : SimulatorFault) → refusal s rs c ≡ Some e → Due s rs c e
  unfolding refusal numbers rows
  refused_due e h = let r = first_due P numbers (rows s rs c) ascending all_rows complete refl e h in record { applies = r.0; none_lower = r.1 }

  pub due_refused : (e : SimulatorFault) → Due s rs c e → refusal s rs c ≡ Some e
  unfolding refusal
  due_refused e d = due_first P numbers (rows s rs c) ascending all_rows complete e d.applies d.none_lower

  pub accepted : refusal s rs c ≡ None → (e : SimulatorFault) → Applies s rs c e → ⊥
  unfolding refusal
  accepted h e p = nothing_applies P numbers (rows s rs c) complete h e p

  pub none_applies : ((e : SimulatorFault) → Applies s rs c e → ⊥) → refusal s rs c ≡ None
  none_applies h = go (refusal s rs c) refl
    where
      go : (f : Fault) → refusal s rs c ≡ f → f ≡ None
      go None k = refl
      go (Some e) k = absurd (h e (refused_due e k).applies)

-- ---- what an accepted call has passed
no_faults : (fs : List Fault) → first_fault fs ≡ None → AllByRecursion (λ f. f ≡ None) fs
unfolding first_fault
no_faults [] h = tt
no_faults (None ∷ fs) h = (refl, no_faults fs h)
no_faults (Some e ∷ fs) h = absurd (none-some _ (sym h))

pub registers_there : (s : Setting) (rs : Registers) (c : Call) → refusal s rs c ≡ None → AllByRecursion (λ r. 3 < r → ⊥) (named c)
unfolding refusal rows
registers_there s rs c h = none_found (λ r. ltb 3 r) (λ x. 3 < x) (above 3) NoSuchRegister (named c) (no_faults (rows s rs c) h).0

pub qubits_placed : (s : Setting) (rs : Registers) (c : Call) → refusal s rs c ≡ None → Below s.qubits (qubits c) × Apart (qubits c)
unfolding refusal rows
qubits_placed s rs c h =
    let passed = no_faults (rows s rs c) h in (
      below (qubits c) (none_found (λ q. not (ltb q s.qubits)) (λ x. s.qubits ≤ x) (not_below s.qubits) (λ q. QubitOutOfRange (record { 0 = q })) (qubits c) passed.1.1.1.1.0),
      no_repetition (qubits c) passed.1.1.1.1.1.0,
    )
  where
    below : (qs : List ℕ) → AllByRecursion (λ q. s.qubits ≤ q → ⊥) qs → Below s.qubits qs
    below [] a = tt
    below (q ∷ qs) a = (under q a.0 (cases_lt q s.qubits), below qs a.1)
      where
        under : (q : ℕ) → (s.qubits ≤ q → ⊥) → (q < s.qubits) ⊎ (s.qubits ≤ q) → q < s.qubits
        under q n (inl l) = l
        under q n (inr l) = absurd (n l)

-- the state left has a power of at most 40 and a width of at most 22
pub state_within : (s : Setting) (rs : Registers) (c : Call) (t : State) → refusal s rs c ≡ None → state_left s.qubits rs c ≡ Some t → (t.power.0 ≤ 40) × (width t.quadruples ≤ 22)
unfolding Applies
state_within s rs c t h e = (
  at_most t.power.0 40 (λ l. accepted s rs c h (PowerTooHigh t.power) (t, e, refl, l)) (cases_lt 40 t.power.0),
  at_most (width t.quadruples) 22 (λ l. accepted s rs c h (TooWide (record { 0 = width t.quadruples })) (t, e, refl, l)) (cases_lt 22 (width t.quadruples)),
)
  where
    at_most : (k n : ℕ) → (n < k → ⊥) → (n < k) ⊎ (k ≤ n) → k ≤ n
    at_most k n a (inl l) = absurd (a l)
    at_most k n a (inr l) = l
