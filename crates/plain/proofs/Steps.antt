-- One call: what it leaves unchanged.
use Rattle.std.proofs.Common.{◌≡◌, ℕ, ◌<◌, ◌≤◌, Bool, ◌⊎◌, List, [], ◌∷◌, length, set, Some, None, Ok, Err, sym, refl, ap, ◌∙◌, subst, inl, inr, arith}
use Rattle.std.specs.List.{AllByRecursion}
use Rattle.std.proofs.lemmas.List.{length-set, get_or-set_same, get_or-set_other, set-get_or, set_past}
use Rattle.std.proofs.lemmas.Bool.{cases_eq, cases_lt}
use Rattle.exact.specs.declared.Qubit.{Qubit}
use Rattle.exact.specs.Indices.{bits, NotAmong}
use Rattle.gates.specs.declared.Gate as gates
use Rattle.functions.specs.Meanings.{Setting}
use Rattle.calls.specs.declared.Call.{Call}
use Rattle.calls.specs.declared.Call.TheVariants.{Open, Gate, Copy, Close, Amplitude, Weight, Same}
use Rattle.calls.specs.declared.faults.SimulatorFault.{SimulatorFault}
use Rattle.plain.specs.Registers.{Contents, Register, Registers, register_of, opened_at, led_through}
use Rattle.plain.specs.Calls.{move_of, named}
use Rattle.plain.specs.Refusals.{Fault, refusal}
use Rattle.plain.specs.Runs.{effect, reply, step_by, step}
use Rattle.plain.proofs.Refusing.{registers_there}

pub refused_unchanged : (s : Setting) (rs : Registers) (c : Call) (e : SimulatorFault) → refusal s rs c ≡ Some e → (step s rs c).registers ≡ rs
unfolding step step_by
refused_unchanged s rs c e h = ap (λ (f : Fault). (step_by f s.qubits rs c).registers) h

pub refused_answer : (s : Setting) (rs : Registers) (c : Call) (e : SimulatorFault) → refusal s rs c ≡ Some e → (step s rs c).answer ≡ Err e
unfolding step step_by
refused_answer s rs c e h = ap (λ (f : Fault). (step_by f s.qubits rs c).answer) h

pub accepted_effect : (s : Setting) (rs : Registers) (c : Call) → refusal s rs c ≡ None → (step s rs c).registers ≡ effect s.qubits rs c
unfolding step step_by
accepted_effect s rs c h = ap (λ (f : Fault). (step_by f s.qubits rs c).registers) h

pub accepted_answer : (s : Setting) (rs : Registers) (c : Call) → refusal s rs c ≡ None → (step s rs c).answer ≡ Ok (reply s.qubits rs c)
unfolding step step_by
accepted_answer s rs c h = ap (λ (f : Fault). (step_by f s.qubits rs c).answer) h

-- a fact of the registers after a call, from the two ways it can go
pub after_step : (P : Registers → Type 0) (s : Setting) (rs : Registers) (c : Call) → P rs → (refusal s rs c ≡ None → P (effect s.qubits rs c)) → P (step s rs c).registers
unfolding step step_by
after_step P s rs c before done = go (refusal s rs c) refl
  where
    go : (f : Fault) → refusal s rs c ≡ f → P (step_by f s.qubits rs c).registers
    go None h = done h
    go (Some e) h = before

pub amplitude_unchanged : (s : Setting) (rs : Registers) (r i : ℕ) → (step s rs (Amplitude r i)).registers ≡ rs
unfolding effect
amplitude_unchanged s rs r i = after_step (λ x. x ≡ rs) s rs (Amplitude r i) refl (λ h. refl)

pub weight_unchanged : (s : Setting) (rs : Registers) (r : ℕ) (q : Qubit) (b : Bool) → (step s rs (Weight r q b)).registers ≡ rs
unfolding effect
weight_unchanged s rs r q b = after_step (λ x. x ≡ rs) s rs (Weight r q b) refl (λ h. refl)

pub same_unchanged : (s : Setting) (rs : Registers) (a b : ℕ) → (step s rs (Same a b)).registers ≡ rs
unfolding effect
same_unchanged s rs a b = after_step (λ x. x ≡ rs) s rs (Same a b) refl (λ h. refl)

-- ---- registers after one of them was set
-- a register that is not above 3 is one of four
in_range : (r : ℕ) (rs : Registers) → length rs ≡ 4 → (3 < r → ⊥) → r < length rs
in_range r rs l h = by (cases_lt 3 r)
  where
    by : (3 < r) ⊎ (r ≤ 3) → r < length rs
    by (inl m) = absurd (h m)
    by (inr m) = omega arith

set_elsewhere : (rs : Registers) (r j : ℕ) (x : Register) → (j ≡ r → ⊥) → register_of (set rs r x) j ≡ register_of rs j
set_elsewhere rs r j x h = get_or-set_other rs r j x None h

pub set_there : (rs : Registers) (r j : ℕ) (x : Register) (c : Contents) → register_of (set rs r x) j ≡ Some c → (x ≡ Some c) ⊎ (register_of rs j ≡ Some c)
set_there rs r j x c h = by (cases_eq j r) (cases_lt r (length rs))
  where
    by : (j ≡ r) ⊎ (j ≡ r → ⊥) → (r < length rs) ⊎ (length rs ≤ r) → (x ≡ Some c) ⊎ (register_of rs j ≡ Some c)
    by (inl e) (inl l) = inl (sym (get_or-set_same rs r x None l) ∙ ap (register_of (set rs r x)) (sym e) ∙ h)
    by (inl e) (inr l) = inr (ap (λ (l : Registers). register_of l j) (sym (set_past rs r x l)) ∙ h)
    by (inr e) l = inr (sym (set_elsewhere rs r j x e) ∙ h)

effect_elsewhere : (n : ℕ) (rs : Registers) (c : Call) (r : ℕ) → NotAmong r (named c) → register_of (effect n rs c) r ≡ register_of rs r
unfolding effect
effect_elsewhere n rs (Open t i) r h = set_elsewhere rs t r _ h.0
effect_elsewhere n rs (Gate g t qs) r h = set_elsewhere rs t r _ h.0
effect_elsewhere n rs (Copy a b) r h = set_elsewhere rs b r _ h.1.0
effect_elsewhere n rs (Close t) r h = set_elsewhere rs t r _ h.0
effect_elsewhere n rs (Amplitude t i) r h = refl
effect_elsewhere n rs (Weight t q b) r h = refl
effect_elsewhere n rs (Same a b) r h = refl

pub others_unchanged : (s : Setting) (rs : Registers) (c : Call) (r : ℕ) → NotAmong r (named c) → register_of (step s rs c).registers r ≡ register_of rs r
others_unchanged s rs c r h = after_step (λ x. register_of x r ≡ register_of rs r) s rs c refl (λ a. effect_elsewhere s.qubits rs c r h)

pub effect_length : (n : ℕ) (rs : Registers) (c : Call) → length (effect n rs c) ≡ length rs
unfolding effect
effect_length n rs (Open r i) = length-set rs r _
effect_length n rs (Gate g r qs) = length-set rs r _
effect_length n rs (Copy a b) = length-set rs b _
effect_length n rs (Close r) = length-set rs r _
effect_length n rs (Amplitude r i) = refl
effect_length n rs (Weight r q b) = refl
effect_length n rs (Same a b) = refl

-- ---- the register that a call sets
-- the first register that an accepted call names is one of four
first_there : (s : Setting) (rs : Registers) (c : Call) (r : ℕ) (ns : List ℕ) → length rs ≡ 4 → named c ≡ r ∷ ns → refusal s rs c ≡ None → r < length rs
first_there s rs c r ns l e h = in_range r rs l (subst (λ (xs : List ℕ). AllByRecursion (λ x. 3 < x → ⊥) xs) e (registers_there s rs c h)).0

pub opened : (s : Setting) (rs : Registers) (r i : ℕ) → length rs ≡ 4 → refusal s rs (Open r i) ≡ None → register_of (step s rs (Open r i)).registers r ≡ opened_at s.qubits (bits s.qubits i)
unfolding effect
opened s rs r i l h = ap (λ (x : Registers). register_of x r) (accepted_effect s rs (Open r i) h) ∙ get_or-set_same rs r _ None (first_there s rs (Open r i) r [] l refl h)

pub gate_applied : (s : Setting) (rs : Registers) (g : gates.Gate) (r : ℕ) (qs : List Qubit) → length rs ≡ 4 → refusal s rs (Gate g r qs) ≡ None → register_of (step s rs (Gate g r qs)).registers r ≡ led_through s.qubits (move_of g qs) (register_of rs r)
unfolding effect
gate_applied s rs g r qs l h = ap (λ (x : Registers). register_of x r) (accepted_effect s rs (Gate g r qs) h) ∙ get_or-set_same rs r _ None (first_there s rs (Gate g r qs) r [] l refl h)

pub closed : (s : Setting) (rs : Registers) (r : ℕ) → length rs ≡ 4 → refusal s rs (Close r) ≡ None → register_of (step s rs (Close r)).registers r ≡ None
unfolding effect
closed s rs r l h = ap (λ (x : Registers). register_of x r) (accepted_effect s rs (Close r) h) ∙ get_or-set_same rs r _ None (first_there s rs (Close r) r [] l refl h)

pub copied : (s : Setting) (rs : Registers) (a b : ℕ) → length rs ≡ 4 → refusal s rs (Copy a b) ≡ None → register_of (step s rs (Copy a b)).registers b ≡ register_of rs a
unfolding effect
copied s rs a b l h = ap (λ (x : Registers). register_of x b) (accepted_effect s rs (Copy a b) h) ∙ get_or-set_same rs b (register_of rs a) None (in_range b rs l (registers_there s rs (Copy a b) h).1.0)

pub source_unchanged : (s : Setting) (rs : Registers) (a b : ℕ) → register_of (step s rs (Copy a b)).registers a ≡ register_of rs a
unfolding effect
source_unchanged s rs a b = after_step (λ x. register_of x a ≡ register_of rs a) s rs (Copy a b) refl (λ h. by (cases_eq a b))
  where
    by : (a ≡ b) ⊎ (a ≡ b → ⊥) → register_of (set rs b (register_of rs a)) a ≡ register_of rs a
    by (inl e) = ap (λ (x : Registers). register_of x a) (ap (λ (t : ℕ). set rs t (register_of rs a)) (sym e) ∙ set-get_or rs a None)
    by (inr n) = set_elsewhere rs b a (register_of rs a) n
