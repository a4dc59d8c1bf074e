-- What each fault says of a call, and when it is due.
use Rattle.std.specs.Prelude.{◌≡◌, ℕ, ◌^◌, ◌<◌, ◌≤◌, List, ◌∷◌, ◌++◌, Some, None}
use Rattle.std.specs.List.{AllByRecursion}
use Rattle.exact.specs.Indices.{NotAmong, Apart}
use Rattle.exact.specs.States.{State, width}
use Rattle.functions.specs.declared.faults.StoreFault.TheVariants.{NoSpace}
use Rattle.functions.specs.Meanings.{Setting}
use Rattle.functions.specs.Tables.{Table}
use Rattle.calls.specs.declared.Call.{Call}
use Rattle.calls.specs.declared.faults.SimulatorFault.{SimulatorFault}
use Rattle.calls.specs.declared.faults.SimulatorFault.TheVariants.{NoSuchRegister, RegisterEmpty, RegisterOpen, IndexOutOfRange, QubitOutOfRange, QubitTwice, PowerTooHigh, TooWide, Store}
use Rattle.calls.specs.Faults.{number_of}
use Rattle.plain.specs.Registers.{Contents, Registers, register_of}
use Rattle.plain.specs.Calls.{named, used, filled, indices, qubits, functions_made, state_left}
use Rattle.plain.specs.Refusals.{space_needed}

-- x is the first number of a list that P holds of
pub record First (P : ℕ → Type 0) (x : ℕ) (xs : List ℕ) : Type 0 where
  pub before : List ℕ
  pub behind : List ℕ
  pub place : xs ≡ before ++ (x ∷ behind)
  pub here : P x
  pub none_before : AllByRecursion (λ y. P y → ⊥) before

-- q is the first qubit of a list that is equal to an earlier one
pub record FirstRepeated (q : ℕ) (qs : List ℕ) : Type 0 where
  pub before : List ℕ
  pub behind : List ℕ
  pub place : qs ≡ before ++ (q ∷ behind)
  pub here : NotAmong q before → ⊥
  pub none_before : Apart before

-- register r is open
abbrev pub OpenIn : Registers → ℕ → Type 0
OpenIn rs r = (c : Contents) × (register_of rs r ≡ Some c)

-- What each fault says of a call.
unfoldable pub Applies : Setting → Registers → Call → SimulatorFault → Type 0
Applies s rs c (NoSuchRegister r) = First (λ x. 3 < x) r (named c)
Applies s rs c (RegisterEmpty r) = First (λ x. register_of rs x ≡ None) r (used c)
Applies s rs c (RegisterOpen r) = First (OpenIn rs) r (filled c)
Applies s rs c (IndexOutOfRange i) = First (λ x. 2 ^ s.qubits ≤ x) i (indices c)
Applies s rs c (QubitOutOfRange q) = First (λ x. s.qubits ≤ x) q.0 (qubits c)
Applies s rs c (QubitTwice q) = FirstRepeated q.0 (qubits c)
Applies s rs c (PowerTooHigh k) = (t : State) × (state_left s.qubits rs c ≡ Some t) × (t.power ≡ k) × (40 < k.0)
Applies s rs c (TooWide w) = (t : State) × (state_left s.qubits rs c ≡ Some t) × (width t.quadruples ≡ w.0) × (22 < w.0)
Applies s rs c (Store e) = (made : List Table) × (functions_made s.qubits rs c ≡ Some made) × (s.limit < space_needed s rs made) × (e ≡ NoSpace s.limit)

-- A fault is due if it applies and none of a lower number does.
pub record Due (s : Setting) (rs : Registers) (c : Call) (e : SimulatorFault) : Type 0 where
  pub applies : Applies s rs c e
  pub none_lower : (d : SimulatorFault) → number_of d < number_of e → Applies s rs c d → ⊥
