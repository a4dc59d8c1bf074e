-- When a call is refused: the rows of the table of refusals, in their order.
use Rattle.std.specs.Prelude.{ℕ, ◌^◌, Bool, false, not, ◌||◌, if◌then◌else◌, List, [], ◌∷◌, ◌++◌, Some, None, Option, ◌==◌, nat_lt}
use Rattle.exact.specs.States.{State, width}
use Rattle.functions.specs.declared.faults.StoreFault.TheVariants.{NoSpace}
use Rattle.functions.specs.Meanings.{Setting}
use Rattle.functions.specs.Sets.{space, parts_of_all}
use Rattle.functions.specs.Tables.{Table}
use Rattle.calls.specs.declared.Call.{Call}
use Rattle.calls.specs.declared.faults.SimulatorFault.{SimulatorFault}
use Rattle.calls.specs.declared.faults.SimulatorFault.TheVariants.{NoSuchRegister, RegisterEmpty, RegisterOpen, IndexOutOfRange, QubitOutOfRange, QubitTwice, PowerTooHigh, TooWide, Store}
use Rattle.plain.specs.Registers.{Registers, register_of, is_open, slices_of}
use Rattle.plain.specs.Calls.{named, used, filled, indices, qubits, functions_made, state_left}

abbrev pub Fault : Type 0
Fault = Option SimulatorFault

-- the fault if the test holds
unfoldable pub fault_if : Bool → SimulatorFault → Fault
fault_if test e = if test then Some e else None

-- the fault of the first of some numbers that a test holds of
unfoldable pub first_that : (ℕ → Bool) → (ℕ → SimulatorFault) → List ℕ → Fault
first_that test fault [] = None
first_that test fault (x ∷ xs) = if test x then Some (fault x) else first_that test fault xs

unfoldable pub among : ℕ → List ℕ → Bool
among q [] = false
among q (p ∷ qs) = q == p || among q qs

-- the first qubit that is equal to an earlier one
unfoldable pub first_repeated : List ℕ → List ℕ → Fault
first_repeated earlier [] = None
first_repeated earlier (q ∷ qs) = if among q earlier then Some (QubitTwice (record { 0 = q })) else first_repeated (q ∷ earlier) qs

-- what the open registers and a call need together: the parts of the slices and of the functions made
unfoldable pub space_needed : Setting → Registers → List Table → ℕ
space_needed s rs made = space s.qubits (parts_of_all s.parts (slices_of s.qubits rs ++ made))

-- a fault of the functions that a call makes, or of the state that it leaves; where there are none, there is no fault
unfoldable pub of_any : {A : Type 0} → Option A → (A → Fault) → Fault
of_any None f = None
of_any (Some x) f = f x

unfoldable pub no_space : Setting → Registers → List Table → Fault
no_space s rs made = fault_if (nat_lt s.limit (space_needed s rs made)) (Store (NoSpace s.limit))

unfoldable pub power_too_high : State → Fault
power_too_high t = fault_if (nat_lt 40 t.power.0) (PowerTooHigh t.power)

unfoldable pub too_wide : State → Fault
too_wide t = fault_if (nat_lt 22 (width t.quadruples)) (TooWide (record { 0 = width t.quadruples }))

-- refusals 2, 3, 4, 5, 6, 7, 9, 10 and 11
unfoldable pub rows : Setting → Registers → Call → List Fault
rows s rs c =
    first_that (λ r. nat_lt 3 r) NoSuchRegister (named c)
    ∷ first_that (λ r. not (is_open (register_of rs r))) RegisterEmpty (used c)
    ∷ first_that (λ r. is_open (register_of rs r)) RegisterOpen (filled c)
    ∷ first_that (λ i. not (nat_lt i (2 ^ s.qubits))) IndexOutOfRange (indices c)
    ∷ first_that (λ q. not (nat_lt q s.qubits)) (λ q. QubitOutOfRange (record { 0 = q })) (qubits c)
    ∷ first_repeated [] (qubits c)
    ∷ of_any (functions_made s.qubits rs c) (no_space s rs)
    ∷ of_any (state_left s.qubits rs c) power_too_high
    ∷ of_any (state_left s.qubits rs c) too_wide
    ∷ []

unfoldable pub first_fault : List Fault → Fault
first_fault [] = None
first_fault (None ∷ fs) = first_fault fs
first_fault (Some e ∷ fs) = Some e

-- the refusal of a call, if it is refused
unfoldable pub refusal : Setting → Registers → Call → Fault
refusal s rs c = first_fault (rows s rs c)
