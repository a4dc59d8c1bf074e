-- What calls do and answer, one by one and in whole runs.
use Rattle.std.specs.Prelude.{ℕ, Bool, true, false, ◌&&◌, List, [], ◌∷◌, ℤ, ◌-ℤ◌, Some, None, Ok, Err, Result, ◌==◌, slice_set}
use Rattle.exact.specs.declared.Quadruple.{Quadruple}
use Rattle.exact.specs.Indices.{bits}
use Rattle.exact.specs.Shares.{is_zero}
use Rattle.exact.specs.Squares.{outcome, weight}
use Rattle.exact.specs.States.{State, amplitude_at}
use Rattle.functions.specs.Meanings.{Setting}
use Rattle.calls.specs.declared.Answer.{Answer}
use Rattle.calls.specs.declared.Answer.TheVariants as answered
use Rattle.calls.specs.declared.Answer.TheVariants.{Done}
use Rattle.calls.specs.declared.Call.{Call}
use Rattle.calls.specs.declared.Call.TheVariants.{Open, Gate, Copy, Close, Amplitude, Weight, Same}
use Rattle.calls.specs.declared.faults.SimulatorFault.{SimulatorFault}
use Rattle.plain.specs.Registers.{Registers, all_empty, register_of, state_of, opened_at, led_through}
use Rattle.plain.specs.Calls.{move_of}
use Rattle.plain.specs.Refusals.{Fault, refusal}

-- the registers after an accepted call, of n qubits
unfoldable pub effect : ℕ → Registers → Call → Registers
effect n rs (Open r i) = slice_set rs r (opened_at n (bits n i))
effect n rs (Gate g r qs) = slice_set rs r (led_through n (move_of g qs) (register_of rs r))
effect n rs (Copy a b) = slice_set rs b (register_of rs a)
effect n rs (Close r) = slice_set rs r None
effect n rs (Amplitude r i) = rs
effect n rs (Weight r q b) = rs
effect n rs (Same a b) = rs

-- whether two states are equal: the powers, and the lists entry by entry
abbrev pub same_integer : ℤ → ℤ → Bool
same_integer x y = is_zero (x -ℤ y)

abbrev pub same_quadruple : Quadruple → Quadruple → Bool
same_quadruple p q = same_integer p.a q.a && (same_integer p.b q.b && (same_integer p.c q.c && same_integer p.d q.d))

unfoldable pub same_quadruples : List Quadruple → List Quadruple → Bool
same_quadruples [] [] = true
same_quadruples [] (q ∷ w) = false
same_quadruples (p ∷ v) [] = false
same_quadruples (p ∷ v) (q ∷ w) = same_quadruple p q && same_quadruples v w

unfoldable pub same_state : State → State → Bool
same_state s t = s.power.0 == t.power.0 && same_quadruples s.quadruples t.quadruples

-- what an accepted call answers
unfoldable pub reply : ℕ → Registers → Call → Answer
reply n rs (Open r i) = Done
reply n rs (Gate g r qs) = Done
reply n rs (Copy a b) = Done
reply n rs (Close r) = Done
reply n rs (Amplitude r i) = answered.Amplitude (amplitude_at (state_of (register_of rs r)) i)
reply n rs (Weight r q b) = answered.Weight (weight n (outcome q.0 b) (state_of (register_of rs r)))
reply n rs (Same a b) = answered.Same (same_state (state_of (register_of rs a)) (state_of (register_of rs b)))

-- the outcome of a call: what it answers, or the fault that it is refused with
abbrev pub Outcome : Type 0
Outcome = Result Answer SimulatorFault

-- one call: the registers after it, and its outcome
pub record Step : Type 0 where
  pub registers : Registers
  pub answer : Outcome

-- a refused call changes nothing
unfoldable pub step_by : Fault → ℕ → Registers → Call → Step
step_by None n rs c = record { registers = effect n rs c; answer = Ok (reply n rs c) }
step_by (Some e) n rs c = record { registers = rs; answer = Err e }

unfoldable pub step : Setting → Registers → Call → Step
step s rs c = step_by (refusal s rs c) s.qubits rs c

-- the registers after some calls, and their outcomes
unfoldable pub after : Setting → Registers → List Call → Registers
after s rs [] = rs
after s rs (c ∷ cs) = after s (step s rs c).registers cs

unfoldable pub answers : Setting → Registers → List Call → List Outcome
answers s rs [] = []
answers s rs (c ∷ cs) = (step s rs c).answer ∷ answers s (step s rs c).registers cs

-- a whole run begins with all registers empty
abbrev pub registers_of_run : Setting → List Call → Registers
registers_of_run s cs = after s all_empty cs

abbrev pub answers_of_run : Setting → List Call → List Outcome
answers_of_run s cs = answers s all_empty cs
