-- The laws of the plain machine.
use Rattle.std.specs.Prelude.{◌≡◌, ℕ, ◌≤◌, Bool, true, false, List, ◌++◌, map, length, take, Some, None, Ok, Err, IsTrue, ◌↔◌}
use Rattle.exact.specs.declared.Qubit.{Qubit}
use Rattle.exact.specs.Indices.{bits, NotAmong}
use Rattle.exact.specs.Squares.{add_squares, sum_of_squares, outcome}
use Rattle.exact.specs.States.{SameAmplitudes, InNormalForm, width}
use Rattle.functions.specs.Meanings.{Setting}
use Rattle.gates.specs.declared.Gate as gates
use Rattle.matrices.specs.Registers.{register, AllPlaced}
use Rattle.matrices.specs.Products.{product_of, column, SameMatrix}
use Rattle.matrices.specs.Laws.{unit_total}
use Rattle.calls.specs.declared.Call.{Call}
use Rattle.calls.specs.declared.Call.TheVariants.{Open, Gate, Copy, Close, Amplitude, Weight, Same}
use Rattle.calls.specs.declared.faults.SimulatorFault.{SimulatorFault}
use Rattle.plain.specs.Registers.{Contents, Registers, register_of, opened_at, led_through}
use Rattle.plain.specs.Calls.{first_qubits, move_of, named}
use Rattle.plain.specs.Refusals.{refusal}
use Rattle.plain.specs.Runs.{reply, same_state, step, after, answers, registers_of_run}
use Rattle.plain.specs.Faults.{Applies, Due}

pub record RefusalLaws : Type 0 where
  -- a call is refused with a fault exactly if that fault is due
  pub refused_due : (s : Setting) (rs : Registers) (c : Call) (e : SimulatorFault) → refusal s rs c ≡ Some e → Due s rs c e
  pub due_refused : (s : Setting) (rs : Registers) (c : Call) (e : SimulatorFault) → Due s rs c e → refusal s rs c ≡ Some e
  -- so it is accepted exactly if none applies
  pub accepted : (s : Setting) (rs : Registers) (c : Call) → refusal s rs c ≡ None → (e : SimulatorFault) → Applies s rs c e → ⊥
  pub none_applies : (s : Setting) (rs : Registers) (c : Call) → ((e : SimulatorFault) → Applies s rs c e → ⊥) → refusal s rs c ≡ None

-- One call.
pub record CallLaws : Type 0 where
  -- a refused call changes nothing, and answers its fault
  pub refused_unchanged : (s : Setting) (rs : Registers) (c : Call) (e : SimulatorFault) → refusal s rs c ≡ Some e → (step s rs c).registers ≡ rs
  pub refused_answer : (s : Setting) (rs : Registers) (c : Call) (e : SimulatorFault) → refusal s rs c ≡ Some e → (step s rs c).answer ≡ Err e
  -- an accepted call has an answer
  pub accepted_answer : (s : Setting) (rs : Registers) (c : Call) → refusal s rs c ≡ None → (step s rs c).answer ≡ Ok (reply s.qubits rs c)
  -- a question changes nothing
  pub amplitude_unchanged : (s : Setting) (rs : Registers) (r i : ℕ) → (step s rs (Amplitude r i)).registers ≡ rs
  pub weight_unchanged : (s : Setting) (rs : Registers) (r : ℕ) (q : Qubit) (b : Bool) → (step s rs (Weight r q b)).registers ≡ rs
  pub same_unchanged : (s : Setting) (rs : Registers) (a b : ℕ) → (step s rs (Same a b)).registers ≡ rs
  -- no call changes a register that it does not name
  pub others_unchanged : (s : Setting) (rs : Registers) (c : Call) (r : ℕ) → NotAmong r (named c) → register_of (step s rs c).registers r ≡ register_of rs r
  -- a gate acts on the first qubits of its array
  pub first_of_array : (m : ℕ) (qs : List Qubit) → m ≤ length qs → first_qubits m qs ≡ map (λ (q : Qubit). q.0) (take m qs)
  -- an accepted opening, gate and close
  pub opened : (s : Setting) (rs : Registers) (r i : ℕ) → length rs ≡ 4 → refusal s rs (Open r i) ≡ None → register_of (step s rs (Open r i)).registers r ≡ opened_at s.qubits (bits s.qubits i)
  pub gate_applied : (s : Setting) (rs : Registers) (g : gates.Gate) (r : ℕ) (qs : List Qubit) → length rs ≡ 4 → refusal s rs (Gate g r qs) ≡ None
      → register_of (step s rs (Gate g r qs)).registers r ≡ led_through s.qubits (move_of g qs) (register_of rs r)
  pub closed : (s : Setting) (rs : Registers) (r : ℕ) → length rs ≡ 4 → refusal s rs (Close r) ≡ None → register_of (step s rs (Close r)).registers r ≡ None
  -- a copy has its source's state, opening and moves, and the source keeps them
  pub copied : (s : Setting) (rs : Registers) (a b : ℕ) → length rs ≡ 4 → refusal s rs (Copy a b) ≡ None → register_of (step s rs (Copy a b)).registers b ≡ register_of rs a
  pub source_unchanged : (s : Setting) (rs : Registers) (a b : ℕ) → register_of (step s rs (Copy a b)).registers a ≡ register_of rs a

-- What holds of an open register of n qubits.
pub record Sound (n : ℕ) (c : Contents) : Type 0 where
  pub of_qubits : length c.opening ≡ n
  pub placed : AllPlaced n c.moves
  -- it is the register opened there and led through these moves, in normal form
  pub led : c.state ≡ register n c.opening c.moves
  pub normal : InNormalForm c.state
  pub low_power : c.state.power.0 ≤ 40
  pub narrow : width c.state.quadruples ≤ 22

-- after a run from empty registers, register r is open with the contents c
abbrev pub OpenAfter : Setting → List Call → ℕ → Contents → Type 0
OpenAfter s cs r c = register_of (registers_of_run s cs) r ≡ Some c

-- Whole runs, of any calls, refused ones included, and with any setting.
pub record RunLaws : Type 0 where
  -- a run goes on from the registers that it has left
  pub goes_on : (s : Setting) (rs : Registers) (cs ds : List Call) → after s rs (cs ++ ds) ≡ after s (after s rs cs) ds
  pub answers_go_on : (s : Setting) (rs : Registers) (cs ds : List Call) → answers s rs (cs ++ ds) ≡ answers s rs cs ++ answers s (after s rs cs) ds
  pub four : (s : Setting) (cs : List Call) → length (registers_of_run s cs) ≡ 4
  pub sound : (s : Setting) (cs : List Call) (r : ℕ) (c : Contents) → OpenAfter s cs r c → Sound s.qubits c
  -- the amplitudes are those of a column of the product of the gates' matrices
  pub amplitudes : (s : Setting) (cs : List Call) (r : ℕ) (c : Contents) → OpenAfter s cs r c
      → SameAmplitudes c.state (column s.qubits (product_of s.qubits c.moves) c.opening)
  -- two open registers have equal lists and powers exactly if they have the same amplitude at every index, and that is what
  -- is answered when one asks whether they are the same
  pub equal_then_same : (s : Setting) (cs : List Call) (q r : ℕ) (c d : Contents) → OpenAfter s cs q c → OpenAfter s cs r d
      → c.state ≡ d.state → SameAmplitudes c.state d.state
  pub same_then_equal : (s : Setting) (cs : List Call) (q r : ℕ) (c d : Contents) → OpenAfter s cs q c → OpenAfter s cs r d
      → SameAmplitudes c.state d.state → c.state ≡ d.state
  pub same_answers : (s : Setting) (cs : List Call) (q r : ℕ) (c d : Contents) → OpenAfter s cs q c → OpenAfter s cs r d
      → IsTrue (same_state c.state d.state) ↔ SameAmplitudes c.state d.state
  -- they have equal lists and powers if they were opened at the same index and the products of their gates' matrices are equal
  pub equal_products : (s : Setting) (cs : List Call) (q r : ℕ) (c d : Contents) → OpenAfter s cs q c → OpenAfter s cs r d
      → c.opening ≡ d.opening → SameMatrix s.qubits (product_of s.qubits c.moves) (product_of s.qubits d.moves) → c.state ≡ d.state
  -- the two weights of every qubit add up to those of a unit vector
  pub outcomes : (s : Setting) (cs : List Call) (r q : ℕ) (c : Contents) → OpenAfter s cs r c
      → add_squares (sum_of_squares s.qubits (outcome q false) c.state.quadruples) (sum_of_squares s.qubits (outcome q true) c.state.quadruples) ≡ unit_total c.state
