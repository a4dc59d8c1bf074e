-- Worked examples of runs, as one table.
use Rattle.std.specs.Prelude.{◌≡◌, ℕ, ◌-◌, true, false, List, [], ◌∷◌, pos, Some, None, Ok, Err}
use Rattle.exact.specs.declared.Qubit.{Qubit}
use Rattle.exact.specs.Quadruples.{quadruple}
use Rattle.exact.specs.States.{State, state, amplitude, width}
use Rattle.matrices.specs.Examples.{weighs, 𝟎, 𝟏, −1}
use Rattle.functions.specs.declared.faults.StoreFault.TheVariants.{NoSpace}
use Rattle.functions.specs.Meanings.{Setting, only_itself}
use Rattle.gates.specs.declared.Gate as gates
use Rattle.gates.specs.declared.Gate.TheVariants.{X, H, T, Cx, Ccx}
use Rattle.diagrams.specs.Parts.{prefix_parts}
use Rattle.calls.specs.declared.Answer.TheVariants as answered
use Rattle.calls.specs.declared.Answer.TheVariants.{Done}
use Rattle.calls.specs.declared.Call.{Call}
use Rattle.calls.specs.declared.Call.TheVariants.{Open, Gate, Copy, Close, Amplitude, Weight, Same}
use Rattle.calls.specs.declared.faults.SimulatorFault.TheVariants.{NoSuchRegister, RegisterEmpty, RegisterOpen, IndexOutOfRange, QubitOutOfRange, QubitTwice, PowerTooHigh, Store}
use Rattle.plain.specs.Registers.{Registers, register_of, state_of}
use Rattle.plain.specs.Refusals.{refusal}
use Rattle.plain.specs.Runs.{Outcome, registers_of_run, answers_of_run}

-- the node store and the table store of n qubits, as far as the plain machine knows them
abbrev pub node_store : ℕ → ℕ → Setting
node_store n limit = record { qubits = n; limit = limit; parts = prefix_parts n }

abbrev pub table_store : ℕ → ℕ → Setting
table_store n limit = record { qubits = n; limit = limit; parts = only_itself n }

abbrev pub qubit : ℕ → Qubit
qubit q = record { 0 = q }

-- a gate on register 0, at one, two and three qubits
abbrev pub at : gates.Gate → ℕ → Call
at g q = Gate g 0 (qubit q ∷ qubit 0 ∷ qubit 0 ∷ [])

abbrev pub at_two : gates.Gate → ℕ → ℕ → Call
at_two g p q = Gate g 0 (qubit p ∷ qubit q ∷ qubit 0 ∷ [])

abbrev pub at_three : gates.Gate → ℕ → ℕ → ℕ → Call
at_three g o p q = Gate g 0 (qubit o ∷ qubit p ∷ qubit q ∷ [])

-- the state of register 0 after a run on a node store of 2,048 nodes, and all answers of the run
abbrev pub state_after : ℕ → List Call → State
state_after n cs = state_of (register_of (registers_of_run (node_store n 2048) cs) 0)

abbrev pub answers_to : ℕ → List Call → List Outcome
answers_to n cs = answers_of_run (node_store n 2048) cs

-- register 0 of one qubit in a state, and the others empty
abbrev pub only : State → Registers
only s = Some (record { state = s; opening = []; moves = [] }) ∷ None ∷ None ∷ None ∷ []

-- after some calls, a call needs this limit: it is accepted with it, and refused with one less
pub record Needs (store : ℕ → Setting) (before : List Call) (c : Call) (least : ℕ) : Type 0 where
  pub enough : refusal (store least) (registers_of_run (store 100) before) c ≡ None
  pub one_less : refusal (store (least - 1)) (registers_of_run (store 100) before) c ≡ Some (Store (NoSpace (least - 1)))

-- the calls that make a Bell pair
abbrev pub opening : List Call
opening = Open 0 0 ∷ []

abbrev pub opening_h : List Call
opening_h = Open 0 0 ∷ at H 0 ∷ []

abbrev pub bell : List Call
bell = Open 0 0 ∷ at H 0 ∷ at_two Cx 0 1 ∷ []

pub record Examples : Type 0 where
  -- one qubit: power, amplitudes and width
  pub open_0 : state_after 1 opening ≡ state 0 (𝟏 ∷ 𝟎 ∷ [])
  pub open_0_width : width (state_after 1 opening).quadruples ≡ 2
  pub h : state_after 1 opening_h ≡ state 1 (𝟏 ∷ 𝟏 ∷ [])
  pub h_h : state_after 1 (Open 0 0 ∷ at H 0 ∷ at H 0 ∷ []) ≡ state_after 1 opening
  -- answers
  pub asked_h_t_h : answers_to 1 (Open 0 0 ∷ at H 0 ∷ at T 0 ∷ at H 0 ∷ Amplitude 0 1 ∷ Weight 0 (qubit 0) true ∷ [])
      ≡ Ok Done ∷ Ok Done ∷ Ok Done ∷ Ok Done ∷ Ok (answered.Amplitude (amplitude (quadruple (pos 0) (pos 0) −1 (pos 1)) 2)) ∷ Ok (answered.Weight (weighs 2 −1 2)) ∷ []
  pub asked_bell : answers_to 2 (Open 0 0 ∷ at H 0 ∷ at_two Cx 0 1 ∷ Amplitude 0 3 ∷ Weight 0 (qubit 0) true ∷ Same 0 0 ∷ [])
      ≡ Ok Done ∷ Ok Done ∷ Ok Done ∷ Ok (answered.Amplitude (amplitude 𝟏 1)) ∷ Ok (answered.Weight (weighs 1 (pos 0) 1)) ∷ Ok (answered.Same true) ∷ []
  -- a copy is the same as its source until one of them changes; a closed register is empty and can be filled again
  pub copy_and_close : answers_to 1 (Open 0 0 ∷ Copy 0 3 ∷ Same 0 3 ∷ at X 0 ∷ Same 0 3 ∷ Close 3 ∷ Copy 0 3 ∷ Same 0 3 ∷ [])
      ≡ Ok Done ∷ Ok Done ∷ Ok (answered.Same true) ∷ Ok Done ∷ Ok (answered.Same false) ∷ Ok Done ∷ Ok Done ∷ Ok (answered.Same true) ∷ []
  -- each refusal; a refused call changes nothing
  pub refused_2 : answers_to 2 (Copy 4 5 ∷ []) ≡ Err (NoSuchRegister 4) ∷ []
  pub refused_2_before_6 : answers_to 2 (Open 0 0 ∷ Gate H 7 (qubit 2 ∷ qubit 0 ∷ qubit 0 ∷ []) ∷ []) ≡ Ok Done ∷ Err (NoSuchRegister 7) ∷ []
  pub refused_3 : answers_to 2 (Open 0 0 ∷ Same 0 1 ∷ []) ≡ Ok Done ∷ Err (RegisterEmpty 1) ∷ []
  pub refused_3_copy : answers_to 2 (Copy 0 0 ∷ []) ≡ Err (RegisterEmpty 0) ∷ []
  pub refused_4 : answers_to 2 (Open 0 0 ∷ Open 0 0 ∷ []) ≡ Ok Done ∷ Err (RegisterOpen 0) ∷ []
  pub refused_4_copy : answers_to 2 (Open 0 0 ∷ Copy 0 0 ∷ []) ≡ Ok Done ∷ Err (RegisterOpen 0) ∷ []
  pub refused_5 : answers_to 2 (Open 0 4 ∷ Amplitude 0 0 ∷ []) ≡ Err (IndexOutOfRange 4) ∷ Err (RegisterEmpty 0) ∷ []
  pub refused_6 : answers_to 2 (Open 0 0 ∷ at_two Cx 0 2 ∷ []) ≡ Ok Done ∷ Err (QubitOutOfRange (qubit 2)) ∷ []
  pub refused_6_twice : answers_to 2 (Open 0 0 ∷ at_two Cx 5 5 ∷ []) ≡ Ok Done ∷ Err (QubitOutOfRange (qubit 5)) ∷ []
  pub refused_7 : answers_to 3 (Open 0 0 ∷ at_three Ccx 1 2 1 ∷ []) ≡ Ok Done ∷ Err (QubitTwice (qubit 1)) ∷ []
  -- h makes of the power 40 the power 41
  pub refused_10 : refusal (node_store 1 2048) (only (state 40 (𝟏 ∷ quadruple (pos 0) (pos 0) (pos 1) (pos 0) ∷ []))) (at H 0) ≡ Some (PowerTooHigh (record { 0 = 41 }))
  -- refusal 9: one qubit on a store of two nodes, and of one
  pub limit_2 : answers_of_run (node_store 1 2) (Open 0 0 ∷ at H 0 ∷ []) ≡ Ok Done ∷ Ok Done ∷ []
  pub limit_1 : answers_of_run (node_store 1 1) (Open 0 0 ∷ []) ≡ Err (Store (NoSpace 1)) ∷ []
  -- the limit that a call needs: openings, a Bell pair step by step and the two outcomes of its first qubit
  pub nodes_open_0 : Needs (node_store 1) [] (Open 0 0) 2
  pub nodes_open_1 : Needs (node_store 1) [] (Open 0 1) 1
  pub nodes_open_00 : Needs (node_store 2) [] (Open 0 0) 4
  pub nodes_h : Needs (node_store 2) opening (at H 0) 3
  pub nodes_cx : Needs (node_store 2) opening_h (at_two Cx 0 1) 4
  pub nodes_outcome_1 : Needs (node_store 2) bell (Weight 0 (qubit 0) true) 5
  pub nodes_outcome_0 : Needs (node_store 2) bell (Weight 0 (qubit 0) false) 6
  pub nodes_x : Needs (node_store 2) opening (at X 1) 5
  pub tables_open_00 : Needs (table_store 2) [] (Open 0 0) 4
  pub tables_h : Needs (table_store 2) opening (at H 0) 3
  pub tables_cx : Needs (table_store 2) opening_h (at_two Cx 0 1) 4
  pub tables_outcome_1 : Needs (table_store 2) bell (Weight 0 (qubit 0) true) 3
  pub tables_outcome_0 : Needs (table_store 2) bell (Weight 0 (qubit 0) false) 4
  pub tables_x : Needs (table_store 2) opening (at X 1) 4
