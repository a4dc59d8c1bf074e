-- What each call names and asks for: the table of calls. A further call is a further row of each definition.
use Rattle.std.specs.Prelude.{ℕ, List, [], ◌∷◌, map, Some, None, Option, slice_index_or}
use Rattle.std.specs.List.{range_with_len}
use Rattle.exact.specs.declared.Qubit.{Qubit}
use Rattle.exact.specs.Indices.{bits}
use Rattle.exact.specs.States.{State}
use Rattle.gates.specs.declared.Gate as gates
use Rattle.gates.specs.Arity.{qubits_of}
use Rattle.functions.specs.Tables.{Table}
use Rattle.matrices.specs.Registers.{Move}
use Rattle.calls.specs.declared.Call.{Call}
use Rattle.calls.specs.declared.Call.TheVariants.{Open, Gate, Copy, Close, Amplitude, Weight, Same}
use Rattle.recipes.specs.Plans.{opening_plan, gate_plan, weight_plan}
use Rattle.plain.specs.Registers.{Registers, register_of, state_of, gated}

-- the first m qubits of an array, as numbers
unfoldable pub first_qubits : ℕ → List Qubit → List ℕ
first_qubits m qs = map (λ (i : ℕ). (slice_index_or qs i (record { 0 = 0 })).0) (range_with_len 0 m)

-- the gate of a call at the qubits it acts on
abbrev pub move_of : gates.Gate → List Qubit → Move
move_of g qs = record { gate = g; qubits = first_qubits (qubits_of g) qs }

-- the registers that a call names, in the order of its arguments
abbrev pub named : Call → List ℕ
named (Open r i) = r ∷ []
named (Gate g r qs) = r ∷ []
named (Copy a b) = a ∷ b ∷ []
named (Close r) = r ∷ []
named (Amplitude r i) = r ∷ []
named (Weight r q b) = r ∷ []
named (Same a b) = a ∷ b ∷ []

-- those of them that must be open, and those that must be empty
abbrev pub used : Call → List ℕ
used (Open r i) = []
used (Gate g r qs) = r ∷ []
used (Copy a b) = a ∷ []
used (Close r) = r ∷ []
used (Amplitude r i) = r ∷ []
used (Weight r q b) = r ∷ []
used (Same a b) = a ∷ b ∷ []

abbrev pub filled : Call → List ℕ
filled (Open r i) = r ∷ []
filled (Gate g r qs) = []
filled (Copy a b) = b ∷ []
filled (Close r) = []
filled (Amplitude r i) = []
filled (Weight r q b) = []
filled (Same a b) = []

-- the basis indices and the qubits that a call names
abbrev pub indices : Call → List ℕ
indices (Open r i) = i ∷ []
indices (Gate g r qs) = []
indices (Copy a b) = []
indices (Close r) = []
indices (Amplitude r i) = i ∷ []
indices (Weight r q b) = []
indices (Same a b) = []

abbrev pub qubits : Call → List ℕ
qubits (Open r i) = []
qubits (Gate g r qs) = (move_of g qs).qubits
qubits (Copy a b) = []
qubits (Close r) = []
qubits (Amplitude r i) = []
qubits (Weight r q b) = q.0 ∷ []
qubits (Same a b) = []

-- the functions that a call makes, of n qubits; a copy, a close and the other questions make none
abbrev pub functions_made : ℕ → Registers → Call → Option (List Table)
functions_made n rs (Open r i) = Some (opening_plan n (bits n i))
functions_made n rs (Gate g r qs) = Some (gate_plan n (move_of g qs) (state_of (register_of rs r)))
functions_made n rs (Copy a b) = None
functions_made n rs (Close r) = None
functions_made n rs (Amplitude r i) = None
functions_made n rs (Weight r q b) = Some (weight_plan n q.0 b (state_of (register_of rs r)))
functions_made n rs (Same a b) = None

-- the state that a gate would leave in its register, in normal form
abbrev pub state_left : ℕ → Registers → Call → Option State
state_left n rs (Open r i) = None
state_left n rs (Gate g r qs) = Some (gated n (move_of g qs) (state_of (register_of rs r)))
state_left n rs (Copy a b) = None
state_left n rs (Close r) = None
state_left n rs (Amplitude r i) = None
state_left n rs (Weight r q b) = None
state_left n rs (Same a b) = None
