-- What openings and gates make, and the states that their answers are records of.
use Rattle.std.specs.Prelude.{◌≡◌, ℕ, ◌^◌, ◌<◌, ◌≤◌, Bool, [], ◌∷◌, length, Some, Ok, Err, ◌↔◌, Result}
use Rattle.exact.specs.Indices.{bits}
use Rattle.exact.specs.States.{State, normal_form, width}
use Rattle.functions.specs.declared.faults.StoreFault.{StoreFault}
use Rattle.functions.specs.Tables.{Table, literal}
use Rattle.functions.specs.Meanings.{Meaning, Laws, qubits_of, under}
use Rattle.functions.specs.Growth.{Built}
use Rattle.gates.specs.declared.Gate.{Gate}
use Rattle.matrices.specs.Registers.{Move, moved, opened, MovePlaced}
use Rattle.recipes.specs.Plans.{columns_of_state, narrowed, opening_plan, opening_product, gate_plan}
use Rattle.gate_columns.specs.declared.qubits.GateQubits.{GateQubits}
use Rattle.gate_columns.specs.Gates.{listed}
use Rattle.records.specs.declared.record.Record.{Record}
use Rattle.records.specs.declared.excess.Excess.{Excess}
use Rattle.records.specs.declared.excess.Excess.TheVariants.{Power, Width}
use Rattle.records.specs.Records.{RecordStands}

-- The record of a state: its power, its width, and handles of the slices of its columns at that width.
pub record RecordOf (v : Meaning) (s : State) (r : Record) : Type 0 where
  pub powered : r.power.0 ≡ s.power.0
  pub wide : length r.handles.a ≡ width s.quadruples
  pub stand : RecordStands v r (columns_of_state (qubits_of v) s)

-- ---- openings
-- What narrowing a product answers, for handles of f and of the literal of q.
unfoldable pub Narrowed : Meaning → Meaning → ℕ → ℕ → Bool → Result ℕ StoreFault → Type 0
Narrowed v w hf hl b r =
    (f : Table) (q : ℕ) → under v hf ≡ Some f → under v hl ≡ Some (literal (qubits_of v) q)
    → Built v w (narrowed (qubits_of v) f q b ∷ []) r (λ h. under w h ≡ Some (narrowed (qubits_of v) f q b))

-- The product of an opening at the index of a number.
unfoldable pub ProductMade : Meaning → Meaning → ℕ → Result ℕ StoreFault → Type 0
ProductMade v w i r =
    Built v w (opening_plan (qubits_of v) (bits (qubits_of v) i)) r (λ h. under w h ≡ Some (opening_product (qubits_of v) (bits (qubits_of v) i)))

-- What opening a register answers: it makes its plan, and is the record of the opened register.
unfoldable pub RegisterOpened : Meaning → Meaning → ℕ → Result Record StoreFault → Type 0
RegisterOpened v w i r =
    Built v w (opening_plan (qubits_of v) (bits (qubits_of v) i)) r (RecordOf w (opened (qubits_of v) (bits (qubits_of v) i)))

-- ---- gates
abbrev pub move : Gate → GateQubits → Move
move gate qs = record { gate = gate; qubits = listed qs }

-- The record of a state; or its power is above 40; or else its width is above 22.
abbrev pub RecordedState : Meaning → State → Result Record Excess → Type 0
RecordedState v s (Ok r) = RecordOf v s r
RecordedState v s (Err (Power p)) = (p.0 ≡ s.power.0) × (40 < s.power.0)
RecordedState v s (Err (Width w)) = (w.0 ≡ width s.quadruples) × (s.power.0 ≤ 40) × (22 < width s.quadruples)

-- What a gate answers, for the record of a state of n qubits and as many different qubits of them as the gate needs: it makes
-- its plan, and the answer is the record of the moved state's normal form.
unfoldable pub GateApplied : Meaning → Meaning → Gate → GateQubits → Record → Result (Result Record Excess) StoreFault → Type 0
GateApplied v w gate qs old r =
    (s : State) → length s.quadruples ≡ 2 ^ qubits_of v → RecordOf v s old → MovePlaced (qubits_of v) (move gate qs)
    → Built v w (gate_plan (qubits_of v) (move gate qs) s) r (RecordedState w (normal_form (moved (qubits_of v) (move gate qs) s)))

-- ---- records compared
-- In a store in order, the records of two states are equal exactly if the states are.
abbrev pub SameRecordLaws : Type 0
SameRecordLaws =
    (v : Meaning) → Laws v → (s t : State) → length s.quadruples ≡ 2 ^ qubits_of v → length t.quadruples ≡ 2 ^ qubits_of v
    → (x y : Record) → RecordOf v s x → RecordOf v t y → (x ≡ y) ↔ (s ≡ t)
