-- Integers, quadruples and amplitudes at the index of a number.
use Rattle.std.specs.Prelude.{◌≡◌, ℕ, ◌^◌, List, ℤ, Ok, Result, nat_lt}
use Rattle.exact.specs.declared.Amplitude.{Amplitude}
use Rattle.exact.specs.declared.Quadruple.{Quadruple}
use Rattle.exact.specs.declared.RootTwoPower.{RootTwoPower}
use Rattle.exact.specs.Indices.{Index, bits}
use Rattle.exact.specs.Quadruples.{quadruple}
use Rattle.exact.specs.States.{amplitude_at}
use Rattle.functions.specs.declared.faults.StoreFault.{StoreFault}
use Rattle.functions.specs.declared.faults.StoreFault.TheVariants.{IndexOutOfRange}
use Rattle.functions.specs.Meanings.{Meaning, qubits_of}
use Rattle.functions.specs.Growth.{StandFor}
use Rattle.functions.specs.Answers.{checked}
use Rattle.slicing.specs.declared.Component.TheVariants.{A, B, C, D}
use Rattle.slicing.specs.Columns.{Column, Columns, integer_at, Represents}
use Rattle.readings.specs.declared.handles.Slices.{Slices}
use Rattle.readings.specs.Columns.{StandForColumns}

-- what a question at the index of a number answers, if the number is below 2^n
unfoldable pub at_number : {X : Type 0} → Meaning → ℕ → X → Result X StoreFault
at_number m i x = checked (nat_lt i (2 ^ qubits_of m)) (IndexOutOfRange i) (Ok x)

-- the integer of the column that the handles stand for
unfoldable pub IntegerRead : Meaning → List ℕ → ℕ → Result ℤ StoreFault → Type 0
IntegerRead m ks i r = (ss : Column) → StandFor m ks ss → r ≡ at_number m i (integer_at ss (bits (qubits_of m) i))

-- the quadruple of four columns' integers at an index
abbrev pub quadruple_of : Columns → Index → Quadruple
quadruple_of x y = quadruple (integer_at (x A) y) (integer_at (x B) y) (integer_at (x C) y) (integer_at (x D) y)

unfoldable pub QuadrupleRead : Meaning → Slices → ℕ → Result Quadruple StoreFault → Type 0
QuadrupleRead m s i r = (x : Columns) → StandForColumns m s x → r ≡ at_number m i (quadruple_of x (bits (qubits_of m) i))

-- the amplitude of the state that the columns represent
unfoldable pub AmplitudeRead : Meaning → Slices → RootTwoPower → ℕ → Result Amplitude StoreFault → Type 0
AmplitudeRead m s power i r =
    (x : Columns) (w : ℕ) (v : List Quadruple) → StandForColumns m s x → Represents (qubits_of m) w x v
    → r ≡ at_number m i (amplitude_at (record { power = power; quadruples = v }) i)
