-- The number, value and layer of each fault of a store, and how it is written.
use Rattle.std.specs.Prelude.{ℕ, List, [], ◌∷◌, codes, decimal}
use Rattle.exact.specs.Texts.{words}
use Rattle.functions.specs.declared.faults.Layer.{Layer}
use Rattle.functions.specs.declared.faults.Layer.TheVariants.{Store}
use Rattle.functions.specs.declared.faults.StoreFault.{StoreFault}
use Rattle.functions.specs.declared.faults.StoreFault.TheVariants.{NoSuchStore, IndexOutOfRange, QubitOutOfRange, NotHeld, NoSpace}

abbrev pub number_of : StoreFault → ℕ
number_of (NoSuchStore value) = 1
number_of (IndexOutOfRange index) = 5
number_of (QubitOutOfRange qubit) = 6
number_of (NotHeld handle) = 8
number_of (NoSpace limit) = 9

abbrev pub value_of : StoreFault → ℕ
value_of (NoSuchStore value) = value
value_of (IndexOutOfRange index) = index
value_of (QubitOutOfRange qubit) = qubit.0
value_of (NotHeld handle) = handle
value_of (NoSpace limit) = limit

abbrev pub layer_of : StoreFault → Layer
layer_of e = Store

-- refused, a number and a value
abbrev pub refused : ℕ → ℕ → List ℕ
refused number value = words (codes "refused" ∷ decimal number ∷ decimal value ∷ [])

abbrev pub refusal_text : StoreFault → List ℕ
refusal_text e = refused (number_of e) (value_of e)
