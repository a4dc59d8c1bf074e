-- The number, value and layer of each fault of a simulator, and how it is written. A store's fault keeps its own.
use Rattle.std.specs.Prelude.{ℕ, List}
use Rattle.functions.specs.declared.faults.Layer.{Layer}
use Rattle.functions.specs.declared.faults.Layer.TheVariants.{Simulator}
use Rattle.functions.specs.Faults as store
use Rattle.calls.specs.declared.faults.SimulatorFault.{SimulatorFault}
use Rattle.calls.specs.declared.faults.SimulatorFault.TheVariants.{NoSuchRegister, RegisterEmpty, RegisterOpen, IndexOutOfRange, QubitOutOfRange, QubitTwice, PowerTooHigh, TooWide, Store}

abbrev pub number_of : SimulatorFault → ℕ
number_of (NoSuchRegister register) = 2
number_of (RegisterEmpty register) = 3
number_of (RegisterOpen register) = 4
number_of (IndexOutOfRange index) = 5
number_of (QubitOutOfRange qubit) = 6
number_of (QubitTwice qubit) = 7
number_of (PowerTooHigh power) = 10
number_of (TooWide width) = 11
number_of (Store fault) = store.number_of fault

abbrev pub value_of : SimulatorFault → ℕ
value_of (NoSuchRegister register) = register
value_of (RegisterEmpty register) = register
value_of (RegisterOpen register) = register
value_of (IndexOutOfRange index) = index
value_of (QubitOutOfRange qubit) = qubit.0
value_of (QubitTwice qubit) = qubit.0
value_of (PowerTooHigh power) = power.0
value_of (TooWide width) = width.0
value_of (Store fault) = store.value_of fault

abbrev pub layer_of : SimulatorFault → Layer
layer_of (NoSuchRegister register) = Simulator
layer_of (RegisterEmpty register) = Simulator
layer_of (RegisterOpen register) = Simulator
layer_of (IndexOutOfRange index) = Simulator
layer_of (QubitOutOfRange qubit) = Simulator
layer_of (QubitTwice qubit) = Simulator
layer_of (PowerTooHigh power) = Simulator
layer_of (TooWide width) = Simulator
layer_of (Store fault) = store.layer_of fault

abbrev pub refusal_text : SimulatorFault → List ℕ
refusal_text e = store.refused (number_of e) (value_of e)
