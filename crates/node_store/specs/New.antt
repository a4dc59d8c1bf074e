-- Making a node store.
use Rattle.std.specs.Prelude.{◌≡◌, ℕ, ◌/◌, min, cond, ◌||◌, List, Ok, Err, Result, nat_lt}
use Rattle.functions.specs.declared.faults.StoreFault.{StoreFault}
use Rattle.functions.specs.declared.faults.StoreFault.TheVariants.{NoSuchStore}
use Rattle.functions.specs.Meanings.{Setting}
use Rattle.diagrams.specs.Meanings.{diagram_setting}

-- whether a store of so many qubits can be made of so many words
unfoldable pub store_check : ℕ → ℕ → Result (Unit {0}) StoreFault
store_check words qubits = cond (nat_lt qubits 1 || nat_lt 16 qubits) (Err (NoSuchStore qubits)) (cond (nat_lt words 4) (Err (NoSuchStore 0)) (Ok tt))

-- four words for a node, and 65,536 nodes at most
abbrev pub room : ℕ → ℕ
room words = min (words / 4) 65536

unfoldable pub checked_setting : Result (Unit {0}) StoreFault → ℕ → ℕ → Setting
checked_setting (Ok done) words qubits = diagram_setting qubits (room words)
checked_setting (Err e) words qubits = diagram_setting 1 0

-- the setting of a new store: one qubit and no room where the check fails
unfoldable pub new_setting : ℕ → ℕ → Setting
new_setting words qubits = checked_setting (store_check words qubits) words qubits

-- where the check fails, the words stay as they are
unfoldable pub Untouched : Result (Unit {0}) StoreFault → List ℕ → List ℕ → Type 0
Untouched (Ok done) before after = Unit {0}
Untouched (Err e) before after = after ≡ before
