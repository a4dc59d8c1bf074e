-- What a memory over a store remembers, and when it is in order.
use Rattle.std.specs.Prelude.{◌≡◌, ℕ, List, [], ◌∷◌, ◌++◌, take, Some, Ok, Err, Result}
use Rattle.std.specs.List.{AllByRecursion}
use Rattle.functions.specs.declared.combination.Combination.{Combination}
use Rattle.functions.specs.declared.faults.StoreFault.{StoreFault}
use Rattle.functions.specs.Tables.{Table, combined}
use Rattle.functions.specs.Meanings.{Meaning, qubits_of, under}
use Rattle.memory.specs.declared.entry.Remembered.{Remembered}
use Rattle.memory.specs.declared.Memory.{Memory}
use Rattle.memory.specs.Recalling.{newest_first, recalled}

-- a remembered answer is right: it is the handle of the combination of what the three handles stand for
pub record Right (m : Meaning) (e : Remembered) : Type 0 where
  pub first : Table
  pub second : Table
  pub third : Table
  pub is_first : under m e.combination.f ≡ Some first
  pub is_second : under m e.combination.g ≡ Some second
  pub is_third : under m e.combination.h ≡ Some third
  pub is_answer : under m e.answer ≡ Some (combined (qubits_of m) e.combination.rule first second third)

-- A memory is in order if the store below is, and its answers are right.
pub record OrderedOver {S : Type 0} (meaning : S → Meaning) (ordered : S → Type 0) (s : Memory S) : Type 0 where
  pub below : ordered s.store
  pub right : AllByRecursion (Right (meaning s.store)) (newest_first s.recent)

-- Of a history of combinations, the newest first, those remembered are the first 64.
unfoldable pub Remembers : {S : Type 0} → Memory S → List Remembered → Type 0
Remembers s history = newest_first s.recent ≡ take 64 history

-- what a combination adds to the history: itself with its answer, if it was accepted
abbrev pub accepted : Combination → Result ℕ StoreFault → List Remembered
accepted asked (Ok answer) = record { combination = asked; answer = answer } ∷ []
accepted asked (Err e) = []

-- A combination that is one of the 64 newest of the history is answered without asking the store below, and every
-- accepted combination is added to the history.
pub record CombinedOver {S : Type 0} (s t : Memory S) (asked : Combination) (r : Result ℕ StoreFault) : Type 0 where
  pub recalls : (history : List Remembered) (answer : ℕ) → Remembers s history → recalled (take 64 history) asked ≡ Some answer → (r ≡ Ok answer) × (t.store ≡ s.store)
  pub remembers : (history : List Remembered) → Remembers s history → Remembers t (accepted asked r ++ history)

-- An accepted keep ends the history.
unfoldable pub KeptOver : {S : Type 0} → Memory S → Memory S → Result (Unit {0}) StoreFault → Type 0
KeptOver s t (Ok done) = Remembers t []
KeptOver s t (Err e) = (history : List Remembered) → Remembers s history → Remembers t history
