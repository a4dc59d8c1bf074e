-- What is kept.
use Rattle.std.specs.Prelude.{◌≡◌, ℕ, ◌+◌, ◌<◌, ◌≤◌, Bool, false, cond, ◌||◌, List, [], ◌∷◌, length, Ok, Err, Result, ◌==◌, slice_index, slice_index_or}
use Rattle.functions.specs.declared.faults.StoreFault.{StoreFault}
use Rattle.functions.specs.Tables.{Table}
use Rattle.functions.specs.Meanings.{Meaning}
use Rattle.functions.specs.Answers.{functions_under}
use Rattle.table_store.specs.declared.keeping.Listed.{Listed}

-- whether a number is in a list
unfoldable pub inside : ℕ → List ℕ → Bool
inside k [] = false
inside k (x ∷ xs) = k == x || inside k xs

-- The listed handles are all held, and their places are told; or the first that is not held is refused.
pub record AllHeld (m : Meaning) (list : List ℕ) (l : Listed) : Type 0 where
  pub functions : List Table
  pub listed : functions_under m list ≡ Ok functions
  pub places : (p : ℕ) → p < 4096 → slice_index_or l.places p false ≡ inside (p + 2) list

unfoldable pub Checked : Meaning → List ℕ → Result Listed StoreFault → Type 0
Checked m list (Ok l) = AllHeld m list l
Checked m list (Err e) = functions_under m list ≡ Err e

-- The words after every place that is not kept was freed: its mark is 0, and nothing else changed.
pub record KeptMarks (limit : ℕ) (kept : List Bool) (ws vs : List ℕ) : Type 0 where
  pub long : length vs ≡ length ws
  pub marks : (p : ℕ) → p < limit → slice_index vs p ≡ cond (slice_index_or kept p false) (slice_index ws p) 0
  pub others : (i : ℕ) → limit ≤ i → slice_index vs i ≡ slice_index ws i
