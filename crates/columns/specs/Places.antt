-- The places of a column: its slices, then 0s.
use Rattle.std.specs.Prelude.{◌≡◌, ℕ, ◌-◌, List, ◌++◌, length, take, drop, replicate}
use Rattle.std.proofs.Common.{take-append-drop}

-- all places, from the slices alone
pub all_from_slices : (n len : ℕ) (places : List ℕ) → length (take len places) ≡ len → drop len places ≡ replicate (n - len) 0 → take len places ++ replicate (n - length (take len places)) 0 ≡ places
all_from_slices n len places wide unused = rw (wide, ← unused) (take-append-drop len places)
