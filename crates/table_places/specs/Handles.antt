-- Places, and the handles of what they hold: place p has the handle p + 2.
use Rattle.std.specs.Prelude.{ℕ, ◌+◌, List, [], ◌∷◌, Some, None, Option}
use Rattle.functions.specs.Tables.{Table}
use Rattle.functions.specs.Meanings.{Meaning, only_itself}
use Rattle.table_words.specs.Words.{unpacked}

-- What a place holds: nothing, or the words of a function.
abbrev pub Content : Type 0
Content = Option (List ℕ)

-- the functions at places from one on, the first of them with the handle k
unfoldable pub entries_from : ℕ → ℕ → List Content → List (ℕ × Table)
entries_from n k [] = []
entries_from n k (None ∷ ps) = entries_from n (k + 1) ps
entries_from n k (Some ws ∷ ps) = (k, unpacked n ws) ∷ entries_from n (k + 1) ps

-- What a store of n qubits means whose places hold ps.
abbrev pub meaning_over : ℕ → ℕ → List Content → Meaning
meaning_over n limit ps = record { setting = record { qubits = n; limit = limit; parts = only_itself n }; entries = entries_from n 2 ps }
