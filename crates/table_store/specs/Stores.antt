-- A store of tables: what it means, when it is in order, and how it is made.
use Rattle.std.specs.Prelude.{◌≡◌, ℕ, ◌+◌, ◌*◌, ◌<◌, ◌≤◌, cond, ◌&&◌, List, length, Some, None, Ok, Err, vec_items, Option, Result, ◌==◌, ◌≢◌, nat_le, slice_index, slice_set}
use Rattle.std.specs.List.{slice_get}
use Rattle.functions.specs.declared.faults.StoreFault.{StoreFault}
use Rattle.functions.specs.declared.faults.StoreFault.TheVariants.{NoSuchStore, NotHeld}
use Rattle.functions.specs.Meanings.{Setting, Meaning, under, only_itself, constants_only}
use Rattle.table_words.specs.declared.PackedTable.{PackedTable}
use Rattle.table_words.specs.Words.{unpacked, Clean}
use Rattle.table_places.specs.Handles.{Content, meaning_over}
use Rattle.table_places.specs.Order.{PlacesInOrder}
use Rattle.table_store.specs.declared.TableStore.{TableStore}
use Rattle.table_store.specs.Marks.{mark_of}
use Rattle.table_store.specs.Places.{width, limit_of, words_at, contents}

-- what the places of a store hold
abbrev pub places_of : TableStore → List Content
places_of s = contents s.qubits.number s.limit (vec_items s.words)

abbrev pub meaning_of : TableStore → Meaning
meaning_of s = meaning_over s.qubits.number s.limit (places_of s)

-- Words laid out for places: they suffice, and the mark of a function is made of its words.
pub record LaidOut (n limit : ℕ) (ws : List ℕ) : Type 0 where
  pub some_qubits : 1 ≤ n
  pub few_qubits : n ≤ 8
  pub few_places : limit ≤ 4096
  pub suffice : limit * (width n + 1) ≤ length ws
  pub marked : (p : ℕ) → p < limit → (slice_index ws p ≢ 0) → slice_index ws p ≡ mark_of (words_at n limit ws p)

pub record InOrder (s : TableStore) : Type 0 where
  pub laid_out : LaidOut s.qubits.number s.limit (vec_items s.words)
  pub places : PlacesInOrder s.qubits.number s.limit (places_of s)

-- The words of the function under a handle, or the refusal that none is held under it.
unfoldable pub TableUnder : TableStore → ℕ → Result PackedTable StoreFault → Type 0
TableUnder s k (Ok t) = (under (meaning_of s) k ≡ Some (unpacked s.qubits.number t.words)) × Clean s.qubits.number t.words
TableUnder s k (Err e) = (e ≡ NotHeld k) × (under (meaning_of s) k ≡ None)

-- A place below the limit that holds x, or none.
unfoldable pub SomeWith : List Content → Content → ℕ → Option ℕ → Type 0
SomeWith ps x limit None = (p : ℕ) → p < limit → slice_get ps p ≢ Some x
SomeWith ps x limit (Some p) = (p < limit) × (slice_get ps p ≡ Some x)

-- The words after a function was written at place p.
pub record Written (n limit p : ℕ) (t ws vs : List ℕ) : Type 0 where
  pub long : length vs ≡ length ws
  pub places : contents n limit vs ≡ slice_set (contents n limit ws) p (Some t)
  pub marked : LaidOut n limit vs

-- ---- making
-- whether a store of n qubits can be made of some words: refusal 1, with the number of qubits if it is that, else 0
unfoldable pub store_check : ℕ → ℕ → Result (Unit {0}) StoreFault
store_check n words =
    cond (nat_le 1 n && nat_le n 8)
    (cond (limit_of n words == 0) (Err (NoSuchStore 0)) (Ok tt))
    (Err (NoSuchStore n))

-- the setting of the store that is made; where the check refuses, it has one qubit and no place
unfoldable pub setting_by : Result (Unit {0}) StoreFault → ℕ → ℕ → Setting
setting_by (Ok done) n words = record { qubits = n; limit = limit_of n words; parts = only_itself n }
setting_by (Err e) n words = record { qubits = 1; limit = 0; parts = only_itself 1 }

-- A new store is in order and holds only the constants; where the check refuses, its words are those handed over.
pub record NewStore (n : ℕ) (ws : List ℕ) (s : TableStore) : Type 0 where
  pub order : InOrder s
  pub meaning : meaning_of s ≡ constants_only (setting_by (store_check n (length ws)) n (length ws))
  pub untouched : (e : StoreFault) → store_check n (length ws) ≡ Err e → vec_items s.words ≡ ws
