-- Truth tables packed into words of 64 bits.
use Rattle.std.specs.Prelude.{◌≡◌, ℕ, ◌-◌, ◌*◌, ◌/◌, ◌%◌, ◌^◌, ◌<◌, ◌≤◌, min, Bool, ◌&&◌, List, ◌==◌, slice_index}
use Rattle.exact.specs.Indices.{number, listing}
use Rattle.functions.specs.Tables.{Table, ones}
use Rattle.table_words.specs.declared.PackedTable.{PackedTable}

-- whether bit i of a number is 1
abbrev pub bit_of : ℕ → ℕ → Bool
bit_of w i = w / 2 ^ i % 2 == 1

-- bit i of a row of words, 64 to a word, the lowest first
unfoldable pub word_bit : List ℕ → ℕ → Bool
word_bit ws i = bit_of (slice_index ws (i / 64)) (i % 64)

-- the function of n qubits whose value at an index is the bit of that number
unfoldable pub unpacked : ℕ → List ℕ → Table
unpacked n ws = listing n (λ x. word_bit ws (number x))

-- the 64 bits of a word are the values of p
abbrev pub BitsOf : ℕ → (ℕ → Bool) → Type 0
BitsOf w p = (i : ℕ) → i < 64 → bit_of w i ≡ p i

-- No bit is 1 but those of the 2^n indices: word j has the indices from 64j on.
unfoldable pub Clean : ℕ → List ℕ → Type 0
Clean n ws = (j : ℕ) → slice_index ws j < 2 ^ min 64 (2 ^ n - 64 * j)

-- t has the bits of p below 2^n, and no other
pub record HasBits (n : ℕ) (p : ℕ → Bool) (t : PackedTable) : Type 0 where
  pub values : (i : ℕ) → i < 2 ^ n → word_bit t.words i ≡ p i
  pub clean : Clean n t.words

-- t is the function f of n qubits, packed
pub record Packs (n : ℕ) (f : Table) (t : PackedTable) : Type 0 where
  pub table : unpacked n t.words ≡ f
  pub clean : Clean n t.words

-- whether four words are the same as four others
abbrev pub same_words : List ℕ → List ℕ → Bool
same_words ws vs =
    (slice_index ws 0 == slice_index vs 0) && (slice_index ws 1 == slice_index vs 1 && (slice_index ws 2 == slice_index vs 2 && slice_index ws 3 == slice_index vs 3))

-- r is the number of ones of every function that the words are, packed
unfoldable pub Counts : List ℕ → ℕ → Type 0
Counts ws r = (n : ℕ) → n ≤ 8 → Clean n ws → r ≡ ones n (unpacked n ws)
