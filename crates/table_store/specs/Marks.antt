-- The marks of functions.
use Rattle.std.specs.Prelude.{ℕ, ◌*◌, ◌%◌, ◌^◌, List, bit_or, bit_xor, slice_index}

-- a word mixed into a mark
unfoldable pub mixed : ℕ → ℕ → ℕ
mixed mark word = (bit_xor mark word * 11400714819323198485) % 2 ^ 64

-- The mark of four words: a number made of them that is never 0.
unfoldable pub mark_of : List ℕ → ℕ
mark_of ws = bit_or (mixed (mixed (mixed (mixed 0 (slice_index ws 0)) (slice_index ws 1)) (slice_index ws 2)) (slice_index ws 3)) 1
