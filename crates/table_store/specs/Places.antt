-- Where a store of tables keeps what, among its words: first the mark of each place, 0 where it is free, then the words
-- of each place.
use Rattle.std.specs.Prelude.{ℕ, ◌+◌, ◌*◌, ◌/◌, ◌^◌, min, cond, List, [], ◌∷◌, map, Some, None, ◌==◌, nat_lt, slice_index}
use Rattle.std.specs.List.{range_with_len}
use Rattle.table_places.specs.Handles.{Content}

-- how many words the values of a function of n qubits take, 64 to a word
unfoldable pub width : ℕ → ℕ
width n = (2 ^ n + 63) / 64

-- how many functions of n qubits some words hold
unfoldable pub limit_of : ℕ → ℕ → ℕ
limit_of n words = min 4096 (words / (width n + 1))

-- word j of place p; there are four, and those past the width are 0
unfoldable pub word_at : ℕ → ℕ → List ℕ → ℕ → ℕ → ℕ
word_at n limit ws p j = cond (nat_lt j (width n)) (slice_index ws (limit + width n * p + j)) 0

unfoldable pub words_at : ℕ → ℕ → List ℕ → ℕ → List ℕ
words_at n limit ws p = word_at n limit ws p 0 ∷ word_at n limit ws p 1 ∷ word_at n limit ws p 2 ∷ word_at n limit ws p 3 ∷ []

-- what place p holds
unfoldable pub content : ℕ → ℕ → List ℕ → ℕ → Content
content n limit ws p = cond (slice_index ws p == 0) None (Some (words_at n limit ws p))

-- what all places hold, in their order
unfoldable pub contents : ℕ → ℕ → List ℕ → List Content
contents n limit ws = map (content n limit ws) (range_with_len 0 limit)
