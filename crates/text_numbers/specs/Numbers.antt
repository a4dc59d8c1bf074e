-- Whole numbers and basis indices, and the words that write them.
use Rattle.std.specs.Prelude.{◌≡◌, ℕ, ◌+◌, ◌-◌, ◌*◌, ◌<◌, Bool, true, cond, not, ◌&&◌, List, [], ◌∷◌, map, length, Some, None, decimal, Option, ◌==◌, ◌≢◌, nat_eq, nat_le, nat_lt, slice_index}
use Rattle.exact.specs.Indices.{Index, number}

-- a number of at most five digits
abbrev pub Small : ℕ → Type 0
Small n = n < 100000

-- what reading a word as a number says of it: it is the decimal of that number, or of none of at most five digits
abbrev pub ReadsNumber : List ℕ → Option ℕ → Type 0
ReadsNumber w (Some n) = Small n × (w ≡ decimal n)
ReadsNumber w None = (n : ℕ) → Small n → w ≢ decimal n

-- the same by its digits
abbrev pub digit : ℕ → Bool
digit b = nat_le 48 b && nat_le b 57

unfoldable pub digits_value : ℕ → List ℕ → Option ℕ
digits_value n [] = Some n
digits_value n (b ∷ bs) = cond (digit b) (digits_value (10 * n + (b - 48)) bs) None

abbrev pub well_formed : List ℕ → Bool
well_formed w = (nat_lt 0 (length w) && nat_le (length w) 5) && not (slice_index w 0 == 48 && nat_lt 1 (length w))

abbrev pub number_of : List ℕ → Option ℕ
number_of w = cond (well_formed w) (digits_value 0 w) None

-- a basis index is written in a bit for each qubit, qubit 0 first
abbrev pub bit_byte : Bool → ℕ
bit_byte b = cond b 49 48

unfoldable pub index_word : Index → List ℕ
index_word bits = map bit_byte bits

-- what reading a word as a basis index of n qubits says of it
abbrev pub ReadsIndex : ℕ → List ℕ → Option ℕ → Type 0
ReadsIndex n w (Some i) = (bits : Index) × ((length bits ≡ n) × (w ≡ index_word bits) × (i ≡ number bits))
ReadsIndex n w None = (bits : Index) → length bits ≡ n → w ≢ index_word bits

-- the same by its bytes
unfoldable pub all_bits : List ℕ → Bool
all_bits [] = true
all_bits (b ∷ bs) = (nat_le 48 b && nat_le b 49) && all_bits bs

abbrev pub is_index : ℕ → List ℕ → Bool
is_index n w = length w == n && all_bits w

unfoldable pub bits_of : List ℕ → Index
bits_of w = map (λ b. nat_eq b 49) w

abbrev pub index_of : ℕ → List ℕ → Option ℕ
index_of n w = cond (is_index n w) (Some (number (bits_of w))) None
