-- Two's complement: integers as lists of bits, the lowest first. Bit j counts 2^j, and the top bit counts negative.
use Rattle.std.specs.Prelude.{ℕ, zero, suc, ◌^◌, Bool, true, false, cond, List, [], ◌∷◌, ℤ, pos, negsuc, ◌+ℤ◌, ◌*ℤ◌, neg_ℤ, ◌==◌}
use Rattle.exact.specs.Quadruples.{half, odd}
use Rattle.functions.specs.Tables.{digit}

-- the sum over all places j of 2^j times the number that f gives to what stands there; the top place counts negative
unfoldable pub signed_sum : {X : Type 0} → (X → ℤ) → List X → ℤ
signed_sum f [] = pos 0
signed_sum f (s ∷ []) = neg_ℤ (f s)
signed_sum f (s ∷ t ∷ rest) = f s +ℤ pos 2 *ℤ signed_sum f (t ∷ rest)

abbrev pub bit_number : Bool → ℤ
bit_number b = pos (digit b)

-- the integer of a list of bits
unfoldable pub signed_number : List Bool → ℤ
signed_number bs = signed_sum bit_number bs

abbrev pub negative : ℤ → Bool
negative (pos n) = false
negative (negsuc n) = true

-- the w bits of an integer: the top one is its sign
unfoldable pub signed_bits : ℕ → ℤ → List Bool
signed_bits zero z = []
signed_bits (suc zero) z = negative z ∷ []
signed_bits (suc (suc w)) z = odd z ∷ signed_bits (suc w) (half z)

-- whether place j is the top one of w places, and what place j counts: 2^j, the top one negative
abbrev pub top : ℕ → ℕ → Bool
top w j = suc j == w

unfoldable pub place : ℕ → ℕ → ℤ
place w j = cond (top w j) (neg_ℤ (pos (2 ^ j))) (pos (2 ^ j))

-- the last element once more: for the bits of an integer, its sign at one place more
unfoldable pub repeated : {X : Type 0} → List X → List X
repeated [] = []
repeated (x ∷ []) = x ∷ x ∷ []
repeated (x ∷ y ∷ rest) = x ∷ repeated (y ∷ rest)
