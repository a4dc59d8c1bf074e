-- Basis indices. An index of n qubits is its list of n bits, qubit 0 first, and qubit 0 is the highest bit.
-- A list of 2^n elements stands in the order of its indices: first those whose qubit 0 is 0, then those whose qubit 0 is 1.
use Rattle.std.specs.Prelude.{◌≡◌, ℕ, zero, suc, ◌+◌, ◌/◌, ◌%◌, ◌^◌, ◌<◌, Bool, true, false, cond, ◌&&◌, List, [], ◌∷◌, ◌++◌, length, ◌==◌, ◌≢◌, slice_index_or, slice_set}
use Rattle.std.specs.Bool.{beq}

abbrev pub Index : Type 0
Index = List Bool

-- the index as a number
unfoldable pub number : Index → ℕ
number [] = 0
number (b ∷ x) = cond b (2 ^ length x) 0 + number x

-- the index of n qubits that has a number below 2^n
unfoldable pub bits : ℕ → ℕ → Index
bits zero i = []
bits (suc n) i = (i / 2 ^ n % 2 == 1) ∷ bits n i

-- f where qubit 0 is 0, and where it is 1, as functions of the other qubits
abbrev pub where_0 : {A : Type 0} → (Index → A) → Index → A
where_0 f x = f (false ∷ x)

abbrev pub where_1 : {A : Type 0} → (Index → A) → Index → A
where_1 f x = f (true ∷ x)

-- f at every index of n qubits, in their order: as a list, and as a sum
unfoldable pub listing : {A : Type 0} → ℕ → (Index → A) → List A
listing zero f = f [] ∷ []
listing (suc n) f = listing n (where_0 f) ++ listing n (where_1 f)

unfoldable pub total : {A : Type 0} → (A → A → A) → ℕ → (Index → A) → A
total add zero f = f []
total add (suc n) f = add (total add n (where_0 f)) (total add n (where_1 f))

-- the element of a list at an index; past the list's end it is `none`
unfoldable pub at_index : {A : Type 0} → A → List A → Index → A
at_index none v x = slice_index_or v (number x) none

-- the bit of qubit q, and the index with that bit set to b
abbrev pub bit : Index → ℕ → Bool
bit x q = slice_index_or x q false

abbrev pub with_bit : Index → ℕ → Bool → Index
with_bit x q b = slice_set x q b

-- the bits at the qubits named, and the index with a setting of these qubits
unfoldable pub bits_at : Index → List ℕ → List Bool
bits_at x [] = []
bits_at x (q ∷ qs) = bit x q ∷ bits_at x qs

unfoldable pub with_setting : Index → List ℕ → List Bool → Index
with_setting x [] s = x
with_setting x (q ∷ qs) [] = x
with_setting x (q ∷ qs) (b ∷ s) = with_setting (with_bit x q b) qs s

-- whether two indices are equal
unfoldable pub same_index : Index → Index → Bool
same_index [] [] = true
same_index [] (c ∷ y) = false
same_index (b ∷ x) [] = false
same_index (b ∷ x) (c ∷ y) = beq b c && same_index x y

-- the qubits named are qubits of a register of n
abbrev pub Below : ℕ → List ℕ → Type 0
Below n [] = Unit {0}
Below n (q ∷ qs) = (q < n) × Below n qs

abbrev pub NotAmong : ℕ → List ℕ → Type 0
NotAmong q [] = Unit {0}
NotAmong q (p ∷ qs) = (q ≢ p) × NotAmong q qs

-- no qubit is named twice
abbrev pub Apart : List ℕ → Type 0
Apart [] = Unit {0}
Apart (q ∷ qs) = NotAmong q qs × Apart qs

-- m different qubits of a register of n
pub record Placed (n m : ℕ) (qs : List ℕ) : Type 0 where
  pub as_many : length qs ≡ m
  pub below : Below n qs
  pub apart : Apart qs
