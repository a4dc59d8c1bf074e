-- Boolean functions of n qubits as truth tables: the values at all indices, in the order of the indices.
use Rattle.std.specs.Prelude.{ℕ, ◌+◌, ◌*◌, ◌/◌, ◌%◌, ◌^◌, Bool, false, cond, not, ◌&&◌, ◌||◌, List, ◌==◌}
use Rattle.exact.specs.Indices.{Index, listing, total, at_index, bit, with_bit}

abbrev pub Table : Type 0
Table = List Bool

-- the value at an index
abbrev pub value_at : Table → Index → Bool
value_at f x = at_index false f x

-- the function that has the value b everywhere
unfoldable pub constant : ℕ → Bool → Table
constant n b = listing n (λ x. b)

-- the function that is qubit q's bit
unfoldable pub literal : ℕ → ℕ → Table
literal n q = listing n (λ x. bit x q)

-- f with qubit q set to b
unfoldable pub fixed : ℕ → Table → ℕ → Bool → Table
fixed n f q b = listing n (λ x. value_at f (with_bit x q b))

-- a bit as a number
abbrev pub digit : Bool → ℕ
digit b = cond b 1 0

-- bit number 4a + 2b + c of an 8-bit rule
unfoldable pub ruled : ℕ → Bool → Bool → Bool → Bool
ruled rule a b c = rule / 2 ^ (4 * digit a + 2 * digit b + digit c) % 2 == 1

-- f, g and h combined by a rule at every index
unfoldable pub combined : ℕ → ℕ → Table → Table → Table → Table
combined n rule f g h = listing n (λ x. ruled rule (value_at f x) (value_at g x) (value_at h x))

-- the number of indices of n qubits that a predicate holds of
unfoldable pub count_where : ℕ → (Index → Bool) → ℕ
count_where n p = total ◌+◌ n (λ x. digit (p x))

-- the number of indices where f is 1
unfoldable pub ones : ℕ → Table → ℕ
ones n f = count_where n (value_at f)

-- whether exactly one of two bits is 1
abbrev pub differ : Bool → Bool → Bool
differ a b = cond a (not b) b

-- the combinations whose rules have names: f chooses g, else h (rule 202, CHOICE); the odd sum of three (150, PARITY); the carry
-- of three, at least two of them (232, MAJORITY); all three (128, CONJUNCTION)
unfoldable pub choice : ℕ → Table → Table → Table → Table
choice n f g h = listing n (λ x. cond (value_at f x) (value_at g x) (value_at h x))

unfoldable pub parity : ℕ → Table → Table → Table → Table
parity n f g h = listing n (λ x. differ (value_at f x) (differ (value_at g x) (value_at h x)))

unfoldable pub majority : ℕ → Table → Table → Table → Table
majority n f g h = listing n (λ x. cond (value_at f x) (value_at g x || value_at h x) (value_at g x && value_at h x))

unfoldable pub conjunction : ℕ → Table → Table → Table → Table
conjunction n f g h = listing n (λ x. value_at f x && (value_at g x && value_at h x))
