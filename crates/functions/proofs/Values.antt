-- The values of functions at indices, and functions with the same values.
use Rattle.std.proofs.Common.{◌≡◌, ℕ, ◌^◌, Bool, false, length, sym, ◌∙◌}
use Rattle.exact.specs.Indices.{Index, bit, with_bit, at_index}
use Rattle.exact.proofs.Listings.{length_listing, listing_same, at_listing, listing_own}
use Rattle.functions.specs.Tables.{Table, value_at, constant, literal, fixed, ruled, combined}

-- functions of n qubits that have the same value at every index are equal
pub same_values : (n : ℕ) (f g : Table) → length f ≡ 2 ^ n → length g ≡ 2 ^ n → ((x : Index) → length x ≡ n → value_at f x ≡ value_at g x) → f ≡ g
same_values n f g l m h = sym (listing_own false n f l) ∙ listing_same n (at_index false f) (at_index false g) h ∙ listing_own false n g m

pub length_constant : (n : ℕ) (b : Bool) → length (constant n b) ≡ 2 ^ n
unfolding constant
length_constant n b = length_listing n (λ x. b)

pub length_literal : (n q : ℕ) → length (literal n q) ≡ 2 ^ n
unfolding literal
length_literal n q = length_listing n (λ x. bit x q)

pub length_fixed : (n : ℕ) (f : Table) (q : ℕ) (b : Bool) → length (fixed n f q b) ≡ 2 ^ n
unfolding fixed
length_fixed n f q b = length_listing n (λ x. value_at f (with_bit x q b))

pub length_combined : (n rule : ℕ) (f g h : Table) → length (combined n rule f g h) ≡ 2 ^ n
unfolding combined
length_combined n rule f g h = length_listing n (λ x. ruled rule (value_at f x) (value_at g x) (value_at h x))

pub constant_at : (n : ℕ) (b : Bool) (x : Index) → length x ≡ n → value_at (constant n b) x ≡ b
unfolding constant
constant_at n b x l = at_listing false n (λ y. b) x l

pub literal_at : (n q : ℕ) (x : Index) → length x ≡ n → value_at (literal n q) x ≡ bit x q
unfolding literal
literal_at n q x l = at_listing false n (λ y. bit y q) x l

pub fixed_at : (n : ℕ) (f : Table) (q : ℕ) (b : Bool) (x : Index) → length x ≡ n → value_at (fixed n f q b) x ≡ value_at f (with_bit x q b)
unfolding fixed
fixed_at n f q b x l = at_listing false n (λ y. value_at f (with_bit y q b)) x l

pub combined_at : (n rule : ℕ) (f g h : Table) (x : Index) → length x ≡ n → value_at (combined n rule f g h) x ≡ ruled rule (value_at f x) (value_at g x) (value_at h x)
unfolding combined
combined_at n rule f g h x l = at_listing false n (λ y. ruled rule (value_at f y) (value_at g y) (value_at h y)) x l
