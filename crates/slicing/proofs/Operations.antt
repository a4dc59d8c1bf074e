-- Operations on columns, at each index.
use Rattle.std.proofs.Common.{◌≡◌, ℕ, zero, suc, ◌<◌, Bool, true, false, cond, not, ◌&&◌, ◌||◌, List, [], ◌∷◌, map, length, replicate, ℤ, pos, ◌+ℤ◌, ◌*ℤ◌, sym, refl, ap, ◌∙◌, ap₂, arith}
use Rattle.std.proofs.Math.Bool.{and-true}
use lib.ListN.{length-map, length-replicate}
use Rattle.exact.specs.Indices.{Index, bit, with_bit}
use Rattle.exact.proofs.Listings.{length_listing, listing_same, at_listing}
use Rattle.functions.specs.Tables.{Table, value_at, constant, literal, fixed, combined, differ, choice, parity, majority, conjunction}
use Rattle.functions.proofs.Values.{length_constant, length_fixed, constant_at, literal_at, fixed_at}
use Rattle.functions.proofs.NamedRules.{combined_150, combined_128}
use Rattle.adder.specs.Slices.{turned, slice_sum, next_carry}
use Rattle.slicing.specs.TwosComplement.{signed_sum, signed_number, repeated}
use Rattle.slicing.specs.Columns.{Column, bits_of, integer_at, AllFunctions}
use Rattle.slicing.specs.Operations.{negation, both, zero_column, fixed_column, chosen_column, flipped_column, sums_from, added}
use Rattle.slicing.proofs.SignedNumbers.{number_repeated}
use Rattle.slicing.proofs.BitSums.{sum_bit, carry_bit, added_bits, joined, added_exactly}
use Rattle.slicing.proofs.Columns.{length_bits_of, functions_map}

cons_path : {X : Type 0} {a b : X} {s t : List X} → a ≡ b → s ≡ t → a ∷ s ≡ b ∷ t
cons_path {X = X} e f = ap₂ (λ (u : X) (l : List X). u ∷ l) e f

-- ---- single functions
pub negation_at : (n : ℕ) (f : Table) (y : Index) → length y ≡ n → value_at (negation n f) y ≡ not (value_at f y)
unfolding negation
negation_at n f y e = at_listing false n (λ z. not (value_at f z)) y e

pub both_at : (n : ℕ) (f g : Table) (y : Index) → length y ≡ n → value_at (both n f g) y ≡ (value_at f y && value_at g y)
unfolding both
both_at n f g y e = at_listing false n (λ z. value_at f z && value_at g z) y e

pub choice_at : (n : ℕ) (f g h : Table) (y : Index) → length y ≡ n → value_at (choice n f g h) y ≡ cond (value_at f y) (value_at g y) (value_at h y)
unfolding choice
choice_at n f g h y e = at_listing false n (λ z. cond (value_at f z) (value_at g z) (value_at h z)) y e

pub turned_at : (n : ℕ) (q e : Table) (y : Index) → length y ≡ n → value_at (turned n q e) y ≡ differ (value_at q y) (value_at e y)
unfolding turned
turned_at n q e y l = at_listing false n (λ z. differ (value_at q z) (value_at e z)) y l

-- the rules by which a negation and a product of two are made
pub negation_rule : (n : ℕ) (f : Table) → combined n 150 f (constant n true) (constant n false) ≡ negation n f
unfolding parity negation
negation_rule n f =
    combined_150 n f (constant n true) (constant n false)
    ∙ listing_same n _ _ (λ y e. ap₂ (λ (s t : Bool). differ (value_at f y) (differ s t)) (constant_at n true y e) (constant_at n false y e) ∙ one (value_at f y))
  where
    one : (b : Bool) → differ b (differ true false) ≡ not b
    one true = refl
    one false = refl

pub both_rule : (n : ℕ) (f g : Table) → combined n 128 f g (constant n true) ≡ both n f g
unfolding conjunction both
both_rule n f g =
    combined_128 n f g (constant n true)
    ∙ listing_same n _ _ (λ y e. ap (λ (b : Bool). value_at f y && (value_at g y && b)) (constant_at n true y e) ∙ ap (λ (b : Bool). value_at f y && b) (and-true (value_at g y)))

-- ---- the top slice once more
map_repeated : {X Y : Type 0} (f : X → Y) (l : List X) → map f (repeated l) ≡ repeated (map f l)
unfolding repeated
map_repeated f [] = refl
map_repeated f (x ∷ []) = refl
map_repeated f (x ∷ y ∷ l) = ap (λ (t : List _). f x ∷ t) (map_repeated f (y ∷ l))

pub bits_repeated : (ss : Column) (y : Index) → bits_of (repeated ss) y ≡ repeated (bits_of ss y)
unfolding bits_of
bits_repeated ss y = map_repeated (λ (f : Table). value_at f y) ss

pub integer_repeated : (ss : Column) (y : Index) → integer_at (repeated ss) y ≡ integer_at ss y
unfolding integer_at
integer_repeated ss y = ap signed_number (bits_repeated ss y) ∙ number_repeated (bits_of ss y)

pub functions_repeated : (n : ℕ) (ss : Column) → AllFunctions n ss → AllFunctions n (repeated ss)
unfolding repeated
functions_repeated n [] h = tt
functions_repeated n (f ∷ []) h = (h.0, (h.0, tt))
functions_repeated n (f ∷ g ∷ ss) h = (h.0, functions_repeated n (g ∷ ss) h.1)

-- ---- zeros
zeros_replicated : (n w : ℕ) (y : Index) → length y ≡ n → bits_of (replicate w (constant n false)) y ≡ replicate w false
unfolding bits_of
zeros_replicated n zero y e = refl
zeros_replicated n (suc w) y e = cons_path (constant_at n false y e) (zeros_replicated n w y e)

number_zeros : (w : ℕ) → signed_number (replicate w false) ≡ pos 0
unfolding signed_number signed_sum
number_zeros zero = refl
number_zeros (suc zero) = refl
number_zeros (suc (suc w)) = ap (λ (z : ℤ). pos 0 +ℤ pos 2 *ℤ z) (number_zeros (suc w))

pub integer_zero : (n w : ℕ) (y : Index) → length y ≡ n → integer_at (zero_column n w) y ≡ pos 0
unfolding integer_at zero_column
integer_zero n w y e = ap signed_number (zeros_replicated n w y e) ∙ number_zeros w

pub length_zero : (n w : ℕ) → length (zero_column n w) ≡ w
unfolding zero_column
length_zero n w = length-replicate w (constant n false)

functions_replicated : (n w : ℕ) → AllFunctions n (replicate w (constant n false))
functions_replicated n zero = tt
functions_replicated n (suc w) = (length_constant n false, functions_replicated n w)

pub functions_zero : (n w : ℕ) → AllFunctions n (zero_column n w)
unfolding zero_column
functions_zero n w = functions_replicated n w

pub repeated_zero : (n w : ℕ) → 0 < w → repeated (zero_column n w) ≡ zero_column n (suc w)
unfolding repeated zero_column
repeated_zero n zero h = absurd (let b : ⊥ = omega arith in b)
repeated_zero n (suc zero) h = refl
repeated_zero n (suc (suc w)) h = ap (λ (l : Column). constant n false ∷ l) (repeated_zero n (suc w) (omega arith))

-- ---- fixed
pub bits_fixed : (n q : ℕ) (b : Bool) (ss : Column) (y : Index) → length y ≡ n → bits_of (fixed_column n q b ss) y ≡ bits_of ss (with_bit y q b)
unfolding bits_of fixed_column
bits_fixed n q b [] y e = refl
bits_fixed n q b (f ∷ ss) y e = cons_path (fixed_at n f q b y e) (bits_fixed n q b ss y e)

pub integer_fixed : (n q : ℕ) (b : Bool) (ss : Column) (y : Index) → length y ≡ n → integer_at (fixed_column n q b ss) y ≡ integer_at ss (with_bit y q b)
unfolding integer_at
integer_fixed n q b ss y e = ap signed_number (bits_fixed n q b ss y e)

pub length_fixed_column : (n q : ℕ) (b : Bool) (ss : Column) → length (fixed_column n q b ss) ≡ length ss
unfolding fixed_column
length_fixed_column n q b ss = length-map ss (λ (f : Table). fixed n f q b)

pub functions_fixed : (n q : ℕ) (b : Bool) (ss : Column) → AllFunctions n (fixed_column n q b ss)
unfolding fixed_column
functions_fixed n q b ss = functions_map n (λ (f : Table). fixed n f q b) (λ f. length_fixed n f q b) ss

pub repeated_fixed : (n q : ℕ) (b : Bool) (ss : Column) → fixed_column n q b (repeated ss) ≡ repeated (fixed_column n q b ss)
unfolding fixed_column
repeated_fixed n q b ss = map_repeated (λ (f : Table). fixed n f q b) ss

-- ---- chosen
cond_cons : (f p q : Bool) (ps qs : List Bool) → cond f p q ∷ cond f ps qs ≡ cond f (p ∷ ps) (q ∷ qs)
cond_cons true p q ps qs = refl
cond_cons false p q ps qs = refl

pub cond_same : {X : Type 0} (b : Bool) (x : X) → cond b x x ≡ x
cond_same true x = refl
cond_same false x = refl

pub cond_map : {X Y : Type 0} (f : X → Y) (b : Bool) (x y : X) → f (cond b x y) ≡ cond b (f x) (f y)
cond_map f true x y = refl
cond_map f false x y = refl

pub bits_chosen : (n : ℕ) (f : Table) (ps qs : Column) (y : Index) → length y ≡ n → length ps ≡ length qs → bits_of (chosen_column n f ps qs) y ≡ cond (value_at f y) (bits_of ps y) (bits_of qs y)
unfolding bits_of chosen_column
bits_chosen n f [] [] y e l = sym (cond_same (value_at f y) [])
bits_chosen n f [] (q ∷ qs) y e l = absurd (let b : ⊥ = omega arith in b)
bits_chosen n f (p ∷ ps) [] y e l = absurd (let b : ⊥ = omega arith in b)
bits_chosen n f (p ∷ ps) (q ∷ qs) y e l =
    cons_path (choice_at n f p q y e) (bits_chosen n f ps qs y e (omega arith))
    ∙ cond_cons (value_at f y) (value_at p y) (value_at q y) (bits_of ps y) (bits_of qs y)

pub integer_chosen : (n : ℕ) (f : Table) (ps qs : Column) (y : Index) → length y ≡ n → length ps ≡ length qs → integer_at (chosen_column n f ps qs) y ≡ cond (value_at f y) (integer_at ps y) (integer_at qs y)
unfolding integer_at
integer_chosen n f ps qs y e l = ap signed_number (bits_chosen n f ps qs y e l) ∙ cond_map signed_number (value_at f y) (bits_of ps y) (bits_of qs y)

pub length_chosen : (n : ℕ) (f : Table) (ps qs : Column) → length ps ≡ length qs → length (chosen_column n f ps qs) ≡ length ps
unfolding chosen_column
length_chosen n f [] qs l = refl
length_chosen n f (p ∷ ps) [] l = absurd (let b : ⊥ = omega arith in b)
length_chosen n f (p ∷ ps) (q ∷ qs) l = ap suc (length_chosen n f ps qs (omega arith))

pub functions_chosen : (n : ℕ) (f : Table) (ps qs : Column) → AllFunctions n (chosen_column n f ps qs)
unfolding chosen_column choice
functions_chosen n f [] qs = tt
functions_chosen n f (p ∷ ps) [] = tt
functions_chosen n f (p ∷ ps) (q ∷ qs) = (length_listing n _, functions_chosen n f ps qs)

pub repeated_chosen : (n : ℕ) (f : Table) (ps qs : Column) → length ps ≡ length qs → chosen_column n f (repeated ps) (repeated qs) ≡ repeated (chosen_column n f ps qs)
unfolding chosen_column repeated
repeated_chosen n f [] [] l = refl
repeated_chosen n f [] (q ∷ qs) l = absurd (let b : ⊥ = omega arith in b)
repeated_chosen n f (p ∷ ps) [] l = absurd (let b : ⊥ = omega arith in b)
repeated_chosen n f (p ∷ []) (q ∷ []) l = refl
repeated_chosen n f (p ∷ []) (q ∷ s ∷ qs) l = absurd (let b : ⊥ = omega arith in b)
repeated_chosen n f (p ∷ r ∷ ps) (q ∷ []) l = absurd (let b : ⊥ = omega arith in b)
repeated_chosen n f (p ∷ r ∷ ps) (q ∷ s ∷ qs) l = ap (λ (ss : Column). choice n f p q ∷ ss) (repeated_chosen n f (r ∷ ps) (s ∷ qs) (omega arith))

-- ---- flipped
same_lengths : (n q : ℕ) (ss : Column) → length (fixed_column n q false ss) ≡ length (fixed_column n q true ss)
same_lengths n q ss = length_fixed_column n q false ss ∙ sym (length_fixed_column n q true ss)

pub integer_flipped : (n q : ℕ) (ss : Column) (y : Index) → length y ≡ n → integer_at (flipped_column n q ss) y ≡ integer_at ss (with_bit y q (not (bit y q)))
unfolding flipped_column
integer_flipped n q ss y e =
    integer_chosen n (literal n q) (fixed_column n q false ss) (fixed_column n q true ss) y e (same_lengths n q ss)
    ∙ ap₂ (λ (a b : ℤ). cond (value_at (literal n q) y) a b) (integer_fixed n q false ss y e) (integer_fixed n q true ss y e)
    ∙ ap (λ (b : Bool). cond b (integer_at ss (with_bit y q false)) (integer_at ss (with_bit y q true))) (literal_at n q y e)
    ∙ either (bit y q)
  where
    either : (b : Bool) → cond b (integer_at ss (with_bit y q false)) (integer_at ss (with_bit y q true)) ≡ integer_at ss (with_bit y q (not b))
    either true = refl
    either false = refl

pub length_flipped : (n q : ℕ) (ss : Column) → length (flipped_column n q ss) ≡ length ss
unfolding flipped_column
length_flipped n q ss = length_chosen n (literal n q) (fixed_column n q false ss) (fixed_column n q true ss) (same_lengths n q ss) ∙ length_fixed_column n q false ss

pub repeated_flipped : (n q : ℕ) (ss : Column) → flipped_column n q (repeated ss) ≡ repeated (flipped_column n q ss)
unfolding flipped_column
repeated_flipped n q ss =
    ap₂ (chosen_column n (literal n q)) (repeated_fixed n q false ss) (repeated_fixed n q true ss)
    ∙ repeated_chosen n (literal n q) (fixed_column n q false ss) (fixed_column n q true ss) (same_lengths n q ss)

pub functions_flipped : (n q : ℕ) (ss : Column) → AllFunctions n (flipped_column n q ss)
unfolding flipped_column
functions_flipped n q ss = functions_chosen n (literal n q) (fixed_column n q false ss) (fixed_column n q true ss)

-- ---- added
module _ (n : ℕ) (y : Index) (l : length y ≡ n) (p q e c : Table) where
  sum_at : value_at (slice_sum n p q e c) y ≡ sum_bit (value_at p y) (differ (value_at q y) (value_at e y)) (value_at c y)
  unfolding slice_sum parity
  sum_at = at_listing false n _ y l ∙ ap (λ (d : Bool). differ (value_at p y) (differ d (value_at c y))) (turned_at n q e y l)

  carry_at : value_at (next_carry n p q e c) y ≡ carry_bit (value_at p y) (differ (value_at q y) (value_at e y)) (value_at c y)
  unfolding next_carry majority
  carry_at = at_listing false n _ y l ∙ ap (λ (d : Bool). cond (value_at p y) (d || value_at c y) (d && value_at c y)) (turned_at n q e y l)

pub bits_sums : (n : ℕ) (y : Index) → length y ≡ n → (e c : Table) (ps qs : Column) → bits_of (sums_from n e c ps qs) y ≡ added_bits (value_at e y) (value_at c y) (bits_of ps y) (bits_of qs y)
unfolding bits_of sums_from added_bits
bits_sums n y l e c [] qs = refl
bits_sums n y l e c (p ∷ ps) [] = refl
bits_sums n y l e c (p ∷ ps) (q ∷ qs) =
    cons_path (sum_at n y l p q e c)
    (bits_sums n y l e (next_carry n p q e c) ps qs ∙ ap (λ (b : Bool). added_bits (value_at e y) b (bits_of ps y) (bits_of qs y)) (carry_at n y l p q e c))

pub integer_added : (n : ℕ) (e : Table) (ps qs : Column) (y : Index) → length y ≡ n → 0 < length ps → length ps ≡ length qs
    → integer_at (added n e (repeated ps) (repeated qs)) y ≡ joined (value_at e y) (integer_at ps y) (integer_at qs y)
unfolding integer_at added
integer_added n e ps qs y l h m =
    ap signed_number (bits_sums n y l e e (repeated ps) (repeated qs)
    ∙ ap₂ (added_bits (value_at e y) (value_at e y)) (bits_repeated ps y) (bits_repeated qs y))
    ∙ added_exactly (value_at e y) (bits_of ps y) (bits_of qs y) (omega (arith, length_bits_of ps y)) (length_bits_of ps y ∙ m ∙ sym (length_bits_of qs y))

length_sums : (n : ℕ) (e c : Table) (ps qs : Column) → length ps ≡ length qs → length (sums_from n e c ps qs) ≡ length ps
unfolding sums_from
length_sums n e c [] qs l = refl
length_sums n e c (p ∷ ps) [] l = absurd (let b : ⊥ = omega arith in b)
length_sums n e c (p ∷ ps) (q ∷ qs) l = ap suc (length_sums n e (next_carry n p q e c) ps qs (omega arith))

pub length_added : (n : ℕ) (e : Table) (ps qs : Column) → length ps ≡ length qs → length (added n e ps qs) ≡ length ps
unfolding added
length_added n e ps qs l = length_sums n e e ps qs l

functions_sums : (n : ℕ) (e c : Table) (ps qs : Column) → AllFunctions n (sums_from n e c ps qs)
unfolding sums_from slice_sum parity
functions_sums n e c [] qs = tt
functions_sums n e c (p ∷ ps) [] = tt
functions_sums n e c (p ∷ ps) (q ∷ qs) = (length_listing n _, functions_sums n e (next_carry n p q e c) ps qs)

pub functions_added : (n : ℕ) (e : Table) (ps qs : Column) → AllFunctions n (added n e ps qs)
unfolding added
functions_added n e ps qs = functions_sums n e e ps qs
