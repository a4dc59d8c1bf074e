-- Integers and their bits in two's complement, one the inverse of the other.
use Rattle.std.proofs.Common.{◌≡◌, ℕ, zero, suc, ◌+◌, ◌-◌, ◌*◌, ◌/◌, ◌%◌, ◌^◌, ◌<◌, ◌≤◌, Bool, true, false, List, [], ◌∷◌, length, ℤ, pos, negsuc, ◌+ℤ◌, ◌*ℤ◌, sym, refl, ap, ◌∙◌, subst, ap₂, ⊎_elim, arith}
use lib.Signed.{mag}
use Rattle.std.proofs.lemmas.Int.{ints}
use Rattle.std.proofs.lemmas.Bool.{cases_eq, eq-eqb, ne_eqb}
use Rattle.exact.specs.Quadruples.{half, odd}
use Rattle.exact.specs.States.{EntryFits, width_of}
use Rattle.exact.proofs.Integers.{range_from, range_to}
use Rattle.exact.proofs.Widths.{entry_fits, entry_least}
use Rattle.slicing.specs.TwosComplement.{signed_sum, bit_number, signed_number, signed_bits, repeated}

-- ---- places
-- one place more at the low end
pub sum_more : {X : Type 0} (f : X → ℤ) (s : X) (l : List X) → 0 < length l → signed_sum f (s ∷ l) ≡ f s +ℤ pos 2 *ℤ signed_sum f l
unfolding signed_sum
sum_more f s [] h = absurd (let b : ⊥ = omega arith in b)
sum_more f s (x ∷ l) h = refl

length_repeated_more : {X : Type 0} (x : X) (l : List X) → length (repeated (x ∷ l)) ≡ suc (suc (length l))
unfolding repeated
length_repeated_more x [] = refl
length_repeated_more x (y ∷ l) = ap suc (length_repeated_more y l)

pub length_repeated : {X : Type 0} (l : List X) → 0 < length l → length (repeated l) ≡ suc (length l)
length_repeated [] h = absurd (let b : ⊥ = omega arith in b)
length_repeated (x ∷ l) h = length_repeated_more x l

-- the sign at one place more changes nothing
pub number_repeated : (bs : List Bool) → signed_number (repeated bs) ≡ signed_number bs
unfolding signed_number signed_sum repeated
number_repeated [] = refl
number_repeated (true ∷ []) = refl
number_repeated (false ∷ []) = refl
number_repeated (b ∷ c ∷ bs) =
    sum_more bit_number b (repeated (c ∷ bs)) (omega (arith, length_repeated_more c bs))
    ∙ ap (λ (z : ℤ). bit_number b +ℤ pos 2 *ℤ z) (number_repeated (c ∷ bs))

-- ---- halves
abbrev missing : Bool → ℕ
missing true = 0
missing false = 1

-- a bit more at the low end of a negative number
below_more : (s : Bool) (n : ℕ) → bit_number s +ℤ pos 2 *ℤ negsuc n ≡ negsuc (2 * n + missing s)
below_more true n = omega (arith, ints)
below_more false n = omega (arith, ints)

pub half_more : (s : Bool) (z : ℤ) → half (bit_number s +ℤ pos 2 *ℤ z) ≡ z
half_more true (pos n) = ap pos (omega arith)
half_more false (pos n) = ap pos (omega arith)
half_more true (negsuc n) = ap half (below_more true n) ∙ ap negsuc (omega arith)
half_more false (negsuc n) = ap half (below_more false n) ∙ ap negsuc (omega arith)

pub odd_more : (s : Bool) (z : ℤ) → odd (bit_number s +ℤ pos 2 *ℤ z) ≡ s
odd_more true (pos n) = eq-eqb _ _ (omega arith)
odd_more false (pos n) = ne_eqb _ _ (omega arith)
odd_more true (negsuc n) = ap odd (below_more true n) ∙ eq-eqb _ _ (omega arith)
odd_more false (negsuc n) = ap odd (below_more false n) ∙ ne_eqb _ _ (omega arith)

pub halved : (z : ℤ) → bit_number (odd z) +ℤ pos 2 *ℤ half z ≡ z
halved (pos n) = ⊎_elim
    (λ (e : n % 2 ≡ 1). ap (λ (b : Bool). bit_number b +ℤ pos (2 * (n / 2))) (eq-eqb (n % 2) 1 e) ∙ ap pos (omega arith))
    (λ (e : n % 2 ≡ 1 → ⊥). ap (λ (b : Bool). bit_number b +ℤ pos (2 * (n / 2))) (ne_eqb (n % 2) 1 e) ∙ ap pos (omega arith))
    (cases_eq (n % 2) 1)
halved (negsuc n) = ⊎_elim
    (λ (e : suc n % 2 ≡ 1). ap (λ (b : Bool). bit_number b +ℤ pos 2 *ℤ negsuc (n / 2)) (eq-eqb (suc n % 2) 1 e) ∙ below_more true (n / 2) ∙ ap negsuc (omega arith))
    (λ (e : suc n % 2 ≡ 1 → ⊥). ap (λ (b : Bool). bit_number b +ℤ pos 2 *ℤ negsuc (n / 2)) (ne_eqb (suc n % 2) 1 e) ∙ below_more false (n / 2) ∙ ap negsuc (omega arith))
    (cases_eq (suc n % 2) 1)

mag_half : (z : ℤ) → mag (half z) ≡ mag z / 2
mag_half (pos n) = refl
mag_half (negsuc n) = refl

pub mag_more : (s : Bool) (z : ℤ) → mag (bit_number s +ℤ pos 2 *ℤ z) / 2 ≡ mag z
mag_more true (pos n) = omega arith
mag_more false (pos n) = omega arith
mag_more true (negsuc n) = ap (λ (x : ℤ). mag x / 2) (below_more true n) ∙ (omega arith)
mag_more false (negsuc n) = ap (λ (x : ℤ). mag x / 2) (below_more false n) ∙ (omega arith)

-- ---- what fits
one_less : (w : ℕ) → suc w - 1 ≡ w
one_less w = omega arith

pub fits_out : (w : ℕ) (z : ℤ) → EntryFits (suc w) z → mag z < 2 ^ w
fits_out w z f = subst (λ (k : ℕ). mag z < 2 ^ k) (one_less w) (range_to z (2 ^ (suc w - 1)) f.not_below f.below)

pub fits_in : (w : ℕ) (z : ℤ) → mag z < 2 ^ w → EntryFits (suc w) z
fits_in w z h = let r = range_from z (2 ^ (suc w - 1)) (subst (λ (k : ℕ). mag z < 2 ^ k) (sym (one_less w)) h) in record { not_below = r.0; below = r.1 }

fits_half : (w : ℕ) (z : ℤ) → EntryFits (suc (suc w)) z → EntryFits (suc w) (half z)
fits_half w z f = let g : mag z < 2 ^ suc w = fits_out (suc w) z f in fits_in w (half z) (omega (arith, mag_half z))

-- ---- bits and numbers
pub length_signed_bits : (w : ℕ) (z : ℤ) → length (signed_bits w z) ≡ w
unfolding signed_bits
length_signed_bits zero z = refl
length_signed_bits (suc zero) z = refl
length_signed_bits (suc (suc w)) z = ap suc (length_signed_bits (suc w) (half z))

pub number_of_bits : (w : ℕ) (z : ℤ) → 1 ≤ w → EntryFits w z → signed_number (signed_bits w z) ≡ z
unfolding signed_number signed_bits signed_sum
number_of_bits zero z h f = absurd (let b : ⊥ = omega arith in b)
number_of_bits (suc zero) (pos n) h f = ap pos (omega (arith, fits_out 0 (pos n) f))
number_of_bits (suc zero) (negsuc n) h f = ap negsuc (omega (arith, fits_out 0 (negsuc n) f))
number_of_bits (suc (suc w)) z h f =
    sum_more bit_number (odd z) (signed_bits (suc w) (half z)) (omega (arith, length_signed_bits (suc w) (half z)))
    ∙ ap (λ (x : ℤ). bit_number (odd z) +ℤ pos 2 *ℤ x) (number_of_bits (suc w) (half z) (omega arith) (fits_half w z f))
    ∙ halved z

pub bits_of_number : (bs : List Bool) → signed_bits (length bs) (signed_number bs) ≡ bs
unfolding signed_number signed_bits signed_sum
bits_of_number [] = refl
bits_of_number (true ∷ []) = refl
bits_of_number (false ∷ []) = refl
bits_of_number (s ∷ t ∷ bs) =
    ap₂ (λ (b : Bool) (l : List Bool). b ∷ l)
    (odd_more s (signed_number (t ∷ bs)))
    (ap (signed_bits (length (t ∷ bs))) (half_more s (signed_number (t ∷ bs))) ∙ bits_of_number (t ∷ bs))

twice_below : (m n k : ℕ) → m / 2 ≡ n → n < 2 ^ k → m < 2 ^ suc k
twice_below m n k e h = omega arith

-- a number of some bits fits as many
number_fits_more : (b : Bool) (bs : List Bool) → EntryFits (length (b ∷ bs)) (signed_number (b ∷ bs))
unfolding signed_number signed_sum
number_fits_more true [] = fits_in 0 (signed_number (true ∷ [])) (omega arith)
number_fits_more false [] = fits_in 0 (signed_number (false ∷ [])) (omega arith)
number_fits_more s (t ∷ bs) =
    fits_in (length (t ∷ bs)) (signed_number (s ∷ t ∷ bs))
    (twice_below _ _ (length bs) (mag_more s (signed_number (t ∷ bs))) (fits_out (length bs) (signed_number (t ∷ bs)) (number_fits_more t bs)))

pub number_fits : (bs : List Bool) → 1 ≤ length bs → EntryFits (length bs) (signed_number bs)
number_fits [] h = absurd (let b : ⊥ = omega arith in b)
number_fits (b ∷ bs) h = number_fits_more b bs

-- w bits are enough exactly if w is at least the width
pub enough : (w : ℕ) (z : ℤ) → width_of z ≤ w → signed_number (signed_bits w z) ≡ z
enough w z h = number_of_bits w z (omega arith) (entry_fits z w h)

pub not_fewer : (w : ℕ) (z : ℤ) → 1 ≤ w → signed_number (signed_bits w z) ≡ z → width_of z ≤ w
not_fewer w z h e =
    let l : length (signed_bits w z) ≡ w = length_signed_bits w z in
    entry_least z w h (subst (EntryFits w) e (subst (λ (k : ℕ). EntryFits k (signed_number (signed_bits w z))) l (number_fits (signed_bits w z) (omega arith))))

-- without its lowest bit a number is its half, and the lowest bit says whether it is odd
pub half_drop : (b : Bool) (bs : List Bool) → 0 < length bs → signed_number bs ≡ half (signed_number (b ∷ bs))
unfolding signed_number
half_drop b bs h = sym (ap half (sum_more bit_number b bs h) ∙ half_more b (signed_number bs))

pub odd_lowest : (b : Bool) (bs : List Bool) → odd (signed_number (b ∷ bs)) ≡ b
unfolding signed_number signed_sum
odd_lowest true [] = refl
odd_lowest false [] = refl
odd_lowest b (c ∷ bs) = odd_more b (signed_number (c ∷ bs))
