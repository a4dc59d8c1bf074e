-- The bits of a number, and lists in index order as tables over numbers.
use Rattle.std.proofs.Common.{◌≡◌, ℕ, zero, suc, ◌+◌, ◌-◌, ◌*◌, ◌/◌, ◌%◌, ◌^◌, ◌<◌, cond, eqb, map, length, get_or, sym, refl, ap, ◌∙◌, ap₂, mod-eq_of_lt, arith, pow_pos}
use lib.Arith.{mod-mul}
use Rattle.std.specs.List.{range_with_len}
use Rattle.std.proofs.lemmas.List.FromFn.{fill_by_all}
use Rattle.std.proofs.lemmas.Bool.{eqb-true, eqb-false, cond_both}
use Rattle.exact.specs.Indices.{Index, number, bits, bit, listing}
use Rattle.exact.proofs.Indices.{number_below, number_injective}
use Rattle.exact.specs.Laws.{ListingLaws}
use Rattle.exact.proofs.Listings.{length_listing, listing_at, at_listing, listing_own}

pub length_bits : (n i : ℕ) → length (bits n i) ≡ n
unfolding bits
length_bits zero i = refl
length_bits (suc n) i = ap suc (length_bits n i)

number_modulo : (n i : ℕ) → number (bits n i) ≡ i % 2 ^ n
unfolding bits number
number_modulo zero i = let e : 0 ≡ i % 1 = omega arith in e
number_modulo (suc n) i =
    ap₂ (λ (m k : ℕ). cond (eqb (i / 2 ^ n % 2) 1) (2 ^ m) 0 + k) (length_bits n i) (number_modulo n i)
    ∙ ap (λ (t : ℕ). t + i % 2 ^ n) (digit (i / 2 ^ n) (2 ^ n))
    ∙ sym (mod-mul i {m = 2} {c = 2 ^ n} (omega arith) (pow_pos n))
    ∙ ap (λ (t : ℕ). i % t) e
  where
    digit : (j p : ℕ) → cond (eqb (j % 2) 1) p 0 ≡ (j % 2) * p
    digit j p = cond_both (eqb (j % 2) 1) p 0 (λ (t : ℕ). t ≡ (j % 2) * p)
        (λ h. sym (ap (λ (t : ℕ). t * p) (eqb-true (j % 2) 1 h) ∙ one p))
        (λ h. let f = eqb-false (j % 2) 1 h in let z : j % 2 ≡ 0 = omega arith in sym (ap (λ (t : ℕ). t * p) z ∙ none p))
      where
        one : (p : ℕ) → 1 * p ≡ p
        one p = omega arith

        none : (p : ℕ) → 0 * p ≡ 0
        none p = omega arith

    e : 2 * 2 ^ n ≡ 2 ^ suc n
    e = omega arith

pub number_of_bits : (n i : ℕ) → i < 2 ^ n → number (bits n i) ≡ i
number_of_bits n i h = number_modulo n i ∙ mod-eq_of_lt h

pub bits_of_number : (x : Index) → bits (length x) (number x) ≡ x
bits_of_number x = number_injective (bits (length x) (number x)) x (length_bits (length x) (number x)) (number_of_bits (length x) (number x) (number_below x))

-- the bit of qubit q is worth 2^(n−1−q)
pub highest_first : (n q i : ℕ) → q < n → bit (bits n i) q ≡ eqb (i / 2 ^ (n - 1 - q) % 2) 1
unfolding bits
highest_first zero q i h = absurd (omega arith)
highest_first (suc n) zero i h = let e : n ≡ suc n - 1 - 0 = omega arith in ap (λ (t : ℕ). eqb (i / 2 ^ t % 2) 1) e
highest_first (suc n) (suc q) i h = let e : n - 1 - q ≡ suc n - 1 - suc q = omega arith in highest_first n q i (omega arith) ∙ ap (λ (t : ℕ). eqb (i / 2 ^ t % 2) 1) e

pub listing_table : {A : Type 0} (n : ℕ) (f : Index → A) → listing n f ≡ map (λ (i : ℕ). f (bits n i)) (range_with_len 0 (2 ^ n))
listing_table n f = fill_by_all (λ (i : ℕ). f (bits n i)) (listing n f) (2 ^ n) (f (bits n 0)) (length_listing n f) each
  where
    each : (k : ℕ) → k < 2 ^ n → get_or (listing n f) k (f (bits n 0)) ≡ f (bits n k)
    each k h =
        ap₂ (λ (m j : ℕ). get_or (listing m f) j (f (bits n 0))) (sym (length_bits n k)) (sym (number_of_bits n k h))
        ∙ listing_at (bits n k) f (f (bits n 0))

pub listing_laws : {A : Type 0} (none : A) → ListingLaws none
listing_laws none = record { element = at_listing none; made_of_elements = listing_own none; table = listing_table }
