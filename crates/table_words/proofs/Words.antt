-- Rows of words.
use Rattle.std.proofs.Common.{◌≡◌, ℕ, zero, suc, ◌+◌, ◌-◌, ◌*◌, ◌/◌, ◌%◌, ◌^◌, ◌<◌, ◌≤◌, min, Bool, true, false, eqb, List, ◌∷◌, length, get_or, sym, ap, ◌∙◌, subst, ap₂, ⊎_elim, arith, pow_pos, pow_mono}
use Rattle.std.proofs.lemmas.Nat.{mod_below}
use Rattle.std.proofs.lemmas.List.{ext_get_or, get_or_past}
use Rattle.std.proofs.lemmas.Bool.{cases_lt, and_parts, and_from, eqb-true, eq-eqb}
use Rattle.exact.specs.Indices.{Index, number, listing, bits}
use Rattle.exact.proofs.Indices.{number_below}
use Rattle.exact.proofs.Listings.{length_listing, listing_same, at_listing}
use Rattle.exact.proofs.Tables.{length_bits, number_of_bits}
use Rattle.functions.specs.Tables.{Table, value_at}
use Rattle.table_words.specs.declared.PackedTable.{PackedTable}
use Rattle.table_words.specs.Words.{bit_of, BitsOf, word_bit, unpacked, Clean, HasBits, Packs, same_words}
use Rattle.table_words.proofs.Bits.{low_bits, high_bits, same_bits}

pub length_unpacked : (n : ℕ) (ws : List ℕ) → length (unpacked n ws) ≡ 2 ^ n
unfolding unpacked
length_unpacked n ws = length_listing n (λ x. word_bit ws (number x))

pub unpacked_at : (n : ℕ) (ws : List ℕ) (x : Index) → length x ≡ n → value_at (unpacked n ws) x ≡ word_bit ws (number x)
unfolding unpacked
unpacked_at n ws x l = at_listing false n (λ y. word_bit ws (number y)) x l

pub word_bit_split : (us : List ℕ) (j i : ℕ) → i < 64 → word_bit us (64 * j + i) ≡ bit_of (get_or us j 0) i
unfolding word_bit
word_bit_split us j i m =
    let p : (64 * j + i) / 64 ≡ j = omega arith in
    let q : (64 * j + i) % 64 ≡ i = omega arith in
    ap₂ (λ (a b : ℕ). bit_of (get_or us a 0) b) p q

-- the bits of the first word, and those of the others
pub word_bit_first : (w : ℕ) (ws : List ℕ) (i : ℕ) → i < 64 → word_bit (w ∷ ws) (0 + i) ≡ bit_of w (0 + i)
unfolding word_bit
word_bit_first w ws i l =
    let p : (0 + i) / 64 ≡ 0 = omega arith in
    let q : (0 + i) % 64 ≡ 0 + i = omega arith in
    ap₂ (λ (a b : ℕ). bit_of (get_or (w ∷ ws) a 0) b) p q

pub word_bit_rest : (w : ℕ) (ws : List ℕ) (i : ℕ) → word_bit (w ∷ ws) (64 + i) ≡ word_bit ws (0 + i)
unfolding word_bit
word_bit_rest w ws i =
    let p : (64 + i) / 64 ≡ suc ((0 + i) / 64) = omega arith in
    let q : (64 + i) % 64 ≡ (0 + i) % 64 = omega arith in
    ap₂ (λ (a b : ℕ). bit_of (get_or (w ∷ ws) a 0) b) p q

-- words past the last are 0
pub word_bit_past : (ws : List ℕ) (i : ℕ) → 64 * length ws ≤ i → word_bit ws i ≡ false
unfolding word_bit
word_bit_past ws i l =
    ap (λ (w : ℕ). bit_of w (i % 64)) (get_or_past ws (i / 64) 0 (omega arith))
    ∙ high_bits 0 0 (i % 64) (omega arith) (omega arith)

-- four words, each with its 64 bits
pub bits_of_words : (ws : List ℕ) (p : ℕ → Bool) → ((j : ℕ) → j < 4 → BitsOf (get_or ws j 0) (λ i. p (64 * j + i))) → (i : ℕ) → i < 256 → word_bit ws i ≡ p i
unfolding word_bit
bits_of_words ws p h i l =
    let e : 64 * (i / 64) + i % 64 ≡ i = omega arith in
    h (i / 64) (omega arith) (i % 64) (omega arith) ∙ ap p e

-- the words without the bits that are no index's
pub cleaned : (n : ℕ) (ws : List ℕ) (t : PackedTable) → ((j : ℕ) → get_or t.words j 0 ≡ get_or ws j 0 % 2 ^ min 64 (2 ^ n - 64 * j)) → HasBits n (word_bit ws) t
unfolding word_bit Clean
cleaned n ws t h = record {
  values = λ i l.
      let b : i % 64 < min 64 (2 ^ n - 64 * (i / 64)) = omega arith in
      ap (λ (w : ℕ). bit_of w (i % 64)) (h (i / 64)) ∙ low_bits (get_or ws (i / 64) 0) (min 64 (2 ^ n - 64 * (i / 64))) (i % 64) b;
  clean = λ j. subst (λ (w : ℕ). w < 2 ^ min 64 (2 ^ n - 64 * j)) (sym (h j)) (mod_below (get_or ws j 0) (2 ^ min 64 (2 ^ n - 64 * j)) (pow_pos (min 64 (2 ^ n - 64 * j))));
}

-- and above the indices there are none
pub clean_above : (n : ℕ) (ws : List ℕ) (i : ℕ) → Clean n ws → 2 ^ n ≤ i → word_bit ws i ≡ false
unfolding word_bit Clean
clean_above n ws i c l = high_bits (get_or ws (i / 64) 0) (min 64 (2 ^ n - 64 * (i / 64))) (i % 64) (c (i / 64)) (omega arith)

-- and a word is one
pub clean_small : (n : ℕ) (ws : List ℕ) → Clean n ws → (j : ℕ) → get_or ws j 0 < 2 ^ 64
unfolding Clean
clean_small n ws c j =
    let u : get_or ws j 0 < 2 ^ min 64 (2 ^ n - 64 * j) = c j in
    let s : min 64 (2 ^ n - 64 * j) ≤ 64 = omega arith in
    let m : 2 ^ min 64 (2 ^ n - 64 * j) ≤ 2 ^ 64 = pow_mono s in
    omega arith

-- bits that are a function's values
pub packs_listing : (n : ℕ) (p : ℕ → Bool) (f : Index → Bool) (t : PackedTable) → ((x : Index) → length x ≡ n → p (number x) ≡ f x) → HasBits n p t → Packs n (listing n f) t
unfolding unpacked
packs_listing n p f t h b = record {
  table = listing_same n (λ x. word_bit t.words (number x)) f (λ x l. b.values (number x) (subst (λ (m : ℕ). number x < 2 ^ m) l (number_below x)) ∙ h x l);
  clean = b.clean;
}

-- the words of a function are determined
pub unpacked_once : (n : ℕ) (ws vs : List ℕ) → length ws ≡ length vs → Clean n ws → Clean n vs → unpacked n ws ≡ unpacked n vs → ws ≡ vs
unfolding Clean
unpacked_once n ws vs l a b e = ext_get_or 0 ws vs l (λ j k. same_bits 64 (get_or ws j 0) (get_or vs j 0) (clean_small n ws a j) (clean_small n vs b j) (λ i m. bit j i m))
  where
    same_values : (i : ℕ) → i < 2 ^ n → word_bit ws i ≡ word_bit vs i
    same_values i m =
        ap (word_bit ws) (sym (number_of_bits n i m))
        ∙ sym (unpacked_at n ws (bits n i) (length_bits n i))
        ∙ ap (λ (f : Table). value_at f (bits n i)) e
        ∙ unpacked_at n vs (bits n i) (length_bits n i)
        ∙ ap (word_bit vs) (number_of_bits n i m)

    bit : (j i : ℕ) → i < 64 → bit_of (get_or ws j 0) i ≡ bit_of (get_or vs j 0) i
    bit j i m = ⊎_elim
        (λ (u : 64 * j + i < 2 ^ n). sym (word_bit_split ws j i m) ∙ same_values (64 * j + i) u ∙ word_bit_split vs j i m)
        (λ (u : 2 ^ n ≤ 64 * j + i).
        let s : min 64 (2 ^ n - 64 * j) ≤ i = omega arith in
        high_bits (get_or ws j 0) (min 64 (2 ^ n - 64 * j)) i (a j) s ∙ sym (high_bits (get_or vs j 0) (min 64 (2 ^ n - 64 * j)) i (b j) s))
        (cases_lt (64 * j + i) (2 ^ n))

-- four words are the same exactly if they are equal
pub same_equal : (ws vs : List ℕ) → length ws ≡ 4 → length vs ≡ 4 → same_words ws vs ≡ true → ws ≡ vs
same_equal ws vs l m e =
    let rest = and_parts (eqb (get_or ws 0 0) (get_or vs 0 0)) _ e in
    let more = and_parts (eqb (get_or ws 1 0) (get_or vs 1 0)) _ rest.1 in
    let last = and_parts (eqb (get_or ws 2 0) (get_or vs 2 0)) _ more.1 in
    ext_get_or 0 ws vs (l ∙ sym m) (λ i k. each (eqb-true _ _ rest.0) (eqb-true _ _ more.0) (eqb-true _ _ last.0) (eqb-true _ _ last.1) i (omega arith))
  where
    each : get_or ws 0 0 ≡ get_or vs 0 0 → get_or ws 1 0 ≡ get_or vs 1 0 → get_or ws 2 0 ≡ get_or vs 2 0 → get_or ws 3 0 ≡ get_or vs 3 0 → (i : ℕ) → i < 4 → get_or ws i 0 ≡ get_or vs i 0
    each a b c d zero k = a
    each a b c d (suc zero) k = b
    each a b c d (suc (suc zero)) k = c
    each a b c d (suc (suc (suc zero))) k = d
    each a b c d (suc (suc (suc (suc i)))) k = absurd (omega arith)

pub equal_same : (ws vs : List ℕ) → ws ≡ vs → same_words ws vs ≡ true
equal_same ws vs e =
    and_from _ _ (word 0) (and_from _ _ (word 1) (and_from _ _ (word 2) (word 3)))
  where
    word : (j : ℕ) → eqb (get_or ws j 0) (get_or vs j 0) ≡ true
    word j = eq-eqb _ _ (ap (λ (us : List ℕ). get_or us j 0) e)
