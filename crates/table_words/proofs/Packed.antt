-- Functions packed into words: constants, literals, fixed functions and combinations.
use Rattle.std.proofs.Common.{◌≡◌, ℕ, ◌+◌, ◌-◌, ◌*◌, ◌/◌, ◌%◌, ◌^◌, ◌<◌, ◌≤◌, min, Bool, true, false, cond, List, length, get_or, sym, refl, ap, ◌∙◌, ⊎_elim, mod-eq_of_lt, arith, length-set, pow_pos, pow_mono}
use lib.Bits.{bit_and}
use Rattle.std.proofs.lemmas.Nat.{and_mask}
use Rattle.std.proofs.lemmas.List.{get_or_past}
use Rattle.std.proofs.lemmas.Bool.{cases_lt}
use Rattle.exact.specs.Indices.{Index, number, bit, with_bit}
use Rattle.functions.specs.Tables.{value_at, digit, constant, literal, fixed, ruled, combined}
use Rattle.table_words.specs.declared.PackedTable.{PackedTable}
use Rattle.table_words.specs.Words.{bit_of, BitsOf, word_bit, unpacked, HasBits, Packs}
use Rattle.table_words.proofs.Bits.{all_ones, zero_bits, rule_bits}
use Rattle.table_words.proofs.Words.{unpacked_at, word_bit_split, bits_of_words, cleaned, packs_listing}
use Rattle.table_words.proofs.Settings.{index_bit, with_bit_number}

-- four words with the bits of p, cleaned
pub has_bits : (n : ℕ) (ws : List ℕ) (p : ℕ → Bool) (t : PackedTable) → n ≤ 8 → ((j : ℕ) → j < 4 → BitsOf (get_or ws j 0) (λ i. p (64 * j + i))) → HasBits n (word_bit ws) t → HasBits n p t
has_bits n ws p t few h b = record { values = λ i l. (let m : 2 ^ n ≤ 2 ^ 8 = pow_mono few in b.values i l ∙ bits_of_words ws p h i (omega arith)); clean = b.clean }

-- four words, each without the bits that are no index's
pub masked : (n : ℕ) (ws vs : List ℕ) → length ws ≡ 4 → length vs ≡ 4 → ((j : ℕ) → j < 4 → get_or vs j 0 ≡ bit_and (get_or ws j 0) (2 ^ min 64 (2 ^ n - 64 * j) - 1)) → HasBits n (word_bit ws) (record { words = vs })
masked n ws vs l m h = cleaned n ws _ (λ j. ⊎_elim (within j) (past j) (cases_lt j 4))
  where
    within : (j : ℕ) → j < 4 → get_or vs j 0 ≡ get_or ws j 0 % 2 ^ min 64 (2 ^ n - 64 * j)
    within j k = h j k ∙ and_mask (get_or ws j 0) (min 64 (2 ^ n - 64 * j))

    past : (j : ℕ) → 4 ≤ j → get_or vs j 0 ≡ get_or ws j 0 % 2 ^ min 64 (2 ^ n - 64 * j)
    past j k =
        get_or_past vs j 0 (omega arith)
        ∙ sym (ap (λ (w : ℕ). w % 2 ^ min 64 (2 ^ n - 64 * j)) (get_or_past ws j 0 (omega arith)) ∙ mod-eq_of_lt (pow_pos (min 64 (2 ^ n - 64 * j))))

-- a word that is all of one bit
pub constant_packed : (n : ℕ) (ws : List ℕ) (b : Bool) (t : PackedTable) → n ≤ 8 → ((j : ℕ) → j < 4 → BitsOf (get_or ws j 0) (λ i. b)) → HasBits n (word_bit ws) t → Packs n (constant n b) t
unfolding constant
constant_packed n ws b t few h x = packs_listing n (λ i. b) (λ y. b) t (λ y l. refl) (has_bits n ws (λ i. b) t few h x)

pub ones_word : BitsOf 18446744073709551615 (λ i. true)
ones_word i l = all_ones 64 i l

pub zeros_word : BitsOf 0 (λ i. false)
zeros_word i l = zero_bits i

pub literal_packed : (n q : ℕ) (t : PackedTable) → q < n → HasBits n (λ i. bit_of i (n - 1 - q)) t → Packs n (literal n q) t
unfolding literal
literal_packed n q t h b = packs_listing n (λ i. bit_of i (n - 1 - q)) (λ x. bit x q) t (λ x l. sym (index_bit n q x l h)) b

pub fixed_packed : (n q : ℕ) (ws : List ℕ) (c : Bool) (t : PackedTable) → q < n → HasBits n (λ i. word_bit ws (i - i / 2 ^ (n - 1 - q) % 2 * 2 ^ (n - 1 - q) + digit c * 2 ^ (n - 1 - q))) t → Packs n (fixed n (unpacked n ws) q c) t
unfolding fixed
fixed_packed n q ws c t h b =
    packs_listing n (λ i. word_bit ws (i - i / 2 ^ (n - 1 - q) % 2 * 2 ^ (n - 1 - q) + digit c * 2 ^ (n - 1 - q))) (λ x. value_at (unpacked n ws) (with_bit x q c)) t
    (λ x l. ap (word_bit ws) (sym (with_bit_number n q x c l h)) ∙ sym (unpacked_at n ws (with_bit x q c) (length-set x q c ∙ l))) b

module _ (n rule : ℕ) (fs gs hs : List ℕ) where
  -- word j of a combination
  word_combined : (j w : ℕ) → BitsOf w (λ i. ruled rule (bit_of (get_or fs j 0) i) (bit_of (get_or gs j 0) i) (bit_of (get_or hs j 0) i)) → BitsOf w (λ i. ruled rule (word_bit fs (64 * j + i)) (word_bit gs (64 * j + i)) (word_bit hs (64 * j + i)))
  word_combined j w h i l =
      h i l
      ∙ ap (λ (x : Bool). ruled rule x (bit_of (get_or gs j 0) i) (bit_of (get_or hs j 0) i)) (sym (word_bit_split fs j i l))
      ∙ ap (λ (x : Bool). ruled rule (word_bit fs (64 * j + i)) x (bit_of (get_or hs j 0) i)) (sym (word_bit_split gs j i l))
      ∙ ap (λ (x : Bool). ruled rule (word_bit fs (64 * j + i)) (word_bit gs (64 * j + i)) x) (sym (word_bit_split hs j i l))

  pub combined_packed : (ws : List ℕ) (t : PackedTable) → n ≤ 8
      → ((j : ℕ) → j < 4 → BitsOf (get_or ws j 0) (λ i. ruled rule (bit_of (get_or fs j 0) i) (bit_of (get_or gs j 0) i) (bit_of (get_or hs j 0) i)))
      → HasBits n (word_bit ws) t → Packs n (combined n rule (unpacked n fs) (unpacked n gs) (unpacked n hs)) t
  unfolding combined
  combined_packed ws t few h x =
      packs_listing n (λ i. ruled rule (word_bit fs i) (word_bit gs i) (word_bit hs i)) (λ y. ruled rule (value_at (unpacked n fs) y) (value_at (unpacked n gs) y) (value_at (unpacked n hs) y)) t values
      (has_bits n ws (λ i. ruled rule (word_bit fs i) (word_bit gs i) (word_bit hs i)) t few (λ j k. word_combined j (get_or ws j 0) (h j k)) x)
    where
      values : (y : Index) → length y ≡ n → ruled rule (word_bit fs (number y)) (word_bit gs (number y)) (word_bit hs (number y)) ≡ ruled rule (value_at (unpacked n fs) y) (value_at (unpacked n gs) y) (value_at (unpacked n hs) y)
      values y l =
          ap (λ (u : Bool). ruled rule u (word_bit gs (number y)) (word_bit hs (number y))) (sym (unpacked_at n fs y l))
          ∙ ap (λ (u : Bool). ruled rule (value_at (unpacked n fs) y) u (word_bit hs (number y))) (sym (unpacked_at n gs y l))
          ∙ ap (λ (u : Bool). ruled rule (value_at (unpacked n fs) y) (value_at (unpacked n gs) y) u) (sym (unpacked_at n hs y l))

-- a word combined by choices: by h between the bits of the rule, then by g, then by f
pub word_by_choices : (rule f g h w7 w6 w5 w4 w3 w2 w1 w0 b of og nei x y r : ℕ)
    → BitsOf w7 (λ i. bit_of rule 7) → BitsOf w6 (λ i. bit_of rule 6) → BitsOf w5 (λ i. bit_of rule 5) → BitsOf w4 (λ i. bit_of rule 4)
    → BitsOf w3 (λ i. bit_of rule 3) → BitsOf w2 (λ i. bit_of rule 2) → BitsOf w1 (λ i. bit_of rule 1) → BitsOf w0 (λ i. bit_of rule 0)
    → BitsOf b (λ i. cond (bit_of h i) (bit_of w7 i) (bit_of w6 i)) → BitsOf of (λ i. cond (bit_of h i) (bit_of w5 i) (bit_of w4 i))
    → BitsOf og (λ i. cond (bit_of h i) (bit_of w3 i) (bit_of w2 i)) → BitsOf nei (λ i. cond (bit_of h i) (bit_of w1 i) (bit_of w0 i))
    → BitsOf x (λ i. cond (bit_of g i) (bit_of b i) (bit_of of i)) → BitsOf y (λ i. cond (bit_of g i) (bit_of og i) (bit_of nei i))
    → BitsOf r (λ i. cond (bit_of f i) (bit_of x i) (bit_of y i))
    → BitsOf r (λ i. ruled rule (bit_of f i) (bit_of g i) (bit_of h i))
word_by_choices rule f g h w7 w6 w5 w4 w3 w2 w1 w0 b of og nei x y r h7 h6 h5 h4 h3 h2 h1 h0 hb hof hog hn hx hy hr i l =
    hr i l ∙ both (bit_of f i)
    (hx i l ∙ both (bit_of g i) (hb i l ∙ both (bit_of h i) (h7 i l) (h6 i l)) (hof i l ∙ both (bit_of h i) (h5 i l) (h4 i l)))
    (hy i l ∙ both (bit_of g i) (hog i l ∙ both (bit_of h i) (h3 i l) (h2 i l)) (hn i l ∙ both (bit_of h i) (h1 i l) (h0 i l)))
    ∙ rule_bits rule (bit_of f i) (bit_of g i) (bit_of h i)
  where
    both : (s : Bool) {p q u v : Bool} → p ≡ q → u ≡ v → cond s p u ≡ cond s q v
    both true e d = e
    both false e d = d
