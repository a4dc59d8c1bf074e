-- A word that reads as a basis index writes its bits, and each row of bits reads as its index.
use Rattle.std.proofs.Common.{◌≡◌, ℕ, suc, ◌+◌, ◌*◌, ◌^◌, ◌<◌, ◌≤◌, Bool, true, false, cond, ◌&&◌, eqb, leb, List, [], ◌∷◌, length, get_or, drop, Some, None, Option, sym, refl, ap, ◌∙◌, ⊎_elim, mul_assoc, mul_comm, add-mul, add-one, arith}
use native.Mathlib.Nat.{pow-succ'}
use Rattle.std.proofs.lemmas.List.{at_drop_more, at_drop_all}
use Rattle.std.proofs.lemmas.Bool.{and_parts, and_from, eqb-true, eq-eqb, cond-true, cond-false, cases_Bool}
use Rattle.std.proofs.lemmas.Bool.Decides.{nat_tests}
use Rattle.exact.specs.Indices.{number}
use Rattle.text_numbers.specs.Numbers.{bit_byte, index_word, all_bits, bits_of, is_index, index_of, ReadsIndex}
use Rattle.std.proofs.lemmas.Option.{none-some}

-- the number of a basis index, bit by bit
pub bits_value : ℕ → List Bool → ℕ
bits_value n [] = n
bits_value n (b ∷ bs) = bits_value (2 * n + cond b 1 0) bs

value_on : (n : ℕ) (bs : List Bool) → bits_value n bs ≡ n * 2 ^ length bs + number bs
unfolding bits_value number
value_on n [] = omega arith
value_on n (b ∷ bs) =
    let p = 2 ^ length bs in
    let double : n * (2 * p) ≡ 2 * (n * p) = sym (mul_assoc n 2 p) ∙ ap (λ x. x * p) (mul_comm n 2) ∙ mul_assoc 2 n p in
    value_on (2 * n + cond b 1 0) bs
    ∙ elim b as (λ x. (2 * n + cond x 1 0) * p + number bs ≡ n * (2 * p) + (cond x p 0 + number bs)) [
      | true ↦ omega (arith, double, add-mul (2 * n) 1 p, mul_assoc 2 n p)
      | false ↦ omega (arith, double, add-mul (2 * n) 0 p, mul_assoc 2 n p)
    ]
    ∙ ap (λ x. n * x + (cond b p 0 + number bs)) (sym (pow-succ' 2 (length bs)))

value_is : (bs : List Bool) → bits_value 0 bs ≡ number bs
value_is bs = value_on 0 bs ∙ omega arith

-- some bits of a word are read: what is left of it gives the whole
pub record BitsRead (w : List ℕ) (i value : ℕ) : Type 0 where
  pub small : value < 2 ^ i
  pub bits : all_bits (drop i w) ≡ all_bits w
  pub value_so_far : bits_value value (bits_of (drop i w)) ≡ number (bits_of w)

pub bits_none : (w : List ℕ) → BitsRead w 0 0
bits_none w = record { small = omega arith; bits = refl; value_so_far = value_is (bits_of w) }

bits_left : (w : List ℕ) (i : ℕ) → i < length w → all_bits (drop i w) ≡ ((leb 48 (get_or w i 0) && leb (get_or w i 0) 49) && all_bits (drop (i + 1) w))
unfolding all_bits
bits_left w i h = at_drop_more all_bits w i 0 h

value_left : (w : List ℕ) (i v : ℕ) → i < length w → bits_value v (bits_of (drop i w)) ≡ bits_value (2 * v + cond (eqb (get_or w i 0) 49) 1 0) (bits_of (drop (i + 1) w))
unfolding bits_value bits_of
value_left w i v h = at_drop_more (λ l. bits_value v (bits_of l)) w i 0 h

pub bits_more : (w : List ℕ) (i v : ℕ) (b : Bool) → BitsRead w i v → i < length w → get_or w i 0 ≡ bit_byte b → BitsRead w (i + 1) (2 * v + cond b 1 0)
bits_more w i v b r h e = record {
  small = rw (add-one i, pow-succ' 2 i) (elim b as (λ x. 2 * v + cond x 1 0 < 2 * 2 ^ i) [ true ↦ omega (arith, r.small) | false ↦ omega (arith, r.small) ]);
  bits = sym (bits_left w i h ∙ ap (λ x. (leb 48 x && leb x 49) && all_bits (drop (i + 1) w)) e ∙ byte_fits b) ∙ r.bits;
  value_so_far = sym (value_left w i v h ∙ ap (λ x. bits_value (2 * v + cond (eqb x 49) 1 0) (bits_of (drop (i + 1) w))) e ∙ byte_counts b) ∙ r.value_so_far;
}
  where
    byte_fits : (x : Bool) → ((leb 48 (bit_byte x) && leb (bit_byte x) 49) && all_bits (drop (i + 1) w)) ≡ all_bits (drop (i + 1) w)
    byte_fits true = refl
    byte_fits false = refl

    byte_counts : (x : Bool) → bits_value (2 * v + cond (eqb (bit_byte x) 49) 1 0) (bits_of (drop (i + 1) w)) ≡ bits_value (2 * v + cond x 1 0) (bits_of (drop (i + 1) w))
    byte_counts true = refl
    byte_counts false = refl

pub bits_stop : (w : List ℕ) (i v n : ℕ) → BitsRead w i v → i < length w → (leb 48 (get_or w i 0) && leb (get_or w i 0) 49) ≡ false → None ≡ index_of n w
bits_stop w i v n r h e =
    let a : all_bits w ≡ false = sym r.bits ∙ bits_left w i h ∙ ap (λ x. x && all_bits (drop (i + 1) w)) e in
    let b : is_index n w ≡ false = grind (arith, nat_tests) in
    sym (cond-false _ _ _ b)

pub bits_all : (w : List ℕ) (i v n : ℕ) → BitsRead w i v → length w ≤ i → length w ≡ n → Some v ≡ index_of n w
unfolding all_bits bits_of bits_value
bits_all w i v n r h l =
    let a : all_bits w ≡ true = sym r.bits ∙ at_drop_all all_bits w i h in
    let v' : v ≡ number (bits_of w) = sym (at_drop_all (λ x. bits_value v (bits_of x)) w i h) ∙ r.value_so_far in
    ap Some v' ∙ sym (cond-true _ _ _ (and_from _ _ (eq-eqb _ _ l) a))

-- bits and the bytes that write them
pub index_says : (w : List ℕ) → all_bits w ≡ true → w ≡ index_word (bits_of w)
unfolding all_bits index_word bits_of
index_says [] h = refl
index_says (b ∷ bs) h =
    let q = and_parts (leb 48 b && leb b 49) (all_bits bs) h in
    let d : (leb 48 b && leb b 49) ≡ true = q.0 in
    let e : b ≡ bit_byte (eqb b 49) = grind (arith, nat_tests) in
    (λ i. e i ∷ index_says bs q.1 i)

pub bits_long : (w : List ℕ) → length (bits_of w) ≡ length w
unfolding bits_of
bits_long [] = refl
bits_long (b ∷ bs) = ap suc (bits_long bs)

pub word_long : (bits : List Bool) → length (index_word bits) ≡ length bits
unfolding index_word
word_long [] = refl
word_long (b ∷ bs) = ap suc (word_long bs)

pub word_bits : (bits : List Bool) → all_bits (index_word bits) ≡ true
unfolding index_word all_bits
word_bits [] = refl
word_bits (true ∷ bs) = word_bits bs
word_bits (false ∷ bs) = word_bits bs

pub bits_back : (bits : List Bool) → bits_of (index_word bits) ≡ bits
unfolding index_word bits_of
bits_back [] = refl
bits_back (true ∷ bs) = ap (λ l. true ∷ l) (bits_back bs)
bits_back (false ∷ bs) = ap (λ l. false ∷ l) (bits_back bs)

pub word_index : (n : ℕ) (bits : List Bool) → length bits ≡ n → is_index n (index_word bits) ≡ true
word_index n bits l = and_from _ _ (eq-eqb _ _ (word_long bits ∙ l)) (word_bits bits)

-- the definition by bytes says what a basis index is
pub reads_index : (n : ℕ) (w : List ℕ) (r : Option ℕ) → r ≡ index_of n w → ReadsIndex n w r
reads_index n w (Some i) e =
    ⊎_elim
    (λ h.
    let p = and_parts (eqb (length w) n) (all_bits w) h in
    let s : Some i ≡ Some (number (bits_of w)) = e ∙ cond-true _ _ _ h in
    let q : i ≡ number (bits_of w) = cc in
    (bits_of w, (bits_long w ∙ eqb-true _ _ p.0, index_says w p.1, q)))
    (λ h. absurd (none-some i (sym (e ∙ cond-false _ _ _ h))))
    (cases_Bool (is_index n w))
reads_index n w None e = λ bits l d. none-some (number (bits_of w)) (e ∙ cond-true _ _ _ (ap (is_index n) d ∙ word_index n bits l))
