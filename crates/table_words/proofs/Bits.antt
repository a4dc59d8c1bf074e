-- The bits of a number, and of words combined bit by bit.
use Rattle.std.proofs.Common.{◌≡◌, ℕ, zero, suc, ◌+◌, ◌-◌, ◌/◌, ◌%◌, ◌^◌, ◌<◌, ◌≤◌, Bool, true, false, cond, eqb, sym, refl, ap, ◌∙◌, ap₂, ⊎_elim, div-one, arith, pow_pos, pow_mono}
use native.Mathlib.Nat.{div-div-eq-div-mul, pow-succ', two-pow-succ}
use lib.Bits.{bit_and, bit_xor}
use lib.Pow.{ones_split, ones_lt, mod-mod-pow}
use Rattle.std.proofs.lemmas.Nat.{xor_shr, xor_mod, and_shr, and_mod, field_of, shr_high, shr_below}
use Rattle.std.proofs.lemmas.Bool.{eq-eqb, ne_eqb, cases_eq}
use Rattle.functions.specs.Tables.{digit, ruled}
use Rattle.table_words.specs.Words.{bit_of}

-- a binary digit as a bit, and back
pub digit_of_bit : (x : ℕ) → x < 2 → digit (eqb x 1) ≡ x
digit_of_bit x l = ⊎_elim
    (λ (e : x ≡ 1). ap digit (eq-eqb x 1 e) ∙ sym e)
    (λ (e : x ≡ 1 → ⊥). ap digit (ne_eqb x 1 e) ∙ (let q : 0 ≡ x = omega arith in q))
    (cases_eq x 1)

digit_at : (w i : ℕ) → w / 2 ^ i % 2 ≡ digit (bit_of w i)
digit_at w i = sym (digit_of_bit (w / 2 ^ i % 2) (let x = w / 2 ^ i in omega arith))

-- ---- bit by bit
xor_digit : (a b i : ℕ) → bit_xor a b / 2 ^ i % 2 ≡ bit_xor (digit (bit_of a i)) (digit (bit_of b i))
xor_digit a b i =
    ap (λ (x : ℕ). x % 2) (xor_shr a b i)
    ∙ xor_mod (a / 2 ^ i) (b / 2 ^ i) 1
    ∙ ap₂ bit_xor (digit_at a i) (digit_at b i)

and_digit : (a b i : ℕ) → bit_and a b / 2 ^ i % 2 ≡ bit_and (digit (bit_of a i)) (digit (bit_of b i))
and_digit a b i =
    ap (λ (x : ℕ). x % 2) (and_shr a b i)
    ∙ and_mod (a / 2 ^ i) (b / 2 ^ i) 1
    ∙ ap₂ bit_and (digit_at a i) (digit_at b i)

abbrev either_bit : Bool → Bool → Bool
either_bit a b = eqb (bit_xor (digit a) (digit b)) 1

abbrev both_bits : Bool → Bool → Bool
both_bits a b = eqb (bit_and (digit a) (digit b)) 1

-- the choice between a and b by s
pub choice_bits : (s a b i : ℕ) → bit_of (bit_xor b (bit_and s (bit_xor a b))) i ≡ cond (bit_of s i) (bit_of a i) (bit_of b i)
choice_bits s a b i =
    ap (λ (x : ℕ). eqb x 1) (xor_digit b (bit_and s (bit_xor a b)) i)
    ∙ ap (λ (x : ℕ). either_bit (bit_of b i) (eqb x 1)) (and_digit s (bit_xor a b) i)
    ∙ ap (λ (x : ℕ). either_bit (bit_of b i) (both_bits (bit_of s i) (eqb x 1))) (xor_digit a b i)
    ∙ chosen (bit_of s i) (bit_of a i) (bit_of b i)
  where
    chosen : (s a b : Bool) → either_bit b (both_bits s (either_bit a b)) ≡ cond s a b
    chosen true true true = refl
    chosen true true false = refl
    chosen true false true = refl
    chosen true false false = refl
    chosen false true true = refl
    chosen false true false = refl
    chosen false false true = refl
    chosen false false false = refl

-- the eight bits of a rule, chosen by three bits
pub rule_bits : (rule : ℕ) (f g h : Bool) → cond f (cond g (cond h (bit_of rule 7) (bit_of rule 6)) (cond h (bit_of rule 5) (bit_of rule 4))) (cond g (cond h (bit_of rule 3) (bit_of rule 2)) (cond h (bit_of rule 1) (bit_of rule 0))) ≡ ruled rule f g h
unfolding ruled
rule_bits rule true true true = refl
rule_bits rule true true false = refl
rule_bits rule true false true = refl
rule_bits rule true false false = refl
rule_bits rule false true true = refl
rule_bits rule false true false = refl
rule_bits rule false false true = refl
rule_bits rule false false false = refl

-- ---- numbers of ones, and remainders
pub all_ones : (k i : ℕ) → i < k → bit_of (2 ^ k - 1) i ≡ true
all_ones k i l =
    let e : suc (k - suc i) + i ≡ k = omega arith in
    let d : 2 ^ suc (k - suc i) ≡ 2 ^ (k - suc i) + 2 ^ (k - suc i) = two-pow-succ (k - suc i) in
    let p : 0 < 2 ^ (k - suc i) = pow_pos (k - suc i) in
    let o : (2 ^ suc (k - suc i) - 1) % 2 ≡ 1 = omega arith in
    ap (λ (m : ℕ). bit_of (2 ^ m - 1) i) (sym e)
    ∙ ap (λ (x : ℕ). bit_of x i) (ones_split (suc (k - suc i)) i)
    ∙ ap (λ (x : ℕ). eqb (x % 2) 1) (shr_high (2 ^ suc (k - suc i) - 1) i (2 ^ i - 1) (ones_lt i))
    ∙ ap (λ (x : ℕ). eqb x 1) o

-- the bits of a remainder of 2^k
pub low_bits : (w k i : ℕ) → i < k → bit_of (w % 2 ^ k) i ≡ bit_of w i
low_bits w k i l =
    let e : suc (k - suc i) + i ≡ k = omega arith in
    let f : k - suc i + 1 ≡ suc (k - suc i) = omega arith in
    ap (λ (m : ℕ). bit_of (w % 2 ^ m) i) (sym e)
    ∙ ap (λ (x : ℕ). eqb (x % 2) 1) (field_of w (suc (k - suc i)) i)
    ∙ ap (λ (m : ℕ). eqb (w / 2 ^ i % 2 ^ m % 2) 1) (sym f)
    ∙ ap (λ (x : ℕ). eqb x 1) (mod-mod-pow (w / 2 ^ i) (k - suc i) 1)

-- a number below 2^k has no bits from k on
pub high_bits : (w k i : ℕ) → w < 2 ^ k → k ≤ i → bit_of w i ≡ false
high_bits w k i l m =
    let p : 2 ^ k ≤ 2 ^ i = pow_mono m in
    let q : w / 2 ^ i < 2 ^ 0 = shr_below w 0 i (let e : 2 ^ (0 + i) ≡ 2 ^ i = ap (λ (m : ℕ). 2 ^ m) (let z : 0 + i ≡ i = omega arith in z) in omega arith) in
    let z : w / 2 ^ i ≡ 0 = omega arith in
    ap (λ (x : ℕ). eqb (x % 2) 1) z

pub zero_bits : (i : ℕ) → bit_of 0 i ≡ false
zero_bits i = high_bits 0 0 i (omega arith) (omega arith)

-- ---- the bits of half a number, and of twice a number and a bit
pub half_bits : (w i : ℕ) → bit_of (w / 2) i ≡ bit_of w (suc i)
half_bits w i = ap (λ (x : ℕ). eqb (x % 2) 1) (div-div-eq-div-mul w 2 (2 ^ i) ∙ ap (λ (x : ℕ). w / x) (sym (pow-succ' 2 i)))

pub lowest_bit : (w : ℕ) → bit_of w 0 ≡ eqb (w % 2) 1
lowest_bit w = ap (λ (x : ℕ). eqb (x % 2) 1) (div-one w)

-- numbers below 2^k with the same bits are equal
pub same_bits : (k w v : ℕ) → w < 2 ^ k → v < 2 ^ k → ((i : ℕ) → i < k → bit_of w i ≡ bit_of v i) → w ≡ v
same_bits zero w v l m h = omega arith
same_bits (suc k) w v l m h =
    let d : 2 ^ suc k ≡ 2 ^ k + 2 ^ k = two-pow-succ k in
    let a : w / 2 ≡ v / 2 = same_bits k (w / 2) (v / 2) (omega arith) (omega arith) (λ i j. half_bits w i ∙ h (suc i) (omega arith) ∙ sym (half_bits v i)) in
    let e : eqb (w % 2) 1 ≡ eqb (v % 2) 1 = sym (lowest_bit w) ∙ h 0 (omega arith) ∙ lowest_bit v in
    let b : w % 2 ≡ v % 2 = sym (digit_of_bit (w % 2) (omega arith)) ∙ ap digit e ∙ digit_of_bit (v % 2) (omega arith) in
    omega arith
