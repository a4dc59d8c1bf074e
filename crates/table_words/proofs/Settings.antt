-- The number of an index with one bit set.
use Rattle.std.proofs.Common.{◌≡◌, ℕ, zero, suc, ◌+◌, ◌-◌, ◌*◌, ◌/◌, ◌%◌, ◌^◌, ◌<◌, ◌≤◌, Bool, true, false, cond, [], ◌∷◌, length, set, sym, ap, ◌∙◌, subst, mul_comm, mul-le-mul_left, arith, length-set}
use native.Mathlib.Nat.{mul-div-le}
use Rattle.exact.specs.Indices.{Index, number, bits, bit, with_bit}
use Rattle.exact.proofs.Tables.{bits_of_number, highest_first}
use Rattle.functions.specs.Tables.{digit}
use Rattle.table_words.specs.Words.{bit_of}
use Rattle.table_words.proofs.Bits.{digit_of_bit}

-- the bit of qubit q is worth 2^(n−1−q)
pub index_bit : (n q : ℕ) (x : Index) → length x ≡ n → q < n → bit x q ≡ bit_of (number x) (n - 1 - q)
index_bit n q x l h =
    ap (λ (y : Index). bit y q) (sym (subst (λ (m : ℕ). ◌≡◌ {A = Index} (bits m (number x)) x) l (bits_of_number x)))
    ∙ highest_first n q (number x) h

-- setting it moves the number by its worth
turned : (p m : ℕ) (b c : Bool) → cond b p 0 + m + digit c * p ≡ cond c p 0 + m + digit b * p
turned p m true true = omega arith
turned p m true false = omega arith
turned p m false true = omega arith
turned p m false false = omega arith

moved : (x : Index) (q : ℕ) (b : Bool) → q < length x → number (with_bit x q b) + digit (bit x q) * 2 ^ (length x - 1 - q) ≡ number x + digit b * 2 ^ (length x - 1 - q)
unfolding number
moved [] q b l = absurd (omega arith)
moved (c ∷ x) zero b l =
    let e : suc (length x) - 1 - 0 ≡ length x = omega arith in
    subst (λ (s : ℕ). cond b (2 ^ length x) 0 + number x + digit c * 2 ^ s ≡ cond c (2 ^ length x) 0 + number x + digit b * 2 ^ s) (sym e) (turned (2 ^ length x) (number x) b c)
moved (c ∷ x) (suc q) b l =
    let e : suc (length x) - 1 - suc q ≡ length x - 1 - q = omega arith in
    subst (λ (s : ℕ). cond c (2 ^ length (set x q b)) 0 + number (set x q b) + digit (bit x q) * 2 ^ s ≡ cond c (2 ^ length x) 0 + number x + digit b * 2 ^ s) (sym e)
    (ap (λ (m : ℕ). cond c (2 ^ m) 0 + number (set x q b) + digit (bit x q) * 2 ^ (length x - 1 - q)) (length-set x q b)
    ∙ before (cond c (2 ^ length x) 0) (number (set x q b)) (number x) (digit (bit x q) * 2 ^ (length x - 1 - q)) (digit b * 2 ^ (length x - 1 - q)) (moved x q b (omega arith)))
  where
    before : (k m i u v : ℕ) → m + u ≡ i + v → k + m + u ≡ k + i + v
    before k m i u v h = omega arith

-- what a bit is worth in a number
pub bit_within : (i s : ℕ) → i / 2 ^ s % 2 * 2 ^ s ≤ i
bit_within i s =
    let a : i / 2 ^ s % 2 ≤ i / 2 ^ s = (let x = i / 2 ^ s in omega arith) in
    let b : 2 ^ s * (i / 2 ^ s % 2) ≤ 2 ^ s * (i / 2 ^ s) = mul-le-mul_left (2 ^ s) a in
    let c : 2 ^ s * (i / 2 ^ s) ≤ i = mul-div-le i (2 ^ s) in
    let d : i / 2 ^ s % 2 * 2 ^ s ≡ 2 ^ s * (i / 2 ^ s % 2) = mul_comm (i / 2 ^ s % 2) (2 ^ s) in
    omega arith

-- the number of an index with a bit set
pub with_bit_number : (n q : ℕ) (x : Index) (b : Bool) → length x ≡ n → q < n → number (with_bit x q b) ≡ number x - number x / 2 ^ (n - 1 - q) % 2 * 2 ^ (n - 1 - q) + digit b * 2 ^ (n - 1 - q)
with_bit_number n q x b l h = by (number (with_bit x q b)) (number x) (number x / 2 ^ (n - 1 - q) % 2 * 2 ^ (n - 1 - q)) (digit b * 2 ^ (n - 1 - q)) (bit_within (number x) (n - 1 - q))
    (ap (λ (d : ℕ). number (with_bit x q b) + d * 2 ^ (n - 1 - q)) (sym (ap digit (index_bit n q x l h) ∙ digit_of_bit (number x / 2 ^ (n - 1 - q) % 2) (let y = number x / 2 ^ (n - 1 - q) in omega arith)))
    ∙ subst (λ (m : ℕ). number (with_bit x q b) + digit (bit x q) * 2 ^ (m - 1 - q) ≡ number x + digit b * 2 ^ (m - 1 - q)) l (moved x q b (omega arith)))
  where
    by : (m i d v : ℕ) → d ≤ i → m + d ≡ i + v → m ≡ i - d + v
    by m i d v k e = omega arith
