-- A word made of a pattern's values, from the highest bit down.
use Rattle.std.proofs.Common.{◌≡◌, ℕ, zero, suc, ◌+◌, ◌-◌, ◌*◌, ◌/◌, ◌%◌, ◌^◌, ◌<◌, ◌≤◌, Bool, true, false, eqb, sym, refl, ap, ◌∙◌, subst, arith}
use native.Mathlib.Nat.{two-pow-succ}
use mir.Val.{bool_byte}
use Rattle.functions.specs.Tables.{digit}
use Rattle.table_words.specs.Words.{bit_of}
use Rattle.table_words.proofs.Bits.{half_bits, lowest_bit}

-- the bits from i on are made, as the lowest of w
pub record Gathering (p : ℕ → Bool) (first w i : ℕ) : Type 0 where
  pub few : i ≤ 64
  pub small : w < 2 ^ (64 - i)
  pub same : (k : ℕ) → i + k < 64 → bit_of w k ≡ p (first + (i + k))

pub byte_digit : (b : Bool) → bool_byte b ≡ digit b
byte_digit true = refl
byte_digit false = refl

digit_small : (b : Bool) → digit b ≤ 1
digit_small true = omega arith
digit_small false = omega arith

last_bit : (w : ℕ) (b : Bool) → eqb ((2 * w + digit b) % 2) 1 ≡ b
last_bit w true = let a : (2 * w + 1) % 2 ≡ 1 = omega arith in ap (λ (x : ℕ). eqb x 1) a
last_bit w false = let a : (2 * w + 0) % 2 ≡ 0 = omega arith in ap (λ (x : ℕ). eqb x 1) a

pub gathering_more : (p : ℕ → Bool) (first w i : ℕ) (b : Bool) → 0 < i → b ≡ p (first + (i - 1)) → Gathering p first w i → Gathering p first (2 * w + digit b) (i - 1)
gathering_more p first w i b pos e g =
    let f : i ≤ 64 = g.few in
    let z : 64 - (i - 1) ≡ suc (64 - i) = omega arith in
    let q : 2 ^ suc (64 - i) ≡ 2 ^ (64 - i) + 2 ^ (64 - i) = two-pow-succ (64 - i) in
    let d : digit b ≤ 1 = digit_small b in
    let s : w < 2 ^ (64 - i) = g.small in
    record {
      few = omega arith;
      small = subst (λ (k : ℕ). 2 * w + digit b < 2 ^ k) (sym z) (let r : 2 * w + digit b < 2 ^ suc (64 - i) = omega arith in r);
      same = bits;
    }
  where
    bits : (k : ℕ) → i - 1 + k < 64 → bit_of (2 * w + digit b) k ≡ p (first + (i - 1 + k))
    bits zero l = let x : i - 1 ≡ i - 1 + 0 = omega arith in lowest_bit (2 * w + digit b) ∙ last_bit w b ∙ e ∙ ap (λ (m : ℕ). p (first + m)) x
    bits (suc k) l =
        let d : digit b ≤ 1 = digit_small b in
        let h : (2 * w + digit b) / 2 ≡ w = omega arith in
        let x : i + k ≡ i - 1 + suc k = omega arith in
        sym (half_bits (2 * w + digit b) k) ∙ ap (λ (v : ℕ). bit_of v k) h ∙ g.same k (omega arith) ∙ ap (λ (m : ℕ). p (first + m)) x
