-- Facts about rules, by trying all 256 of them.
use Rattle.std.proofs.Common.{◌≡◌, ℕ, zero, suc, ◌+◌, ◌*◌, ◌/◌, ◌%◌, ◌<◌, Bool, true, false, ◌&&◌, eqb, sym, refl, ap, ◌∙◌, ⊎_elim, arith}
use mathlib.Core.Bool.{beq}
use lib.Bits.{bit_and, bit_or}
use Rattle.std.proofs.lemmas.Bool.{and_parts, eqb-true, cases_eq}
use Rattle.functions.specs.Tables.{ruled, digit}

-- whether p holds of every number below n
every : ℕ → (ℕ → Bool) → Bool
every zero p = true
every (suc n) p = p n && every n p

every_at : (n : ℕ) (p : ℕ → Bool) → every n p ≡ true → (k : ℕ) → k < n → p k ≡ true
unfolding every
every_at zero p all k h = absurd (omega arith)
every_at (suc n) p all k h =
    ⊎_elim (λ (e : k ≡ n). ap p e ∙ (and_parts (p n) (every n p) all).0)
    (λ (d : k ≡ n → ⊥). every_at n p (and_parts (p n) (every n p) all).1 k (omega arith))
    (cases_eq k n)

-- rules as tables of eight answers
abbrev Answers : Type 0
Answers = Bool → Bool → Bool → Bool

beq_equal : (a b : Bool) → beq a b ≡ true → a ≡ b
beq_equal true true e = refl
beq_equal true false e = sym e
beq_equal false true e = e
beq_equal false false e = refl

same_pair : Answers → Answers → Bool → Bool → Bool
same_pair p q a b = beq (p a b true) (q a b true) && beq (p a b false) (q a b false)

same_half : Answers → Answers → Bool → Bool
same_half p q a = same_pair p q a true && same_pair p q a false

same_answers : Answers → Answers → Bool
same_answers p q = same_half p q true && same_half p q false

same_pair_at : (p q : Answers) (a b : Bool) → same_pair p q a b ≡ true → (c : Bool) → p a b c ≡ q a b c
unfolding same_pair
same_pair_at p q a b e true = beq_equal _ _ (and_parts _ _ e).0
same_pair_at p q a b e false = beq_equal _ _ (and_parts _ _ e).1

same_half_at : (p q : Answers) (a : Bool) → same_half p q a ≡ true → (b c : Bool) → p a b c ≡ q a b c
unfolding same_half
same_half_at p q a e true c = same_pair_at p q a true (and_parts _ _ e).0 c
same_half_at p q a e false c = same_pair_at p q a false (and_parts _ _ e).1 c

same_answers_at : (p q : Answers) → same_answers p q ≡ true → (a b c : Bool) → p a b c ≡ q a b c
unfolding same_answers
same_answers_at p q e true b c = same_half_at p q true (and_parts _ _ e).0 b c
same_answers_at p q e false b c = same_half_at p q false (and_parts _ _ e).1 b c

-- made is, for every rule, the rule whose answers are those of `wanted`
module _ (made : ℕ → ℕ) (wanted : ℕ → Answers) where
  right : ℕ → Bool
  right rule = same_answers (ruled (made rule)) (wanted rule)

  by_trying : every 256 right ≡ true → (rule : ℕ) → rule < 256 → (a b c : Bool) → ruled (made rule) a b c ≡ wanted rule a b c
  unfolding right
  by_trying all rule h = same_answers_at (ruled (made rule)) (wanted rule) (every_at 256 right all rule h)

-- an operand set to a bit
pub first_1 : (rule : ℕ) → rule < 256 → (a b c : Bool) → ruled (bit_or (bit_and rule 240) (bit_and rule 240 / 16)) a b c ≡ ruled rule true b c
unfolding every right same_answers same_half same_pair ruled
first_1 = by_trying (λ rule. bit_or (bit_and rule 240) (bit_and rule 240 / 16)) (λ rule a b c. ruled rule true b c) refl

pub first_0 : (rule : ℕ) → rule < 256 → (a b c : Bool) → ruled (bit_or (bit_and rule 15) (bit_and rule 15 * 16 % 256)) a b c ≡ ruled rule false b c
unfolding every right same_answers same_half same_pair ruled
first_0 = by_trying (λ rule. bit_or (bit_and rule 15) (bit_and rule 15 * 16 % 256)) (λ rule a b c. ruled rule false b c) refl

pub second_1 : (rule : ℕ) → rule < 256 → (a b c : Bool) → ruled (bit_or (bit_and rule 204) (bit_and rule 204 / 4)) a b c ≡ ruled rule a true c
unfolding every right same_answers same_half same_pair ruled
second_1 = by_trying (λ rule. bit_or (bit_and rule 204) (bit_and rule 204 / 4)) (λ rule a b c. ruled rule a true c) refl

pub second_0 : (rule : ℕ) → rule < 256 → (a b c : Bool) → ruled (bit_or (bit_and rule 51) (bit_and rule 51 * 4 % 256)) a b c ≡ ruled rule a false c
unfolding every right same_answers same_half same_pair ruled
second_0 = by_trying (λ rule. bit_or (bit_and rule 51) (bit_and rule 51 * 4 % 256)) (λ rule a b c. ruled rule a false c) refl

pub third_1 : (rule : ℕ) → rule < 256 → (a b c : Bool) → ruled (bit_or (bit_and rule 170) (bit_and rule 170 / 2)) a b c ≡ ruled rule a b true
unfolding every right same_answers same_half same_pair ruled
third_1 = by_trying (λ rule. bit_or (bit_and rule 170) (bit_and rule 170 / 2)) (λ rule a b c. ruled rule a b true) refl

pub third_0 : (rule : ℕ) → rule < 256 → (a b c : Bool) → ruled (bit_or (bit_and rule 85) (bit_and rule 85 * 2 % 256)) a b c ≡ ruled rule a b false
unfolding every right same_answers same_half same_pair ruled
third_0 = by_trying (λ rule. bit_or (bit_and rule 85) (bit_and rule 85 * 2 % 256)) (λ rule a b c. ruled rule a b false) refl

-- the rule with given answers
numbered : Answers → ℕ
numbered p =
    digit (p false false false) + 2 * digit (p false false true) + 4 * digit (p false true false) + 8 * digit (p false true true)
    + 16 * digit (p true false false) + 32 * digit (p true false true) + 64 * digit (p true true false) + 128 * digit (p true true true)

numbered_same : (p q : Answers) → ((a b c : Bool) → p a b c ≡ q a b c) → numbered p ≡ numbered q
unfolding numbered
numbered_same p q e = rw (e true true true, e true true false, e true false true, e true false false, e false true true, e false true false, e false false true, e false false false)

is_numbered : ℕ → Bool
is_numbered rule = eqb rule (numbered (ruled rule))

numbered_ruled : (rule : ℕ) → rule < 256 → rule ≡ numbered (ruled rule)
unfolding every is_numbered numbered ruled
numbered_ruled rule h = eqb-true rule (numbered (ruled rule)) (every_at 256 is_numbered refl rule h)

-- a rule is given by its answers
pub same_rule : (r s : ℕ) → r < 256 → s < 256 → ((a b c : Bool) → ruled r a b c ≡ ruled s a b c) → r ≡ s
same_rule r s h k e = numbered_ruled r h ∙ numbered_same (ruled r) (ruled s) e ∙ sym (numbered_ruled s k)

-- the rules that are constant or copy an operand
pub rule_0 : (a b c : Bool) → ruled 0 a b c ≡ false
unfolding same_answers same_half same_pair ruled
rule_0 = same_answers_at (ruled 0) (λ a b c. false) refl

pub rule_255 : (a b c : Bool) → ruled 255 a b c ≡ true
unfolding same_answers same_half same_pair ruled
rule_255 = same_answers_at (ruled 255) (λ a b c. true) refl

pub rule_240 : (a b c : Bool) → ruled 240 a b c ≡ a
unfolding same_answers same_half same_pair ruled
rule_240 = same_answers_at (ruled 240) (λ a b c. a) refl

pub rule_204 : (a b c : Bool) → ruled 204 a b c ≡ b
unfolding same_answers same_half same_pair ruled
rule_204 = same_answers_at (ruled 204) (λ a b c. b) refl

pub rule_170 : (a b c : Bool) → ruled 170 a b c ≡ c
unfolding same_answers same_half same_pair ruled
rule_170 = same_answers_at (ruled 170) (λ a b c. c) refl
