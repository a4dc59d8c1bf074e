-- Rules with one operand replaced.
use Rattle.std.proofs.Common.{◌≡◌, ℕ, ◌+◌, ◌-◌, ◌*◌, ◌/◌, ◌%◌, ◌^◌, ◌<◌, min, max, Bool, true, false, cond, eqb, sym, refl, ap, ◌∙◌, ap₂, w8, arith}
use lib.Bits.{bit_and, bit_or}
use Rattle.std.specs.Int.{bit_at}
use Rattle.std.proofs.lemmas.Bool.Decides.{nat_tests}
use Rattle.std.proofs.lemmas.Nat.Bits.{bit_at_and, bit_at_or, bit_at_not}
use Rattle.functions.specs.Tables.{ruled, digit}
use Rattle.node_rules.specs.declared.operands.Operand.{Operand}
use Rattle.node_rules.specs.declared.operands.Operand.TheVariants.{First, Second, Third}
use Rattle.node_rules.specs.Rules.{weight, bit_of, replaced}
use Rattle.node_rules.proofs.AllRules.{first_1, first_0, second_1, second_0, third_1, third_0, same_rule, rule_240, rule_204, rule_170}

-- the rule that copies an operand
abbrev pub copy : Operand → ℕ
copy First = 240
copy Second = 204
copy Third = 170

pub copy_is : (o : Operand) (m : ℕ) → m < 256 → ((a b c : Bool) → ruled m a b c ≡ bit_of o a b c) → m ≡ copy o
copy_is First m k e = same_rule m 240 k (omega arith) (λ a b c. e a b c ∙ sym (rule_240 a b c))
copy_is Second m k e = same_rule m 204 k (omega arith) (λ a b c. e a b c ∙ sym (rule_204 a b c))
copy_is Third m k e = same_rule m 170 k (omega arith) (λ a b c. e a b c ∙ sym (rule_170 a b c))

-- an operand set to a bit
with_copy_1 : (o : Operand) (rule : ℕ) → rule < 256 → (a b c : Bool) → ruled (bit_or (bit_and rule (copy o)) (bit_and rule (copy o) / 2 ^ weight o)) a b c ≡ replaced rule o true a b c
with_copy_1 First = first_1
with_copy_1 Second = second_1
with_copy_1 Third = third_1

with_copy_0 : (o : Operand) (rule : ℕ) → rule < 256 → (a b c : Bool) → ruled (bit_or (bit_and rule (255 - copy o)) (bit_and rule (255 - copy o) * 2 ^ weight o % 256)) a b c ≡ replaced rule o false a b c
with_copy_0 First = first_0
with_copy_0 Second = second_0
with_copy_0 Third = third_0

module _ (o : Operand) (rule m w : ℕ) (l : rule < 256) (k : m < 256) (e : (a b c : Bool) → ruled m a b c ≡ bit_of o a b c) (q : w ≡ weight o) where
  pub set_to_1 : (a b c : Bool) → ruled (bit_or (bit_and rule m) (bit_and rule m / 2 ^ w)) a b c ≡ replaced rule o true a b c
  set_to_1 = rw (copy_is o m k e, q) (with_copy_1 o rule l)

  pub set_to_0 : (a b c : Bool) → ruled (bit_or (bit_and rule (255 - m)) (bit_and rule (255 - m) * 2 ^ w % 256)) a b c ≡ replaced rule o false a b c
  set_to_0 = rw (copy_is o m k e, q) (with_copy_0 o rule l)

-- one rule where m is 1, another where it is 0
chosen_digit : (x y m : ℕ) → x < 2 → y < 2 → m < 2 → eqb (max (min x m) (min y (1 - m))) 1 ≡ cond (eqb m 1) (eqb x 1) (eqb y 1)
chosen_digit x y m p q r = grind (arith, nat_tests)

chosen : (x y m i : ℕ) → m < 256 → i < 8 → eqb (bit_or (bit_and x m) (bit_and y (255 - m)) / 2 ^ i % 2) 1 ≡ cond (eqb (m / 2 ^ i % 2) 1) (eqb (x / 2 ^ i % 2) 1) (eqb (y / 2 ^ i % 2) 1)
chosen x y m i l k =
    let digits = ap₂ max (bit_at_and x m i) (bit_at_and y (255 - m) i ∙ ap (min (bit_at y i)) (bit_at_not w8 m i l k)) in
    ap (λ (z : ℕ). eqb z 1) (bit_at_or (bit_and x m) (bit_and y (255 - m)) i ∙ digits)
    ∙ chosen_digit (bit_at x i) (bit_at y i) (bit_at m i) (let z = x / 2 ^ i in omega arith) (let z = y / 2 ^ i in omega arith) (let z = m / 2 ^ i in omega arith)

below_two : (a : Bool) → digit a < 2
below_two true = omega arith
below_two false = omega arith

pub chosen_ruled : (x y m : ℕ) → m < 256 → (a b c : Bool) → ruled (bit_or (bit_and x m) (bit_and y (255 - m))) a b c ≡ cond (ruled m a b c) (ruled x a b c) (ruled y a b c)
unfolding ruled
chosen_ruled x y m l a b c = chosen x y m (4 * digit a + 2 * digit b + digit c) l (omega (arith, below_two a, below_two b, below_two c))

-- another operand taken for one
either_replaced : (rule : ℕ) (o : Operand) (d a b c : Bool) → cond d (replaced rule o true a b c) (replaced rule o false a b c) ≡ replaced rule o d a b c
either_replaced rule o true a b c = refl
either_replaced rule o false a b c = refl

pub merged : (rule : ℕ) (o p : Operand) (x y m : ℕ) → m < 256 → ((a b c : Bool) → ruled x a b c ≡ replaced rule o true a b c) → ((a b c : Bool) → ruled y a b c ≡ replaced rule o false a b c) → ((a b c : Bool) → ruled m a b c ≡ bit_of p a b c) → (a b c : Bool) → ruled (bit_or (bit_and x m) (bit_and y (255 - m))) a b c ≡ replaced rule o (bit_of p a b c) a b c
merged rule o p x y m l e₁ e₀ e a b c = chosen_ruled x y m l a b c ∙ rw (e₁ a b c, e₀ a b c, e a b c) (either_replaced rule o (bit_of p a b c) a b c)
