-- Operands of rules, and rules that do not look at one.
use Rattle.std.specs.Prelude.{◌≡◌, ℕ, Bool, false}
use Rattle.functions.specs.Tables.{ruled}
use Rattle.node_rules.specs.declared.operands.Operand.{Operand}
use Rattle.node_rules.specs.declared.operands.Operand.TheVariants.{First, Second, Third}

-- what an operand counts in the number 4a + 2b + c
abbrev pub weight : Operand → ℕ
weight First = 4
weight Second = 2
weight Third = 1

-- the bit at an operand
abbrev pub bit_of : Operand → Bool → Bool → Bool → Bool
bit_of First a b c = a
bit_of Second a b c = b
bit_of Third a b c = c

-- what a rule answers at a, b and c with one of them replaced by d
abbrev pub replaced : ℕ → Operand → Bool → Bool → Bool → Bool → Bool
replaced rule First d a b c = ruled rule d b c
replaced rule Second d a b c = ruled rule a d c
replaced rule Third d a b c = ruled rule a b d

-- the rule does not look at an operand
abbrev pub Ignores : ℕ → Operand → Type 0
Ignores rule o = (a b c : Bool) → ruled rule a b c ≡ replaced rule o false a b c
