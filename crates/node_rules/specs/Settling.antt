-- A rule with an operand settled, where its handle is a constant or equals an earlier one.
use Rattle.std.specs.Prelude.{◌≡◌, ℕ, ◌<◌, ◌≤◌, Bool}
use Rattle.functions.specs.Tables.{ruled}
use Rattle.node_rules.specs.declared.operands.Operand.{Operand}
use Rattle.node_rules.specs.Rules.{bit_of, Ignores}
use Rattle.node_rules.specs.Combinations.{Values}

-- r answers as the rule does where the operand o has the value of the handle h, and ignores it if h is a constant
pub record SetIfConstant (rule : ℕ) (o : Operand) (h r : ℕ) : Type 0 where
  pub same : (v : ℕ → Bool) → Values v → (a b c : Bool) → bit_of o a b c ≡ v h → ruled r a b c ≡ ruled rule a b c
  pub constant : h < 2 → Ignores r o
  pub still : (p : Operand) → Ignores rule p → Ignores r p

-- r answers as the rule does where the operand o has the value of another, and ignores it, if their handles are equal and no
-- constant
pub record MergedIfEqual (rule : ℕ) (o : Operand) (h : ℕ) (other : Operand) (k r : ℕ) : Type 0 where
  pub same : (a b c : Bool) → (h ≡ k → bit_of o a b c ≡ bit_of other a b c) → ruled r a b c ≡ ruled rule a b c
  pub equal : (o ≡ other → ⊥) → 2 ≤ h → h ≡ k → Ignores r o
  pub still : (p : Operand) → (p ≡ other → ⊥) → Ignores rule p → Ignores r p
