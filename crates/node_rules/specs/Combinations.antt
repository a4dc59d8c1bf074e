-- Combinations that ask for the same, whatever their handles stand for.
use Rattle.std.specs.Prelude.{◌≡◌, ℕ, ◌<◌, Bool, true, false, ◌⊎◌, Some, None, Option}
use Rattle.functions.specs.Tables.{ruled}
use Rattle.functions.specs.declared.combination.Combination.{Combination}
use Rattle.node_rules.specs.declared.operands.Operand.TheVariants.{First, Second, Third}
use Rattle.node_rules.specs.Rules.{Ignores}

-- a value for each handle, as at one index: the constants have theirs
pub record Values (v : ℕ → Bool) : Type 0 where
  pub zero : v 0 ≡ false
  pub one : v 1 ≡ true

-- what a rule gives of the values of three handles
abbrev pub given : (ℕ → Bool) → ℕ → ℕ → ℕ → ℕ → Bool
given v rule f g h = ruled rule (v f) (v g) (v h)

abbrev pub result : (ℕ → Bool) → Combination → Bool
result v c = given v c.rule c.f c.g c.h

-- 0 in place of a handle that is ignored
abbrev pub Taken : Type 0 → ℕ → ℕ → Type 0
Taken ignored given taken = (ignored × (taken ≡ 0)) ⊎ ((ignored → ⊥) × (taken ≡ given))

-- r asks for the same as c, of no handle that is a constant, equals an earlier one or does not matter; 0 stands for these.
pub record Simplified (c r : Combination) : Type 0 where
  pub same : (v : ℕ → Bool) → Values v → result v r ≡ result v c
  pub first : Taken (Ignores r.rule First) c.f r.f
  pub second : Taken (Ignores r.rule Second) c.g r.g
  pub third : Taken (Ignores r.rule Third) c.h r.h
  pub first_constant : c.f < 2 → Ignores r.rule First
  pub second_constant : c.g < 2 → Ignores r.rule Second
  pub second_equal : c.g ≡ c.f → Ignores r.rule Second
  pub third_constant : c.h < 2 → Ignores r.rule Third
  pub third_equal : (c.h ≡ c.f) ⊎ (c.h ≡ c.g) → Ignores r.rule Third

-- r is a constant or one of the three, and always has the value that is asked for
pub record Plain (c : Combination) (r : ℕ) : Type 0 where
  pub same : (v : ℕ → Bool) → Values v → v r ≡ result v c
  pub one_of : (r < 2) ⊎ ((r ≡ c.f) ⊎ ((r ≡ c.g) ⊎ (r ≡ c.h)))

-- the rule is neither constant nor a copy of an operand
pub record Mixed (rule : ℕ) : Type 0 where
  pub not_zero : ((a b c : Bool) → ruled rule a b c ≡ false) → ⊥
  pub not_one : ((a b c : Bool) → ruled rule a b c ≡ true) → ⊥
  pub not_first : ((a b c : Bool) → ruled rule a b c ≡ a) → ⊥
  pub not_second : ((a b c : Bool) → ruled rule a b c ≡ b) → ⊥
  pub not_third : ((a b c : Bool) → ruled rule a b c ≡ c) → ⊥

-- The answer that a combination has by its rule alone, if it has one.
abbrev pub Outright : Combination → Option ℕ → Type 0
Outright c (Some r) = Plain c r
Outright c None = Mixed c.rule
