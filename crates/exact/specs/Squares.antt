-- Squares of quadruples, and their sums over sets of indices.
use Rattle.std.specs.Prelude.{ℕ, ◌+◌, ◌*◌, ◌^◌, Bool, true, cond, not, List, ℤ, pos, ◌+ℤ◌, ◌-ℤ◌, ◌*ℤ◌, neg_ℤ, unsigned_abs}
use Rattle.std.specs.Bool.{beq}
use Rattle.exact.specs.declared.Quadruple.{Quadruple}
use Rattle.exact.specs.declared.RootTwoPower.{RootTwoPower}
use Rattle.exact.specs.declared.TwoPower.{TwoPower}
use Rattle.exact.specs.declared.Weight.{Weight}
use Rattle.exact.specs.Indices.{Index, bit, at_index, total}
use Rattle.exact.specs.Quadruples.{quadruple, zero_quadruple}
use Rattle.exact.specs.States.{State}

-- the number whole + root · √2
pub record Square : Type 0 where
  pub whole : ℕ
  pub root : ℤ

abbrev pub squared : ℤ → ℕ
squared z = unsigned_abs z * unsigned_abs z

-- |aω³ + bω² + cω + d|² is a²+b²+c²+d² and √2 times ab+bc+cd−ad
abbrev pub square : Quadruple → Square
square q = record {
  whole = squared q.a + squared q.b + squared q.c + squared q.d;
  root = q.a *ℤ q.b +ℤ q.b *ℤ q.c +ℤ q.c *ℤ q.d -ℤ q.a *ℤ q.d;
}

-- as a quadruple, since √2 = ω − ω³
abbrev pub square_quadruple : Square → Quadruple
square_quadruple s = quadruple (neg_ℤ s.root) (pos 0) s.root (pos s.whole)

abbrev pub no_square : Square
no_square = record { whole = 0; root = pos 0 }

abbrev pub add_squares : Square → Square → Square
add_squares s t = record { whole = s.whole + t.whole; root = s.root +ℤ t.root }

-- the squares of numbers divided k times by √2 are divided k times by 2
abbrev pub power_of_squares : RootTwoPower → TwoPower
power_of_squares k = record { 0 = k.0 }

-- 2^k, and 2^k times a square
abbrev pub power_of_2 : TwoPower → Square
power_of_2 k = record { whole = 2 ^ k.0; root = pos 0 }

abbrev pub times_power_of_2 : TwoPower → Square → Square
times_power_of_2 k s = record { whole = 2 ^ k.0 * s.whole; root = pos (2 ^ k.0) *ℤ s.root }

-- the quadruple at an index
abbrev pub quadruple_at : List Quadruple → Index → Quadruple
quadruple_at v x = at_index zero_quadruple v x

-- the square at an index if p holds there, and the sum over the indices of n qubits
abbrev pub square_if : (Index → Bool) → List Quadruple → Index → Square
square_if p v x = cond (p x) (square (quadruple_at v x)) no_square

unfoldable pub sum_of_squares : ℕ → (Index → Bool) → List Quadruple → Square
sum_of_squares n p v = total add_squares n (square_if p v)

abbrev pub everywhere : Index → Bool
everywhere x = true

abbrev pub elsewhere : (Index → Bool) → Index → Bool
elsewhere p x = not (p x)

-- qubit q has the outcome b
abbrev pub outcome : ℕ → Bool → Index → Bool
outcome q b x = beq (bit x q) b

-- the weight of a set of indices
abbrev pub weight : ℕ → (Index → Bool) → State → Weight
weight n p s = record {
  whole = (sum_of_squares n p s.quadruples).whole;
  root = (sum_of_squares n p s.quadruples).root;
  power = power_of_squares s.power;
}
