-- Division of four columns by √2, and the normal form of a list of quadruples in columns.
use Rattle.std.specs.Prelude.{ℕ, zero, suc, Bool, true, false, cond, ◌&&◌, List, [], ◌∷◌, drop, slice_index_or}
use Rattle.functions.specs.Tables.{Table, constant}
use Rattle.functions.specs.Sets.{same}
use Rattle.adder.specs.Slices.{turned}
use Rattle.slicing.specs.declared.Component.{Component}
use Rattle.slicing.specs.declared.Component.TheVariants.{A, B, C, D}
use Rattle.slicing.specs.Columns.{Column, Columns}
use Rattle.slicing.specs.Operations.{all_repeated, for_each, added, addition_plan}

-- the odd sum of the lowest slices of two columns
unfoldable pub lowest_odd_sum : ℕ → Column → Column → Table
lowest_odd_sum n ps qs = turned n (slice_index_or ps 0 []) (slice_index_or qs 0 [])

-- of a with c, and of b with d; and whether both are the constant 0, so that √2 divides every quadruple
unfoldable pub odd_a_c : ℕ → Columns → Table
odd_a_c n x = lowest_odd_sum n (x A) (x C)

unfoldable pub odd_b_d : ℕ → Columns → Table
odd_b_d n x = lowest_odd_sum n (x B) (x D)

unfoldable pub divisible : ℕ → Columns → Bool
divisible n x = same (odd_a_c n x) (constant n false) && same (odd_b_d n x) (constant n false)

-- a sum or difference of two components
pub record PairSum : Type 0 where
  pub first : Component
  pub second : Component
  pub minus : Bool

-- the components of √2 times a quadruple: b − d, a + c, b + d, c − a
abbrev pub root_sum : Component → PairSum
root_sum A = record { first = B; second = D; minus = true }
root_sum B = record { first = A; second = C; minus = false }
root_sum C = record { first = B; second = D; minus = false }
root_sum D = record { first = C; second = A; minus = true }

unfoldable pub summed : ℕ → Columns → PairSum → Column
summed n x s = added n (constant n s.minus) (x s.first) (x s.second)

unfoldable pub summed_plan : ℕ → Columns → PairSum → List Table
summed_plan n x s = addition_plan n (constant n s.minus) (x s.first) (x s.second)

-- divided by √2: half of √2 times the quadruples, which is all but the lowest slice
unfoldable pub divided : ℕ → Columns → Columns
divided n x k = drop 1 (summed n (all_repeated x) (root_sum k))

-- the normal form of columns with the power k: while √2 divides them and the power is above 0, divide; no slice is dropped
-- from the top meanwhile
unfoldable pub reduced_columns : ℕ → ℕ → Columns → Columns
reduced_columns n zero x = x
reduced_columns n (suc k) x = let lower = reduced_columns n k (divided n x) in cond (divisible n x) lower x

unfoldable pub reduced_power : ℕ → ℕ → Columns → ℕ
reduced_power n zero x = zero
reduced_power n (suc k) x = let lower = reduced_power n k (divided n x) in cond (divisible n x) lower (suc k)

-- the functions made: at a power above 0 both odd sums, and where both are 0 those of the division and again
unfoldable pub reduction_plan : ℕ → ℕ → Columns → List Table
reduction_plan n zero x = []
reduction_plan n (suc k) x =
    let more = for_each (λ c. summed_plan n (all_repeated x) (root_sum c)) (reduction_plan n k (divided n x)) in
    odd_a_c n x ∷ odd_b_d n x ∷ cond (divisible n x) more []
