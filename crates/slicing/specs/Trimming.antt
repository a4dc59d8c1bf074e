-- Trimming four columns to the least width that holds all of their integers.
use Rattle.std.specs.Prelude.{ℕ, zero, suc, Bool, cond, ◌&&◌, [], take, slice_index_or}
use Rattle.functions.specs.Sets.{same}
use Rattle.slicing.specs.declared.Component.TheVariants.{A, B, C, D}
use Rattle.slicing.specs.Columns.{Column, Columns}

-- whether slices j and j+1 of a column are equal, and whether they are in all four
unfoldable pub same_next : Column → ℕ → Bool
same_next ss j = same (slice_index_or ss j []) (slice_index_or ss (suc j) [])

unfoldable pub all_same_next : Columns → ℕ → Bool
all_same_next x j = same_next (x A) j && (same_next (x B) j && (same_next (x C) j && same_next (x D) j))

-- the width to which w slices are trimmed: while in all four columns the top slice equals the next, it goes
unfoldable pub trimmed_width : Columns → ℕ → ℕ
trimmed_width x zero = zero
trimmed_width x (suc zero) = suc zero
trimmed_width x (suc (suc w)) = let less = trimmed_width x (suc w) in cond (all_same_next x w) less (suc (suc w))

unfoldable pub trimmed : ℕ → Columns → Columns
trimmed w x k = take (trimmed_width x w) (x k)
