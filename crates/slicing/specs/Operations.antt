-- Operations on columns, slice by slice, and the functions that they make, in their order.
use Rattle.std.specs.Prelude.{ℕ, Bool, true, false, not, ◌&&◌, List, [], ◌∷◌, ◌++◌, map, replicate}
use Rattle.exact.specs.Indices.{listing}
use Rattle.functions.specs.Tables.{Table, value_at, constant, literal, fixed, choice}
use Rattle.adder.specs.Slices.{slice_sum, next_carry, slice_plan}
use Rattle.slicing.specs.declared.Component.{Component}
use Rattle.slicing.specs.declared.Component.TheVariants.{A, B, C, D}
use Rattle.slicing.specs.TwosComplement.{repeated}
use Rattle.slicing.specs.Columns.{Column, Columns}

-- every column with its top slice once more
abbrev pub all_repeated : Columns → Columns
all_repeated x k = repeated (x k)

-- a plan for each column, and then the rest
abbrev pub for_each : (Component → List Table) → List Table → List Table
for_each plan rest = plan A ++ (plan B ++ (plan C ++ (plan D ++ rest)))

-- the negation of f, and the function that is 1 where both f and g are
unfoldable pub negation : ℕ → Table → Table
negation n f = listing n (λ y. not (value_at f y))

unfoldable pub both : ℕ → Table → Table → Table
both n f g = listing n (λ y. value_at f y && value_at g y)

-- the column of w slices whose integers are 0
unfoldable pub zero_column : ℕ → ℕ → Column
zero_column n w = replicate w (constant n false)

-- every slice with qubit q set to b
unfoldable pub fixed_column : ℕ → ℕ → Bool → Column → Column
fixed_column n q b ss = map (λ (f : Table). fixed n f q b) ss

-- f chooses the slices of ps, else those of qs
unfoldable pub chosen_column : ℕ → Table → Column → Column → Column
chosen_column n f [] qs = []
chosen_column n f (p ∷ ps) [] = []
chosen_column n f (p ∷ ps) (q ∷ qs) = choice n f p q ∷ chosen_column n f ps qs

-- the column with qubit q turned: its literal chooses the slices fixed to 0, else those fixed to 1
unfoldable pub flipped_column : ℕ → ℕ → Column → Column
flipped_column n q ss = chosen_column n (literal n q) (fixed_column n q false ss) (fixed_column n q true ss)

unfoldable pub flip_plan : ℕ → ℕ → Column → List Table
flip_plan n q ss = fixed_column n q false ss ++ (fixed_column n q true ss ++ flipped_column n q ss)

-- the slices of a sum of two columns from the carry c on, and what they make: the second column is subtracted where e is 1
unfoldable pub sums_from : ℕ → Table → Table → Column → Column → Column
sums_from n e c [] qs = []
sums_from n e c (p ∷ ps) [] = []
sums_from n e c (p ∷ ps) (q ∷ qs) = slice_sum n p q e c ∷ sums_from n e (next_carry n p q e c) ps qs

unfoldable pub sums_plan : ℕ → Table → Table → Column → Column → List Table
sums_plan n e c [] qs = []
sums_plan n e c (p ∷ ps) [] = []
sums_plan n e c (p ∷ ps) (q ∷ qs) = slice_plan n p q e c ++ sums_plan n e (next_carry n p q e c) ps qs

-- ADD(P, Q, e): P + Q, and P − Q where e is 1, as far as the slices reach; e is the first carry
unfoldable pub added : ℕ → Table → Column → Column → Column
added n e ps qs = sums_from n e e ps qs

unfoldable pub addition_plan : ℕ → Table → Column → Column → List Table
addition_plan n e ps qs = e ∷ sums_plan n e e ps qs
