-- What division by √2 and the normal form make, and what their answers stand for.
use Rattle.std.specs.Prelude.{◌≡◌, ℕ, Bool, List, [], ◌∷◌, length, Ok, Err, Result}
use Rattle.functions.specs.declared.faults.StoreFault.{StoreFault}
use Rattle.functions.specs.Tables.{Table}
use Rattle.functions.specs.Meanings.{Meaning, qubits_of}
use Rattle.functions.specs.Growth.{Built}
use Rattle.slicing.specs.Columns.{Columns as Four}
use Rattle.slicing.specs.Operations.{all_repeated, for_each}
use Rattle.slicing.specs.Divisions.{odd_a_c, odd_b_d, divisible, root_sum, summed_plan, divided, reduced_columns, reduced_power, reduction_plan}
use Rattle.columns.specs.declared.four.Columns.{Columns}
use Rattle.columns.specs.Columns.{AllStand}
use Rattle.reductions.specs.declared.reduced.Reduced.{Reduced}

-- Both odd sums are made, whatever the first is, and the answer is whether √2 divides the columns.
unfoldable pub AskedDivisible : Meaning → Meaning → Columns 24 → Result Bool StoreFault → Type 0
AskedDivisible v w hs r =
    (x : Four) → AllStand v hs x
    → Built v w (odd_a_c (qubits_of v) x ∷ (odd_b_d (qubits_of v) x ∷ [])) r (λ b. b ≡ divisible (qubits_of v) x)

-- the functions that a division makes
unfoldable pub division_plan : ℕ → Four → List Table
division_plan n x = for_each (λ k. summed_plan n (all_repeated x) (root_sum k)) []

unfoldable pub ColumnsDivided : Meaning → Meaning → Columns 24 → Result (Columns 24) StoreFault → Type 0
ColumnsDivided v w hs r =
    (x : Four) → AllStand v hs x
    → Built v w (division_plan (qubits_of v) x) r (λ y. AllStand w y (divided (qubits_of v) x))

-- the columns answered, if any, have this number of slices
abbrev pub SlicedToo : ℕ → Result Reduced StoreFault → Type 0
SlicedToo slices (Ok y) = length y.columns.a ≡ slices
SlicedToo slices (Err e) = Unit {0}

-- the answer has the power and stands for the columns of the normal form of x with the power k
pub record ReducedTo (w : Meaning) (n k : ℕ) (x : Four) (y : Reduced) : Type 0 where
  pub power : y.power.0 ≡ reduced_power n k x
  pub stand : AllStand w y.columns (reduced_columns n k x)

unfoldable pub ColumnsReduced : Meaning → Meaning → Columns 24 → ℕ → Result Reduced StoreFault → Type 0
ColumnsReduced v w hs k r =
    (x : Four) → AllStand v hs x
    → Built v w (reduction_plan (qubits_of v) k x) r (ReducedTo w (qubits_of v) k x)
