-- One slice of an addition: the functions that it makes, and its answer.
use Rattle.std.specs.Prelude.{◌≡◌, ℕ, ◌+◌, ◌*◌, List, [], ◌∷◌, length, Some, Result}
use Rattle.exact.specs.Indices.{Index, listing}
use Rattle.functions.specs.declared.faults.StoreFault.{StoreFault}
use Rattle.functions.specs.Tables.{Table, value_at, digit, differ, parity, majority}
use Rattle.functions.specs.Meanings.{Meaning, qubits_of, under}
use Rattle.functions.specs.Growth.{Built}
use Rattle.adder.specs.declared.SliceSum.{SliceSum}

-- D: q, and its negation where e is 1
unfoldable pub turned : ℕ → Table → Table → Table
turned n q e = listing n (λ x. differ (value_at q x) (value_at e x))

unfoldable pub slice_sum : ℕ → Table → Table → Table → Table → Table
slice_sum n p q e c = parity n p (turned n q e) c

unfoldable pub next_carry : ℕ → Table → Table → Table → Table → Table
next_carry n p q e c = majority n p (turned n q e) c

-- the functions that one slice makes, in their order
unfoldable pub slice_plan : ℕ → Table → Table → Table → Table → List Table
slice_plan n p q e c = turned n q e ∷ (slice_sum n p q e c ∷ (next_carry n p q e c ∷ []))

-- the handles of a slice's sum and of the next carry
pub record SumOf (w : Meaning) (s c : Table) (x : SliceSum) : Type 0 where
  pub sum : under w x.sum ≡ Some s
  pub carry : under w x.carry ≡ Some c

-- What adding a slice answers, for handles of the functions p, q, e and the carry c.
unfoldable pub SliceAdded : Meaning → Meaning → ℕ → ℕ → ℕ → ℕ → Result SliceSum StoreFault → Type 0
SliceAdded v w hp hq he hc r =
    (p q e c : Table) → under v hp ≡ Some p → under v hq ≡ Some q → under v he ≡ Some e → under v hc ≡ Some c
    → Built v w (slice_plan (qubits_of v) p q e c) r (SumOf w (slice_sum (qubits_of v) p q e c) (next_carry (qubits_of v) p q e c))

-- at every index, the sum and twice the next carry are the bits of p, D and the carry added up
abbrev pub SliceLaws : Type 0
SliceLaws =
    (n : ℕ) (p q e c : Table) (x : Index) → length x ≡ n
    → digit (value_at (slice_sum n p q e c) x) + 2 * digit (value_at (next_carry n p q e c) x)
    ≡ digit (value_at p x) + digit (differ (value_at q x) (value_at e x)) + digit (value_at c x)
