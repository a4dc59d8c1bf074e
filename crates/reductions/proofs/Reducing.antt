-- The loop of the normal form: what was made, and that what is left gives the whole.
use Rattle.std.proofs.Common.{◌≡◌, ℕ, suc, ◌-◌, ◌<◌, Bool, true, false, List, [], ◌∷◌, ◌++◌, Ok, Err, Result, sym, refl, ap, ◌∙◌, subst, append_assoc, arith}
use Rattle.std.proofs.lemmas.List.{append-nil}
use Rattle.std.proofs.lemmas.Bool.{cond-true, cond-false}
use Rattle.functions.specs.declared.faults.StoreFault.{StoreFault}
use Rattle.functions.specs.Tables.{Table}
use Rattle.functions.specs.Meanings.{Setting, Meaning, qubits_of}
use Rattle.functions.specs.Growth.{Grew, Stopped, Built}
use Rattle.functions.proofs.Growth.{grew_none, grew_then, stopped_after, stopped_before}
use Rattle.slicing.specs.Columns.{Columns as Four}
use Rattle.slicing.specs.Operations.{all_repeated, for_each}
use Rattle.slicing.specs.Divisions.{odd_a_c, odd_b_d, divisible, root_sum, summed_plan, divided, reduced_columns, reduced_power, reduction_plan}
use Rattle.columns.specs.declared.four.Columns.{Columns}
use Rattle.columns.specs.Columns.{AllStand}
use Rattle.columns.proofs.Standing.{all_keep}
use Rattle.columns.proofs.InTurn.{for_each_then}
use Rattle.reductions.specs.declared.reduced.Reduced.{Reduced}
use Rattle.reductions.specs.Reductions.{AskedDivisible, division_plan, ColumnsDivided, ColumnsReduced}

-- So far: what was made, and the columns y with the power k, whose normal form is that of x with the first power.
pub record LeftOver (v w : Meaning) (first : ℕ) (x : Four) (hs : Columns 24) (k : ℕ) : Type 0 where
  pub made : List Table
  pub y : Four
  pub grew : Grew v w made
  pub stand : AllStand w hs y
  pub left_plan : reduction_plan (qubits_of v) first x ≡ made ++ reduction_plan (qubits_of v) k y
  pub left_columns : reduced_columns (qubits_of v) first x ≡ reduced_columns (qubits_of v) k y
  pub left_power : reduced_power (qubits_of v) first x ≡ reduced_power (qubits_of v) k y

unfoldable pub Reducing : Meaning → Meaning → Columns 24 → ℕ → Columns 24 → ℕ → Type 0
Reducing v w start first hs k = (x : Four) → AllStand v start x → LeftOver v w first x hs k

pub reducing_none : (v : Meaning) (hs : Columns 24) (k : ℕ) → Reducing v v hs k hs k
unfolding Reducing
reducing_none v hs k x h = record { made = []; y = x; grew = grew_none v; stand = h; left_plan = refl; left_columns = refl; left_power = refl }

-- at power 0 nothing is left
pub reducing_done : (v w : Meaning) (start : Columns 24) (first : ℕ) (r : Reduced) (k : ℕ) → k ≡ 0 → r.power.0 ≡ 0 → Reducing v w start first r.columns k → ColumnsReduced v w start first (Ok r)
unfolding Reducing ColumnsReduced Built reduction_plan reduced_columns reduced_power
reducing_done v w start first r k e p a x h =
    let b = subst (λ (j : ℕ). LeftOver v w first x r.columns j) e (a x h) in (
      subst (λ (l : List Table). Grew v w l) (sym (b.left_plan ∙ append-nil b.made)) b.grew,
      record { power = p ∙ sym b.left_power; stand = subst (λ (z : Four). AllStand w r.columns z) (sym b.left_columns) b.stand },
    )

-- both odd sums, in the store that has grown
asked_later : (v u w : Meaning) (fs : List Table) (hs : Columns 24) (r : Result Bool StoreFault) → Grew v u fs → AskedDivisible u w hs r → (y : Four) → AllStand u hs y
    → Built u w (odd_a_c (qubits_of v) y ∷ (odd_b_d (qubits_of v) y ∷ [])) r (λ b. b ≡ divisible (qubits_of v) y)
unfolding AskedDivisible
asked_later v u w fs hs r g m y h =
    subst (λ (s : Setting). Built u w (odd_a_c s.qubits y ∷ (odd_b_d s.qubits y ∷ [])) r (λ b. b ≡ divisible s.qubits y)) g.setting (m y h)

divided_later : (v u w : Meaning) (fs : List Table) (hs : Columns 24) (r : Result (Columns 24) StoreFault) → Grew v u fs → ColumnsDivided u w hs r → (y : Four) → AllStand u hs y
    → Built u w (division_plan (qubits_of v) y) r (λ z. AllStand w z (divided (qubits_of v) y))
unfolding ColumnsDivided
divided_later v u w fs hs r g m y h =
    subst (λ (s : Setting). Built u w (division_plan s.qubits y) r (λ z. AllStand w z (divided s.qubits y))) g.setting (m y h)

-- what is left at a power above 0: where √2 does not divide, both odd sums; where it does, the division and the rest
odd_sums : ℕ → Four → List Table
odd_sums n y = odd_a_c n y ∷ (odd_b_d n y ∷ [])

plan_above : (n k : ℕ) (y : Four) → (rest : List Table) × (reduction_plan n (suc k) y ≡ odd_sums n y ++ rest)
unfolding reduction_plan odd_sums
plan_above n k y = (_, refl)

plan_stays : (n k : ℕ) (y : Four) → divisible n y ≡ false → reduction_plan n (suc k) y ≡ odd_sums n y
unfolding reduction_plan odd_sums
plan_stays n k y e = ap (λ (l : List Table). odd_a_c n y ∷ (odd_b_d n y ∷ l)) (cond-false (divisible n y) _ [] e)

plan_divides : (n k : ℕ) (y : Four) → divisible n y ≡ true → reduction_plan n (suc k) y ≡ odd_sums n y ++ (division_plan n y ++ reduction_plan n k (divided n y))
unfolding reduction_plan odd_sums division_plan
plan_divides n k y e =
    ap (λ (l : List Table). odd_a_c n y ∷ (odd_b_d n y ∷ l))
    (cond-true (divisible n y) (for_each (λ c. summed_plan n (all_repeated y) (root_sum c)) (reduction_plan n k (divided n y))) [] e
    ∙ sym (for_each_then (λ c. summed_plan n (all_repeated y) (root_sum c)) (reduction_plan n k (divided n y))))

columns_stay : (n k : ℕ) (y : Four) → divisible n y ≡ false → reduced_columns n (suc k) y ≡ y
unfolding reduced_columns
columns_stay n k y e = cond-false (divisible n y) (reduced_columns n k (divided n y)) y e

columns_divide : (n k : ℕ) (y : Four) → divisible n y ≡ true → reduced_columns n (suc k) y ≡ reduced_columns n k (divided n y)
unfolding reduced_columns
columns_divide n k y e = cond-true (divisible n y) (reduced_columns n k (divided n y)) y e

power_stays : (n k : ℕ) (y : Four) → divisible n y ≡ false → reduced_power n (suc k) y ≡ suc k
unfolding reduced_power
power_stays n k y e = cond-false (divisible n y) (reduced_power n k (divided n y)) (suc k) e

power_divides : (n k : ℕ) (y : Four) → divisible n y ≡ true → reduced_power n (suc k) y ≡ reduced_power n k (divided n y)
unfolding reduced_power
power_divides n k y e = cond-true (divisible n y) (reduced_power n k (divided n y)) (suc k) e

module _ (v u w : Meaning) (start : Columns 24) (first : ℕ) (hs : Columns 24) (k : ℕ) (above : 0 < k) (a : Reducing v u start first hs k) where
  lower : k ≡ suc (k - 1)
  lower = omega arith

  -- what is left, by the power before
  left : (x : Four) → AllStand v start x → LeftOver v u first x hs (suc (k - 1))
  unfolding Reducing
  left x h = subst (λ (j : ℕ). LeftOver v u first x hs j) lower (a x h)

  pub reducing_stopped_sums : (e : StoreFault) → AskedDivisible u w hs (Err e) → ColumnsReduced v w start first (Err e)
  unfolding ColumnsReduced Built odd_sums
  reducing_stopped_sums e m x h =
      let b = left x h in
      let p = plan_above (qubits_of v) (k - 1) b.y in
      subst (λ (l : List Table). Stopped v w l e) (sym (b.left_plan ∙ ap (λ (l : List Table). b.made ++ l) p.1))
      (stopped_after b.made _ b.grew (stopped_before (odd_a_c (qubits_of v) b.y ∷ (odd_b_d (qubits_of v) b.y ∷ [])) p.0 (asked_later v u w b.made hs (Err e) b.grew m b.y b.stand)))

  pub reducing_stays : (b : Bool) → b ≡ false → AskedDivisible u w hs (Ok b) → (r : Reduced) → r.columns ≡ hs → r.power.0 ≡ k → ColumnsReduced v w start first (Ok r)
  unfolding ColumnsReduced Built odd_sums
  reducing_stays answer is m r ec ek x h =
      let n = qubits_of v in
      let b = left x h in
      let c = asked_later v u w b.made hs (Ok answer) b.grew m b.y b.stand in
      let no_more : divisible n b.y ≡ false = sym c.1 ∙ is in (
        subst (λ (l : List Table). Grew v w l) (sym (b.left_plan ∙ ap (λ (l : List Table). b.made ++ l) (plan_stays n (k - 1) b.y no_more)))
            (grew_then b.made (odd_a_c n b.y ∷ (odd_b_d n b.y ∷ [])) b.grew c.0),
        record {
          power = ek ∙ lower ∙ sym (b.left_power ∙ power_stays n (k - 1) b.y no_more);
          stand = subst (λ (z : Columns 24). AllStand w z (reduced_columns n first x)) (sym ec)
              (subst (λ (z : Four). AllStand w hs z) (sym (b.left_columns ∙ columns_stay n (k - 1) b.y no_more)) (all_keep u w _ c.0 hs b.y b.stand));
        },
      )

module _ (v u t w : Meaning) (start : Columns 24) (first : ℕ) (hs : Columns 24) (k : ℕ) (above : 0 < k) (a : Reducing v u start first hs k)
    (answer : Bool) (is : answer ≡ true) (asked : AskedDivisible u t hs (Ok answer)) where
  -- both odd sums are made, and are 0
  sums : (x : Four) → (h : AllStand v start x) → let b = left v u t start first hs k above a x h in Grew u t (odd_sums (qubits_of v) b.y) × (divisible (qubits_of v) b.y ≡ true)
  unfolding Built odd_sums
  sums x h =
      let b = left v u t start first hs k above a x h in
      let c = asked_later v u t b.made hs (Ok answer) b.grew asked b.y b.stand in
      (c.0, sym c.1 ∙ is)

  pub reducing_stopped_division : (e : StoreFault) → ColumnsDivided t w hs (Err e) → ColumnsReduced v w start first (Err e)
  unfolding ColumnsReduced Built
  reducing_stopped_division e m x h =
      let n = qubits_of v in
      let b = left v u t start first hs k above a x h in
      let c = sums x h in
      let g : Grew v t (b.made ++ odd_sums n b.y) = grew_then b.made (odd_sums n b.y) b.grew c.0 in
      let stand : AllStand t hs b.y = all_keep u t _ c.0 hs b.y b.stand in
      subst (λ (l : List Table). Stopped v w l e) (sym (b.left_plan ∙ ap (λ (l : List Table). b.made ++ l) (plan_divides n (k - 1) b.y c.1) ∙ sym (append_assoc b.made (odd_sums n b.y) _)))
      (stopped_after (b.made ++ odd_sums n b.y) _ g (stopped_before (division_plan n b.y) _ (divided_later v t w _ hs (Err e) g m b.y stand)))

  pub reducing_more : (hs' : Columns 24) → ColumnsDivided t w hs (Ok hs') → Reducing v w start first hs' (k - 1)
  unfolding Reducing Built
  reducing_more hs' m x h =
      let n = qubits_of v in
      let b = left v u t start first hs k above a x h in
      let c = sums x h in
      let g : Grew v t (b.made ++ odd_sums n b.y) = grew_then b.made (odd_sums n b.y) b.grew c.0 in
      let stand : AllStand t hs b.y = all_keep u t _ c.0 hs b.y b.stand in
      let d : Grew t w (division_plan n b.y) × AllStand w hs' (divided n b.y) = divided_later v t w _ hs (Ok hs') g m b.y stand in
      record {
        made = (b.made ++ odd_sums n b.y) ++ division_plan n b.y;
        y = divided n b.y;
        grew = grew_then (b.made ++ odd_sums n b.y) (division_plan n b.y) g d.0;
        stand = d.1;
        left_plan = b.left_plan ∙ ap (λ (l : List Table). b.made ++ l) (plan_divides n (k - 1) b.y c.1)
            ∙ sym (append_assoc b.made (odd_sums n b.y) _) ∙ sym (append_assoc (b.made ++ odd_sums n b.y) (division_plan n b.y) _);
        left_columns = b.left_columns ∙ columns_divide n (k - 1) b.y c.1;
        left_power = b.left_power ∙ power_divides n (k - 1) b.y c.1;
      }
