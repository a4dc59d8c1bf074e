-- What a term's new column stands for, in terms of the old columns' integers.
use Rattle.std.proofs.Common.{◌≡◌, ℕ, suc, ◌<◌, Bool, true, false, cond, not, ◌&&◌, length, ℤ, pos, ◌+ℤ◌, ◌-ℤ◌, sym, refl, ap, ◌∙◌, ap₂, arith}
use Rattle.exact.specs.Indices.{Index, bit, with_bit}
use Rattle.functions.specs.Tables.{Table, value_at, literal}
use Rattle.functions.proofs.Values.{constant_at, literal_at}
use Rattle.slicing.specs.declared.Component.{Component}
use Rattle.slicing.specs.declared.Component.TheVariants.{A}
use Rattle.slicing.specs.TwosComplement.{repeated}
use Rattle.slicing.specs.Columns.{Column, Columns, integer_at, AllFunctions}
use Rattle.slicing.specs.Operations.{all_repeated, zero_column, chosen_column, flipped_column, added}
use Rattle.slicing.proofs.SignedNumbers.{length_repeated}
use Rattle.slicing.proofs.Operations.{negation_at, both_at, integer_zero, integer_repeated, integer_fixed, integer_chosen, integer_flipped, integer_added, length_zero, length_fixed_column, length_chosen, length_flipped, length_added, functions_zero, functions_repeated, functions_fixed, functions_chosen, functions_flipped, functions_added, repeated_zero, repeated_fixed, repeated_chosen, repeated_flipped}
use Rattle.recipes.specs.declared.terms.Operand.{Operand}
use Rattle.recipes.specs.declared.terms.Operand.TheVariants.{Zero, Old, Fixed, Flipped, Chosen, Controlled}
use Rattle.recipes.specs.declared.terms.FirstCarry.{FirstCarry}
use Rattle.recipes.specs.declared.terms.FirstCarry.TheVariants.{Nowhere, Everywhere, Target, NotTarget, ControlsAndTarget}
use Rattle.recipes.specs.declared.terms.Term.{Term}
use Rattle.recipes.specs.declared.terms.Term.TheVariants.{Just, Add}
use Rattle.recipes.specs.Recipes.{operand_column, first_carry, term_column}

-- ---- a term in any arithmetic
pub record Arithmetic (Y : Type 0) : Type 0 where
  pub none : Y
  pub sum : Y → Y → Y
  pub difference : Y → Y → Y

-- the first carry where the target's bit is t and the product of the controls is c
unfoldable pub subtracts : Bool → Bool → FirstCarry → Bool
subtracts t c Nowhere = false
subtracts t c Everywhere = true
subtracts t c Target = t
subtracts t c NotTarget = not t
subtracts t c ControlsAndTarget = c && t

-- What terms give at an index where the target's bit is t and the product of the controls is c, of the old values there
-- and with the target set to a bit.
module _ {Y : Type 0} (R : Arithmetic Y) (t c : Bool) (here : Component → Y) (side : Bool → Component → Y) where
  unfoldable pub picked : Operand → Y
  picked Zero = R.none
  picked (Old k) = here k
  picked (Fixed k b) = side b k
  picked (Flipped k) = side (not t) k
  picked (Chosen k l) = cond t (here k) (here l)
  picked (Controlled k) = cond c (side (not t) k) (here k)

  unfoldable pub term_value : Term → Y
  term_value (Just o) = picked o
  term_value (Add o p e) = cond (subtracts t c e) (R.difference (picked o) (picked p)) (R.sum (picked o) (picked p))

abbrev pub integers : Arithmetic ℤ
integers = record { none = pos 0; sum = ◌+ℤ◌; difference = ◌-ℤ◌ }

-- ---- the operands
module _ (n w q : ℕ) (c : Table) (x : Columns) (wide : (k : Component) → length (x k) ≡ w) where
  operand_at : (o : Operand) (y : Index) → length y ≡ n
      → integer_at (operand_column n q c x o) y ≡ picked integers (bit y q) (value_at c y) (λ k. integer_at (x k) y) (λ b k. integer_at (x k) (with_bit y q b)) o
  unfolding operand_column picked
  operand_at Zero y e = integer_zero n (length (x A)) y e
  operand_at (Old k) y e = refl
  operand_at (Fixed k b) y e = integer_fixed n q b (x k) y e
  operand_at (Flipped k) y e = integer_flipped n q (x k) y e
  operand_at (Chosen k l) y e =
      integer_chosen n (literal n q) (x k) (x l) y e (wide k ∙ sym (wide l))
      ∙ ap (λ (b : Bool). cond b (integer_at (x k) y) (integer_at (x l) y)) (literal_at n q y e)
  operand_at (Controlled k) y e =
      integer_chosen n c (flipped_column n q (x k)) (x k) y e (length_flipped n q (x k))
      ∙ ap (λ (z : ℤ). cond (value_at c y) z (integer_at (x k) y)) (integer_flipped n q (x k) y e)

  length_operand : (o : Operand) → length (operand_column n q c x o) ≡ w
  unfolding operand_column
  length_operand Zero = length_zero n (length (x A)) ∙ wide A
  length_operand (Old k) = wide k
  length_operand (Fixed k b) = length_fixed_column n q b (x k) ∙ wide k
  length_operand (Flipped k) = length_flipped n q (x k) ∙ wide k
  length_operand (Chosen k l) = length_chosen n (literal n q) (x k) (x l) (wide k ∙ sym (wide l)) ∙ wide k
  length_operand (Controlled k) = length_chosen n c (flipped_column n q (x k)) (x k) (length_flipped n q (x k)) ∙ length_flipped n q (x k) ∙ wide k

  functions_operand : ((k : Component) → AllFunctions n (x k)) → (o : Operand) → AllFunctions n (operand_column n q c x o)
  unfolding operand_column
  functions_operand h Zero = functions_zero n (length (x A))
  functions_operand h (Old k) = h k
  functions_operand h (Fixed k b) = functions_fixed n q b (x k)
  functions_operand h (Flipped k) = functions_flipped n q (x k)
  functions_operand h (Chosen k l) = functions_chosen n (literal n q) (x k) (x l)
  functions_operand h (Controlled k) = functions_chosen n c (flipped_column n q (x k)) (x k)

  -- operands of repeated columns are repeated operands
  operand_repeated : 0 < w → (o : Operand) → operand_column n q c (all_repeated x) o ≡ repeated (operand_column n q c x o)
  unfolding operand_column
  operand_repeated h Zero = ap (zero_column n) (length_repeated (x A) (omega (arith, wide A))) ∙ sym (repeated_zero n (length (x A)) (omega (arith, wide A)))
  operand_repeated h (Old k) = refl
  operand_repeated h (Fixed k b) = repeated_fixed n q b (x k)
  operand_repeated h (Flipped k) = repeated_flipped n q (x k)
  operand_repeated h (Chosen k l) = repeated_chosen n (literal n q) (x k) (x l) (wide k ∙ sym (wide l))
  operand_repeated h (Controlled k) = ap (λ (ss : Column). chosen_column n c ss (repeated (x k))) (repeated_flipped n q (x k)) ∙ repeated_chosen n c (flipped_column n q (x k)) (x k) (length_flipped n q (x k))

-- ---- the first carry
carry_at : (n q : ℕ) (c : Table) (y : Index) → length y ≡ n → (e : FirstCarry) → value_at (first_carry n q c e) y ≡ subtracts (bit y q) (value_at c y) e
unfolding first_carry subtracts
carry_at n q c y l Nowhere = constant_at n false y l
carry_at n q c y l Everywhere = constant_at n true y l
carry_at n q c y l Target = literal_at n q y l
carry_at n q c y l NotTarget = negation_at n (literal n q) y l ∙ ap not (literal_at n q y l)
carry_at n q c y l ControlsAndTarget = both_at n c (literal n q) y l ∙ ap (λ (b : Bool). value_at c y && b) (literal_at n q y l)

-- ---- the new column of a term: one slice more, and the term's values
module _ (n w q : ℕ) (c : Table) (x : Columns) (wide : (k : Component) → length (x k) ≡ w) (some : 0 < w) where
  length_more : (k : Component) → length (all_repeated x k) ≡ suc w
  length_more k = length_repeated (x k) (omega (arith, wide k)) ∙ ap suc (wide k)

  pub length_term : (m : Term) → length (term_column n q c (all_repeated x) m) ≡ suc w
  unfolding term_column
  length_term (Just o) = length_operand n (suc w) q c (all_repeated x) length_more o
  length_term (Add o p e) =
      length_added n (first_carry n q c e) _ _ (length_operand n (suc w) q c (all_repeated x) length_more o ∙ sym (length_operand n (suc w) q c (all_repeated x) length_more p))
      ∙ length_operand n (suc w) q c (all_repeated x) length_more o

  pub functions_term : ((k : Component) → AllFunctions n (x k)) → (m : Term) → AllFunctions n (term_column n q c (all_repeated x) m)
  unfolding term_column
  functions_term h (Just o) = functions_operand n (suc w) q c (all_repeated x) length_more (λ k. functions_repeated n (x k) (h k)) o
  functions_term h (Add o p e) = functions_added n (first_carry n q c e) (operand_column n q c (all_repeated x) o) (operand_column n q c (all_repeated x) p)

  pub term_at : (m : Term) (y : Index) → length y ≡ n
      → integer_at (term_column n q c (all_repeated x) m) y ≡ term_value integers (bit y q) (value_at c y) (λ k. integer_at (x k) y) (λ b k. integer_at (x k) (with_bit y q b)) m
  unfolding term_column term_value
  term_at (Just o) y l =
      ap (λ (ss : Column). integer_at ss y) (operand_repeated n w q c x wide some o)
      ∙ integer_repeated (operand_column n q c x o) y
      ∙ operand_at n w q c x wide o y l
  term_at (Add o p e) y l =
      let s : Bool = subtracts (bit y q) (value_at c y) e in
      ap₂ (λ (ps qs : Column). integer_at (added_by e ps qs) y) (operand_repeated n w q c x wide some o) (operand_repeated n w q c x wide some p)
      ∙ integer_added n (first_carry n q c e) (operand_column n q c x o) (operand_column n q c x p) y l (omega (arith, length_operand n w q c x wide o)) (length_operand n w q c x wide o ∙ sym (length_operand n w q c x wide p))
      ∙ ap (λ (b : Bool). cond b (integer_at (operand_column n q c x o) y -ℤ integer_at (operand_column n q c x p) y) (integer_at (operand_column n q c x o) y +ℤ integer_at (operand_column n q c x p) y)) (carry_at n q c y l e)
      ∙ ap₂ (λ (a b : ℤ). cond s (a -ℤ b) (a +ℤ b)) (operand_at n w q c x wide o y l) (operand_at n w q c x wide p y l)
    where
      added_by : FirstCarry → Column → Column → Column
      added_by e ps qs = added n (first_carry n q c e) ps qs
