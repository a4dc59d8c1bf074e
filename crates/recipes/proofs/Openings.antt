-- The last product of an opening is 1 exactly at its index, and gives the opened register's columns.
use Rattle.std.proofs.Common.{◌≡◌, ℕ, zero, suc, ◌^◌, ◌<◌, ◌≤◌, Bool, true, false, cond, ◌&&◌, [], ◌∷◌, length, pos, ◌+ℤ◌, ◌*ℤ◌, neg_ℤ, sym, refl, ap, ◌∙◌, subst, ap₂, arith}
use Rattle.std.proofs.Math.Bool.{and_assoc, and-true}
use mathlib.Core.Bool.{beq}
use Rattle.exact.specs.Indices.{Index, number, listing, at_index, bit, same_index}
use Rattle.exact.specs.Quadruples.{zero_quadruple, one_quadruple}
use Rattle.exact.specs.States.{width, EntryFits}
use Rattle.exact.specs.Squares.{quadruple_at}
use Rattle.exact.proofs.Indices.{number_below, same_self}
use Rattle.exact.proofs.Listings.{length_listing, at_listing}
use Rattle.exact.proofs.Widths.{fits, least}
use Rattle.functions.specs.Tables.{Table, value_at, constant, literal, choice}
use Rattle.functions.proofs.Values.{same_values, length_constant, constant_at, literal_at}
use Rattle.matrices.specs.Registers.{opened}
use Rattle.matrices.proofs.Registers.{length_opened}
use Rattle.slicing.specs.declared.Component.{Component}
use Rattle.slicing.specs.declared.Component.TheVariants.{A, B, C, D}
use Rattle.slicing.specs.Components.{component}
use Rattle.slicing.specs.TwosComplement.{signed_sum, bit_number, signed_number}
use Rattle.slicing.specs.Columns.{bits_of, integer_at, AllFunctions, Represents}
use Rattle.slicing.proofs.SignedNumbers.{fits_out}
use Rattle.slicing.proofs.Columns.{only, fit, fit_at}
use Rattle.slicing.proofs.Operations.{choice_at, integer_zero, length_zero, functions_zero}
use Rattle.recipes.specs.Plans.{columns_of_state, narrowed, product_from, opening_product, opened_columns}

-- ---- the product
narrowed_at : (n : ℕ) (f : Table) (q : ℕ) (b : Bool) (y : Index) → length y ≡ n → value_at (narrowed n f q b) y ≡ (value_at f y && beq (bit y q) b)
unfolding narrowed
narrowed_at n f q true y e =
    choice_at n (literal n q) f (constant n false) y e
    ∙ ap₂ (λ (s t : Bool). cond s (value_at f y) t) (literal_at n q y e) (constant_at n false y e)
    ∙ go (bit y q) (value_at f y)
  where
    go : (s t : Bool) → cond s t false ≡ (t && beq s true)
    go true true = refl
    go true false = refl
    go false true = refl
    go false false = refl
narrowed_at n f q false y e =
    choice_at n (literal n q) (constant n false) f y e
    ∙ ap₂ (λ (s t : Bool). cond s t (value_at f y)) (literal_at n q y e) (constant_at n false y e)
    ∙ go (bit y q) (value_at f y)
  where
    go : (s t : Bool) → cond s false t ≡ (t && beq s false)
    go true true = refl
    go true false = refl
    go false true = refl
    go false false = refl

length_narrowed : (n : ℕ) (f : Table) (q : ℕ) (b : Bool) → length (narrowed n f q b) ≡ 2 ^ n
unfolding narrowed choice
length_narrowed n f q true = length_listing n _
length_narrowed n f q false = length_listing n _

length_product : (n : ℕ) (x : Index) (q : ℕ) (f : Table) → length f ≡ 2 ^ n → length (product_from n x q f) ≡ 2 ^ n
unfolding product_from
length_product n x zero f l = l
length_product n x (suc q) f l = length_product n x q (narrowed n f q (bit x q)) (length_narrowed n f q (bit x q))

-- whether two indices agree at the qubits below q
same_below : ℕ → Index → Index → Bool
same_below zero y x = true
same_below (suc q) y x = beq (bit y q) (bit x q) && same_below q y x

and_swap : (a b c : Bool) → (a && (b && c)) ≡ (b && (a && c))
and_swap true b c = refl
and_swap false true c = refl
and_swap false false c = refl

product_at : (n : ℕ) (x : Index) (q : ℕ) (f : Table) (y : Index) → length y ≡ n → value_at (product_from n x q f) y ≡ (value_at f y && same_below q y x)
unfolding product_from same_below
product_at n x zero f y e = sym (and-true (value_at f y))
product_at n x (suc q) f y e =
    product_at n x q (narrowed n f q (bit x q)) y e
    ∙ ap (λ (b : Bool). b && same_below q y x) (narrowed_at n f q (bit x q) y e)
    ∙ and_assoc (value_at f y) (beq (bit y q) (bit x q)) (same_below q y x)

below_more : (q : ℕ) (b c : Bool) (y x : Index) → same_below (suc q) (b ∷ y) (c ∷ x) ≡ (beq b c && same_below q y x)
unfolding same_below
below_more zero b c y x = refl
below_more (suc q) b c y x =
    ap (λ (t : Bool). beq (bit y q) (bit x q) && t) (below_more q b c y x)
    ∙ and_swap (beq (bit y q) (bit x q)) (beq b c) (same_below q y x)

below_all : (y x : Index) → length y ≡ length x → same_below (length x) y x ≡ same_index y x
unfolding same_below same_index
below_all [] [] l = refl
below_all [] (c ∷ x) l = absurd (let b : ⊥ = omega arith in b)
below_all (b ∷ y) [] l = absurd (let b : ⊥ = omega arith in b)
below_all (b ∷ y) (c ∷ x) l = below_more (length x) b c y x ∙ ap (λ (t : Bool). beq b c && t) (below_all y x (omega arith))

opening_at : (n : ℕ) (x : Index) → length x ≡ n → (y : Index) → length y ≡ n → value_at (opening_product n x) y ≡ same_index y x
unfolding opening_product
opening_at n x l y e =
    product_at n x n (constant n true) y e
    ∙ ap (λ (b : Bool). b && same_below n y x) (constant_at n true y e)
    ∙ ap (λ (k : ℕ). same_below k y x) (sym l)
    ∙ below_all y x (e ∙ sym l)

length_opening : (n : ℕ) (x : Index) → length (opening_product n x) ≡ 2 ^ n
unfolding opening_product
length_opening n x = length_product n x n (constant n true) (length_constant n true)

pub product_is : (n : ℕ) (x : Index) → length x ≡ n → opening_product n x ≡ listing n (λ y. same_index y x)
product_is n x l = same_values n (opening_product n x) (listing n (λ y. same_index y x)) (length_opening n x) (length_listing n _)
    (λ y e. opening_at n x l y e ∙ sym (at_listing false n (λ z. same_index z x) y e))

-- ---- the columns
module _ (n : ℕ) (x : Index) (l : length x ≡ n) where
  opened_at : (y : Index) → length y ≡ n → cond (same_index y x) one_quadruple zero_quadruple ≡ quadruple_at (opened n x).quadruples y
  unfolding opened
  opened_at y e = sym (at_listing zero_quadruple n (λ z. cond (same_index z x) one_quadruple zero_quadruple) y e)

  d_at : (y : Index) → length y ≡ n → integer_at (opened_columns n x D) y ≡ bit_number (same_index y x)
  unfolding integer_at bits_of signed_number signed_sum
  d_at y e =
      ap₂ (λ (s t : Bool). bit_number s +ℤ pos 2 *ℤ neg_ℤ (bit_number t)) (opening_at n x l y e) (constant_at n false y e)
      ∙ go (same_index y x)
    where
      go : (b : Bool) → bit_number b +ℤ pos 2 *ℤ neg_ℤ (bit_number false) ≡ bit_number b
      go true = refl
      go false = refl

  opened_integer : (k : Component) (y : Index) → length y ≡ n → integer_at (opened_columns n x k) y ≡ component k (cond (same_index y x) one_quadruple zero_quadruple)
  opened_integer A y e = integer_zero n 2 y e ∙ go (same_index y x)
    where
      go : (b : Bool) → pos 0 ≡ component A (cond b one_quadruple zero_quadruple)
      go true = refl
      go false = refl
  opened_integer B y e = integer_zero n 2 y e ∙ go (same_index y x)
    where
      go : (b : Bool) → pos 0 ≡ component B (cond b one_quadruple zero_quadruple)
      go true = refl
      go false = refl
  opened_integer C y e = integer_zero n 2 y e ∙ go (same_index y x)
    where
      go : (b : Bool) → pos 0 ≡ component C (cond b one_quadruple zero_quadruple)
      go true = refl
      go false = refl
  opened_integer D y e = d_at y e ∙ go (same_index y x)
    where
      go : (b : Bool) → bit_number b ≡ component D (cond b one_quadruple zero_quadruple)
      go true = refl
      go false = refl

  opened_length : (k : Component) → length (opened_columns n x k) ≡ 2
  opened_length A = length_zero n 2
  opened_length B = length_zero n 2
  opened_length C = length_zero n 2
  opened_length D = refl

  opened_functions : (k : Component) → AllFunctions n (opened_columns n x k)
  opened_functions A = functions_zero n 2
  opened_functions B = functions_zero n 2
  opened_functions C = functions_zero n 2
  opened_functions D = (length_opening n x, (length_constant n false, tt))

  opened_stands : Represents n 2 (opened_columns n x) (opened n x).quadruples
  opened_stands = record {
    listed = length_opened n x;
    wide = opened_length;
    functions = opened_functions;
    integers = λ k y e. opened_integer k y e ∙ ap (component k) (opened_at y e);
  }

  -- 1 does not fit one bit
  not_one_bit : width (opened n x).quadruples ≤ 1 → ⊥
  unfolding at_index
  not_one_bit h =
      let b : number x < 2 ^ n = subst (λ (k : ℕ). number x < 2 ^ k) l (number_below x) in
      let one : component D (quadruple_at (opened n x).quadruples x) ≡ pos 1 =
      ap (component D) (sym (opened_at x l)) ∙ ap (λ (t : Bool). component D (cond t one_quadruple zero_quadruple)) (same_self x) in
      let f : EntryFits 1 (pos 1) = subst (EntryFits 1) one (fit_at 1 (opened n x).quadruples (number x) (omega (arith, length_opened n x)) (fits (opened n x).quadruples 1 h) D) in
      let g = fits_out 0 (pos 1) f in
      let z : ⊥ = omega arith in z

  pub opened_width : width (opened n x).quadruples ≡ 2
  opened_width =
      let m : width (opened n x).quadruples ≤ 2 = least (opened n x).quadruples 2 (omega arith) (fit n 2 (opened n x).quadruples (opened_columns n x) opened_stands (omega arith)) in
      let o : width (opened n x).quadruples ≤ 1 → ⊥ = not_one_bit in
      omega arith

  pub opened_columns_are : (k : Component) → opened_columns n x k ≡ columns_of_state n (opened n x) k
  unfolding columns_of_state
  opened_columns_are = only n (width (opened n x).quadruples) (opened n x).quadruples (opened_columns n x)
      (subst (λ (w : ℕ). Represents n w (opened_columns n x) (opened n x).quadruples) (sym opened_width) opened_stands)
