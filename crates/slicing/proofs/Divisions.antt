-- Division of columns by √2, and the normal form in columns.
use Rattle.std.proofs.Common.{◌≡◌, ℕ, zero, suc, ◌^◌, ◌<◌, ◌≤◌, Bool, true, false, cond, not, List, [], ◌∷◌, map, length, get_or, drop, ℤ, pos, ◌+ℤ◌, ◌*ℤ◌, sym, refl, ap, ◌∙◌, subst, ap₂, arith}
use mathlib.Core.Bool.{false≢true}
use lib.ListN.{length-map}
use Rattle.std.proofs.lemmas.List.{get_or-map, length-drop}
use Rattle.std.proofs.lemmas.Int.{ints}
use Rattle.std.proofs.lemmas.Bool.{and_parts, and_from, or_parts, or_from}
use Rattle.exact.specs.declared.Quadruple.{Quadruple}
use Rattle.exact.specs.Indices.{Index, number, bits, at_index}
use Rattle.exact.specs.Quadruples.{zero_quadruple, half, odd, odd_sum, over-√2}
use Rattle.exact.specs.States.{some_odd_sum, state, reduced}
use Rattle.exact.specs.Squares.{quadruple_at}
use Rattle.exact.proofs.Indices.{number_below, same_self, same_equal}
use Rattle.exact.proofs.NormalForms.{odd_at, none_odd}
use Rattle.exact.proofs.Tables.{length_bits, number_of_bits}
use Rattle.exact.proofs.Listings.{length_listing}
use Rattle.functions.specs.Tables.{Table, value_at, constant, differ}
use Rattle.functions.specs.Sets.{same}
use Rattle.functions.proofs.Values.{same_values, length_constant, constant_at}
use Rattle.adder.specs.Slices.{turned}
use Rattle.slicing.specs.declared.Component.{Component}
use Rattle.slicing.specs.declared.Component.TheVariants.{A, B, C, D}
use Rattle.slicing.specs.Components.{component}
use Rattle.slicing.specs.TwosComplement.{bit_number}
use Rattle.slicing.specs.Columns.{Column, Columns, bits_of, integer_at, AllFunctions, Represents}
use Rattle.slicing.specs.Operations.{all_repeated}
use Rattle.slicing.specs.Divisions.{lowest_odd_sum, odd_a_c, odd_b_d, divisible, PairSum, root_sum, summed, divided, reduced_columns, reduced_power}
use Rattle.slicing.proofs.SignedNumbers.{length_repeated, odd_more, halved, half_drop, odd_lowest}
use Rattle.slicing.proofs.BitSums.{joined}
use Rattle.slicing.proofs.Operations.{turned_at, integer_added, length_added, functions_added}

-- ---- sums of odd and even numbers
odd_twice : (s t : Bool) (x y : ℤ) → odd ((bit_number s +ℤ pos 2 *ℤ x) +ℤ (bit_number t +ℤ pos 2 *ℤ y)) ≡ differ s t
odd_twice true true x y = ap odd (carry x y) ∙ odd_more false (x +ℤ y +ℤ pos 1)
  where
    carry : (x y : ℤ) → (pos 1 +ℤ pos 2 *ℤ x) +ℤ (pos 1 +ℤ pos 2 *ℤ y) ≡ pos 0 +ℤ pos 2 *ℤ (x +ℤ y +ℤ pos 1)
    carry x y = omega (arith, ints)
odd_twice true false x y = ap odd (carry x y) ∙ odd_more true (x +ℤ y)
  where
    carry : (x y : ℤ) → (pos 1 +ℤ pos 2 *ℤ x) +ℤ (pos 0 +ℤ pos 2 *ℤ y) ≡ pos 1 +ℤ pos 2 *ℤ (x +ℤ y)
    carry x y = omega (arith, ints)
odd_twice false true x y = ap odd (carry x y) ∙ odd_more true (x +ℤ y)
  where
    carry : (x y : ℤ) → (pos 0 +ℤ pos 2 *ℤ x) +ℤ (pos 1 +ℤ pos 2 *ℤ y) ≡ pos 1 +ℤ pos 2 *ℤ (x +ℤ y)
    carry x y = omega (arith, ints)
odd_twice false false x y = ap odd (carry x y) ∙ odd_more false (x +ℤ y)
  where
    carry : (x y : ℤ) → (pos 0 +ℤ pos 2 *ℤ x) +ℤ (pos 0 +ℤ pos 2 *ℤ y) ≡ pos 0 +ℤ pos 2 *ℤ (x +ℤ y)
    carry x y = omega (arith, ints)

odd_of_sum : (x y : ℤ) → odd (x +ℤ y) ≡ differ (odd x) (odd y)
odd_of_sum x y = ap₂ (λ (a b : ℤ). odd (a +ℤ b)) (sym (halved x)) (sym (halved y)) ∙ odd_twice (odd x) (odd y) (half x) (half y)

-- ---- the odd sums of the lowest slices
lowest_at : (ss : Column) (y : Index) → 0 < length ss → value_at (get_or ss 0 []) y ≡ odd (integer_at ss y)
unfolding integer_at bits_of
lowest_at [] y h = absurd (let b : ⊥ = omega arith in b)
lowest_at (f ∷ ss) y h = sym (odd_lowest (value_at f y) (map (λ (g : Table). value_at g y) ss))

pub odd_sum_at : (n : ℕ) (ps qs : Column) (y : Index) → length y ≡ n → 0 < length ps → 0 < length qs → value_at (lowest_odd_sum n ps qs) y ≡ odd (integer_at ps y +ℤ integer_at qs y)
unfolding lowest_odd_sum
odd_sum_at n ps qs y e hp hq =
    turned_at n (get_or ps 0 []) (get_or qs 0 []) y e
    ∙ ap₂ differ (lowest_at ps y hp) (lowest_at qs y hq)
    ∙ sym (odd_of_sum (integer_at ps y) (integer_at qs y))

-- a function of n qubits is the constant 0 exactly if it is 0 everywhere
nowhere_constant : (n : ℕ) (f : Table) → length f ≡ 2 ^ n → ((y : Index) → length y ≡ n → value_at f y ≡ false) → same f (constant n false) ≡ true
nowhere_constant n f l h =
    let e : f ≡ constant n false = same_values n f (constant n false) l (length_constant n false) (λ y k. h y k ∙ sym (constant_at n false y k)) in
    subst (λ (g : Table). same f g ≡ true) e (same_self f)

constant_nowhere : (n : ℕ) (f : Table) → same f (constant n false) ≡ true → (y : Index) → length y ≡ n → value_at f y ≡ false
constant_nowhere n f h y e = ap (λ (g : Table). value_at g y) (same_equal f (constant n false) h) ∙ constant_at n false y e

length_lowest : (n : ℕ) (ps qs : Column) → length (lowest_odd_sum n ps qs) ≡ 2 ^ n
unfolding lowest_odd_sum turned
length_lowest n ps qs = length_listing n _

module _ (n w : ℕ) (x : Columns) (v : List Quadruple) (some : 1 ≤ w) (r : Represents n w x v) where
  not_empty : (k : Component) → 0 < length (x k)
  not_empty k = omega (arith, r.wide k)

  a_c_at : (y : Index) → length y ≡ n → value_at (odd_a_c n x) y ≡ odd ((quadruple_at v y).a +ℤ (quadruple_at v y).c)
  unfolding odd_a_c
  a_c_at y e = odd_sum_at n (x A) (x C) y e (not_empty A) (not_empty C) ∙ ap₂ (λ (s t : ℤ). odd (s +ℤ t)) (r.integers A y e) (r.integers C y e)

  b_d_at : (y : Index) → length y ≡ n → value_at (odd_b_d n x) y ≡ odd ((quadruple_at v y).b +ℤ (quadruple_at v y).d)
  unfolding odd_b_d
  b_d_at y e = odd_sum_at n (x B) (x D) y e (not_empty B) (not_empty D) ∙ ap₂ (λ (s t : ℤ). odd (s +ℤ t)) (r.integers B y e) (r.integers D y e)

  length_a_c : length (odd_a_c n x) ≡ 2 ^ n
  unfolding odd_a_c
  length_a_c = length_lowest n (x A) (x C)

  length_b_d : length (odd_b_d n x) ≡ 2 ^ n
  unfolding odd_b_d
  length_b_d = length_lowest n (x B) (x D)

  even_divisible : some_odd_sum v ≡ false → divisible n x ≡ true
  unfolding divisible at_index
  even_divisible h = and_from _ _
      (nowhere_constant n (odd_a_c n x) length_a_c (λ y e. a_c_at y e ∙ (or_parts (odd ((quadruple_at v y).a +ℤ (quadruple_at v y).c)) (odd ((quadruple_at v y).b +ℤ (quadruple_at v y).d)) (odd_at v (number y) h)).0))
      (nowhere_constant n (odd_b_d n x) length_b_d (λ y e. b_d_at y e ∙ (or_parts (odd ((quadruple_at v y).a +ℤ (quadruple_at v y).c)) (odd ((quadruple_at v y).b +ℤ (quadruple_at v y).d)) (odd_at v (number y) h)).1))

  divisible_even : divisible n x ≡ true → some_odd_sum v ≡ false
  unfolding divisible at_index
  divisible_even h =
      let p = and_parts (same (odd_a_c n x) (constant n false)) (same (odd_b_d n x) (constant n false)) h in
      none_odd v (λ i l.
      let y : Index = bits n i in
      let b : i < 2 ^ n = omega (arith, r.listed) in
      ap (λ (j : ℕ). odd_sum (get_or v j zero_quadruple)) (sym (number_of_bits n i b))
      ∙ or_from (odd ((quadruple_at v y).a +ℤ (quadruple_at v y).c)) (odd ((quadruple_at v y).b +ℤ (quadruple_at v y).d))
      (sym (a_c_at y (length_bits n i)) ∙ constant_nowhere n (odd_a_c n x) p.0 y (length_bits n i))
      (sym (b_d_at y (length_bits n i)) ∙ constant_nowhere n (odd_b_d n x) p.1 y (length_bits n i)))

  pub divisible_is : divisible n x ≡ not (some_odd_sum v)
  divisible_is = go (divisible n x) refl (some_odd_sum v) refl
    where
      go : (b : Bool) → divisible n x ≡ b → (c : Bool) → some_odd_sum v ≡ c → divisible n x ≡ not (some_odd_sum v)
      go true e true f = absurd (false≢true (sym (divisible_even e) ∙ f))
      go true e false f = e ∙ sym (ap not f)
      go false e true f = e ∙ sym (ap not f)
      go false e false f = absurd (false≢true (sym e ∙ even_divisible f))

  -- ---- the division
  length_more : (k : Component) → length (all_repeated x k) ≡ suc w
  length_more k = length_repeated (x k) (not_empty k) ∙ ap suc (r.wide k)

  length_summed : (s : PairSum) → length (summed n (all_repeated x) s) ≡ suc w
  unfolding summed
  length_summed s = length_added n (constant n s.minus) _ _ (length_more s.first ∙ sym (length_more s.second)) ∙ length_more s.first

  integer_summed : (s : PairSum) (y : Index) → length y ≡ n → integer_at (summed n (all_repeated x) s) y ≡ joined s.minus (component s.first (quadruple_at v y)) (component s.second (quadruple_at v y))
  unfolding summed
  integer_summed s y e =
      integer_added n (constant n s.minus) (x s.first) (x s.second) y e (not_empty s.first) (r.wide s.first ∙ sym (r.wide s.second))
      ∙ ap (λ (b : Bool). joined b (integer_at (x s.first) y) (integer_at (x s.second) y)) (constant_at n s.minus y e)
      ∙ ap₂ (joined s.minus) (r.integers s.first y e) (r.integers s.second y e)

integer_drop : (ss : Column) (y : Index) → 1 < length ss → integer_at (drop 1 ss) y ≡ half (integer_at ss y)
unfolding integer_at bits_of
integer_drop [] y h = absurd (let b : ⊥ = omega arith in b)
integer_drop (f ∷ ss) y h = half_drop (value_at f y) (map (λ (g : Table). value_at g y) ss) (omega (arith, length-map ss (λ (g : Table). value_at g y)))

functions_drop : (n : ℕ) (ss : Column) → AllFunctions n ss → AllFunctions n (drop 1 ss)
functions_drop n [] h = tt
functions_drop n (f ∷ ss) h = h.1

summed_functions : (n : ℕ) (x : Columns) (s : PairSum) → AllFunctions n (summed n x s)
unfolding summed
summed_functions n x s = functions_added n (constant n s.minus) (x s.first) (x s.second)

-- each component of the quotient is half of a component of the product with √2
half_of_root : (q : Quadruple) (k : Component) → half (joined (root_sum k).minus (component (root_sum k).first q) (component (root_sum k).second q)) ≡ component k (over-√2 q)
half_of_root q A = refl
half_of_root q B = refl
half_of_root q C = refl
half_of_root q D = refl

pub divided_stands : (n w : ℕ) (x : Columns) (v : List Quadruple) → 1 ≤ w → Represents n w x v → Represents n w (divided n x) (map over-√2 v)
unfolding divided at_index
divided_stands n w x v some r = record {
  listed = length-map v over-√2 ∙ r.listed;
  wide = λ k. omega (arith, length-drop 1 (summed n (all_repeated x) (root_sum k)), length_summed n w x v some r (root_sum k));
  functions = λ k. functions_drop n (summed n (all_repeated x) (root_sum k)) (summed_functions n (all_repeated x) (root_sum k));
  integers = λ k y e.
      integer_drop (summed n (all_repeated x) (root_sum k)) y (omega (arith, length_summed n w x v some r (root_sum k)))
      ∙ ap half (integer_summed n w x v some r (root_sum k) y e)
      ∙ half_of_root (quadruple_at v y) k
      ∙ ap (component k) (sym (get_or-map over-√2 v (number y) zero_quadruple zero_quadruple (within y e)));
}
  where
    within : (y : Index) → length y ≡ n → number y < length v
    within y e = subst (λ (m : ℕ). number y < m) (sym r.listed) (subst (λ (m : ℕ). number y < 2 ^ m) e (number_below y))

-- ---- the normal form
pub reduced_stands : (n w k : ℕ) (x : Columns) (v : List Quadruple) → 1 ≤ w → Represents n w x v → Represents n w (reduced_columns n k x) (reduced k v).quadruples
unfolding reduced_columns reduced
reduced_stands n w zero x v some r = r
reduced_stands n w (suc k) x v some r = go (some_odd_sum v) (divisible n x) (divisible_is n w x v some r) (reduced_stands n w k (divided n x) (map over-√2 v) some (divided_stands n w x v some r))
  where
    go : (b c : Bool) → c ≡ not b → Represents n w (reduced_columns n k (divided n x)) (reduced k (map over-√2 v)).quadruples
        → Represents n w (cond c (reduced_columns n k (divided n x)) x) (cond b (state (suc k) v) (reduced k (map over-√2 v))).quadruples
    go true true e ih = absurd (false≢true (sym e))
    go true false e ih = r
    go false true e ih = ih
    go false false e ih = absurd (false≢true e)

pub reduced_power_is : (n w k : ℕ) (x : Columns) (v : List Quadruple) → 1 ≤ w → Represents n w x v → reduced_power n k x ≡ (reduced k v).power.0
unfolding reduced_power reduced
reduced_power_is n w zero x v some r = refl
reduced_power_is n w (suc k) x v some r = go (some_odd_sum v) (divisible n x) (divisible_is n w x v some r) (reduced_power_is n w k (divided n x) (map over-√2 v) some (divided_stands n w x v some r))
  where
    go : (b c : Bool) → c ≡ not b → reduced_power n k (divided n x) ≡ (reduced k (map over-√2 v)).power.0
        → cond c (reduced_power n k (divided n x)) (suc k) ≡ (cond b (state (suc k) v) (reduced k (map over-√2 v))).power.0
    go true true e ih = absurd (false≢true (sym e))
    go true false e ih = refl
    go false true e ih = ih
    go false false e ih = absurd (false≢true e)
