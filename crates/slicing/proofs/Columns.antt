-- Columns and the lists of quadruples that they stand for determine one another.
use Rattle.std.proofs.Common.{◌≡◌, ℕ, zero, suc, ◌^◌, ◌<◌, ◌≤◌, Bool, false, List, [], ◌∷◌, map, length, get_or, ℤ, sym, ap, ◌∙◌, subst, ap₂, arith}
use lib.ListN.{length-map}
use Rattle.std.specs.List.{range_with_len}
use Rattle.std.proofs.lemmas.List.{get_or-map, ext_get_or}
use Rattle.std.proofs.lemmas.List.FromFn.{get_or-map-range_with_len, length-map-range_with_len}
use Rattle.exact.specs.declared.Quadruple.{Quadruple}
use Rattle.exact.specs.Indices.{Index, number, bits, at_index}
use Rattle.exact.specs.Quadruples.{zero_quadruple}
use Rattle.exact.specs.States.{EntryFits, AllFourFit, AllFit}
use Rattle.exact.specs.Squares.{quadruple_at}
use Rattle.exact.proofs.Indices.{number_below}
use Rattle.exact.proofs.Listings.{length_listing, listing_same, listing_own, at_listing}
use Rattle.exact.proofs.Tables.{length_bits, number_of_bits}
use Rattle.exact.proofs.Expressions.{quadruple_path}
use Rattle.functions.specs.Tables.{Table, value_at}
use Rattle.functions.proofs.Values.{same_values}
use Rattle.slicing.specs.declared.Component.{Component}
use Rattle.slicing.specs.declared.Component.TheVariants.{A, B, C, D}
use Rattle.slicing.specs.Components.{component}
use Rattle.slicing.specs.TwosComplement.{signed_number, signed_bits}
use Rattle.slicing.specs.Columns.{Column, Columns, bits_of, integer_at, AllFunctions, Represents, slice, column_of, columns_of}
use Rattle.slicing.proofs.SignedNumbers.{length_signed_bits, bits_of_number, number_fits}
use Rattle.slicing.proofs.SignedNumbers.{number_of_bits as number-of-signed-bits}

-- ---- the slices of a column
pub length_bits_of : (ss : Column) (y : Index) → length (bits_of ss y) ≡ length ss
unfolding bits_of
length_bits_of ss y = length-map ss (λ (f : Table). value_at f y)

pub bits_of_at : (ss : Column) (y : Index) (j : ℕ) → j < length ss → get_or (bits_of ss y) j false ≡ value_at (get_or ss j []) y
unfolding bits_of
bits_of_at ss y j l = get_or-map (λ (f : Table). value_at f y) ss j [] false l

pub functions_at : (n : ℕ) (ss : Column) (j : ℕ) → j < length ss → AllFunctions n ss → length (get_or ss j []) ≡ 2 ^ n
functions_at n [] j l h = absurd (let b : ⊥ = omega arith in b)
functions_at n (f ∷ ss) zero l h = h.0
functions_at n (f ∷ ss) (suc j) l h = functions_at n ss j (omega arith) h.1

pub functions_map : {X : Type 0} (n : ℕ) (f : X → Table) → ((x : X) → length (f x) ≡ 2 ^ n) → (l : List X) → AllFunctions n (map f l)
functions_map n f h [] = tt
functions_map n f h (x ∷ l) = (h x, functions_map n f h l)

-- ---- the column of an integer at every index
module _ (n w : ℕ) (f : Index → ℤ) where
  length_slice : (j : ℕ) → length (slice n w f j) ≡ 2 ^ n
  unfolding slice
  length_slice j = length_listing n _

  pub length_column : length (column_of n w f) ≡ w
  unfolding column_of
  length_column = length-map-range_with_len (slice n w f) 0 w

  pub column_functions : AllFunctions n (column_of n w f)
  unfolding column_of
  column_functions = functions_map n (slice n w f) length_slice (range_with_len 0 w)

  pub column_at : (j : ℕ) → j < w → get_or (column_of n w f) j [] ≡ slice n w f j
  unfolding column_of
  column_at j l = get_or-map-range_with_len (slice n w f) 0 w j j [] l (omega arith)

  pub column_bits : (y : Index) → length y ≡ n → bits_of (column_of n w f) y ≡ signed_bits w (f y)
  unfolding slice
  column_bits y e =
      let m : length (bits_of (column_of n w f) y) ≡ w = length_bits_of (column_of n w f) y ∙ length_column in
      ext_get_or false _ _ (m ∙ sym (length_signed_bits w (f y))) (λ j h.
      let k : j < w = omega arith in
      bits_of_at (column_of n w f) y j (omega (arith, length_column))
      ∙ ap (λ (t : Table). value_at t y) (column_at j k)
      ∙ at_listing false n (λ z. get_or (signed_bits w (f z)) j false) y e)

  -- a column with these integers is that column
  pub column_only : (ss : Column) → length ss ≡ w → AllFunctions n ss → ((y : Index) → length y ≡ n → integer_at ss y ≡ f y) → ss ≡ column_of n w f
  unfolding integer_at slice
  column_only ss l a h = ext_get_or [] _ _ (l ∙ sym length_column) (λ j k.
      let b : j < w = omega arith in
      same_values n (get_or ss j []) (slice n w f j) (functions_at n ss j k a) (length_slice j) (λ y e.
      sym (bits_of_at ss y j k)
      ∙ ap (λ (bs : List Bool). get_or bs j false) (sym (bits_of_number (bits_of ss y)))
      ∙ ap₂ (λ (m : ℕ) (z : ℤ). get_or (signed_bits m z) j false) (length_bits_of ss y ∙ l) (h y e)
      ∙ sym (at_listing false n (λ z. get_or (signed_bits w (f z)) j false) y e))
      ∙ sym (column_at j b))

-- ---- entries of quadruples
four_fit_at : (w : ℕ) (q : Quadruple) → AllFourFit w q → (k : Component) → EntryFits w (component k q)
four_fit_at w q h A = h.a
four_fit_at w q h B = h.b
four_fit_at w q h C = h.c
four_fit_at w q h D = h.d

pub fit_at : (w : ℕ) (v : List Quadruple) (i : ℕ) → i < length v → AllFit w v → (k : Component) → EntryFits w (component k (get_or v i zero_quadruple))
fit_at w [] i l h k = absurd (let b : ⊥ = omega arith in b)
fit_at w (q ∷ v) zero l h k = four_fit_at w q h.0 k
fit_at w (q ∷ v) (suc i) l h k = fit_at w v i (omega arith) h.1 k

pub fit_from : (w : ℕ) (v : List Quadruple) → ((i : ℕ) → i < length v → (k : Component) → EntryFits w (component k (get_or v i zero_quadruple))) → AllFit w v
fit_from w [] h = tt
fit_from w (q ∷ v) h = (
  record { a = h 0 (omega arith) A; b = h 0 (omega arith) B; c = h 0 (omega arith) C; d = h 0 (omega arith) D },
  fit_from w v (λ i l. h (suc i) (omega arith)),
)

pub components_path : (p q : Quadruple) → ((k : Component) → component k p ≡ component k q) → p ≡ q
components_path p q h = quadruple_path (h A) (h B) (h C) (h D)

-- ---- four columns
-- the integers fit as many bits as there are slices
pub integer_fits : (ss : Column) (w : ℕ) (y : Index) → length ss ≡ w → 1 ≤ w → EntryFits w (integer_at ss y)
unfolding integer_at
integer_fits ss w y l h = subst (λ (m : ℕ). EntryFits m (signed_number (bits_of ss y))) (length_bits_of ss y ∙ l) (number_fits (bits_of ss y) (omega (arith, length_bits_of ss y)))

module _ (n w : ℕ) (v : List Quadruple) where
  pub stands : 1 ≤ w → length v ≡ 2 ^ n → AllFit w v → Represents n w (columns_of n w v) v
  unfolding columns_of integer_at at_index
  stands h l f = record {
    listed = l;
    wide = λ k. length_column n w (λ y. component k (quadruple_at v y));
    functions = λ k. column_functions n w (λ y. component k (quadruple_at v y));
    integers = λ k y e.
        let b : number y < 2 ^ n = subst (λ (m : ℕ). number y < 2 ^ m) e (number_below y) in
        ap signed_number (column_bits n w (λ y. component k (quadruple_at v y)) y e)
        ∙ number-of-signed-bits w (component k (quadruple_at v y)) h (fit_at w v (number y) (omega arith) f k);
  }

  module _ (x : Columns) (r : Represents n w x v) where
    pub only : (k : Component) → x k ≡ columns_of n w v k
    unfolding columns_of
    only k = column_only n w (λ y. component k (quadruple_at v y)) (x k) (r.wide k) (r.functions k) (r.integers k)

    pub fit : 1 ≤ w → AllFit w v
    unfolding at_index
    fit h = fit_from w v (λ i l k.
        let b : i < 2 ^ n = omega (arith, r.listed) in
        subst (EntryFits w)
        (r.integers k (bits n i) (length_bits n i) ∙ ap (λ (j : ℕ). component k (get_or v j zero_quadruple)) (number_of_bits n i b))
        (integer_fits (x k) w (bits n i) (r.wide k) h))

-- columns stand for one list only
pub one_list : (n w : ℕ) (x : Columns) (u v : List Quadruple) → Represents n w x u → Represents n w x v → u ≡ v
one_list n w x u v r s =
    sym (listing_own zero_quadruple n u r.listed)
    ∙ listing_same n (quadruple_at u) (quadruple_at v) (λ y e. components_path (quadruple_at u y) (quadruple_at v y) (λ k. sym (r.integers k y e) ∙ s.integers k y e))
    ∙ listing_own zero_quadruple n v s.listed
