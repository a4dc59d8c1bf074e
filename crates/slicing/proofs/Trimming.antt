-- Trimming four columns to their least width.
use Rattle.std.proofs.Common.{◌≡◌, ℕ, zero, suc, ◌/◌, ◌^◌, ◌<◌, ◌≤◌, Bool, true, false, cond, ◌&&◌, List, [], ◌∷◌, length, get_or, take, ℤ, pos, ◌+ℤ◌, ◌*ℤ◌, neg_ℤ, sym, refl, ap, ◌∙◌, subst, arith}
use lib.Signed.{mag}
use Rattle.std.proofs.lemmas.List.{take-map, take_all, length-take-le}
use Rattle.std.proofs.lemmas.Bool.{and_parts, and_from, both_ways}
use Rattle.exact.specs.declared.Quadruple.{Quadruple}
use Rattle.exact.specs.Indices.{Index, number, at_index}
use Rattle.exact.specs.States.{EntryFits, width}
use Rattle.exact.proofs.Indices.{number_below, same_self, same_equal}
use Rattle.exact.proofs.Widths.{at_least_one, fits, least}
use Rattle.functions.specs.Tables.{Table, value_at}
use Rattle.functions.specs.Sets.{same}
use Rattle.functions.proofs.Values.{same_values}
use Rattle.slicing.specs.declared.Component.{Component}
use Rattle.slicing.specs.declared.Component.TheVariants.{A, B, C, D}
use Rattle.slicing.specs.TwosComplement.{signed_sum, bit_number, signed_number}
use Rattle.slicing.specs.Columns.{Column, Columns, bits_of, integer_at, AllFunctions, Represents}
use Rattle.slicing.specs.Trimming.{same_next, all_same_next, trimmed_width, trimmed}
use Rattle.slicing.proofs.SignedNumbers.{mag_more, fits_in, fits_out}
use Rattle.slicing.proofs.Columns.{length_bits_of, bits_of_at, functions_at, fit_at, fit}

-- ---- bits
-- equal top bits: one of them may go
take_same : (bs : List Bool) (w : ℕ) → suc w < length bs → get_or bs w false ≡ get_or bs (suc w) false → signed_number (take (suc (suc w)) bs) ≡ signed_number (take (suc w) bs)
unfolding signed_number signed_sum
take_same [] w l e = absurd (let b : ⊥ = omega arith in b)
take_same (b ∷ []) w l e = absurd (let b : ⊥ = omega arith in b)
take_same (b ∷ c ∷ bs) zero l e = ap (λ (t : Bool). bit_number b +ℤ pos 2 *ℤ neg_ℤ (bit_number t)) (sym e) ∙ one b
  where
    one : (b : Bool) → bit_number b +ℤ pos 2 *ℤ neg_ℤ (bit_number b) ≡ neg_ℤ (bit_number b)
    one true = refl
    one false = refl
take_same (b ∷ c ∷ bs) (suc w) l e = ap (λ (z : ℤ). bit_number b +ℤ pos 2 *ℤ z) (take_same (c ∷ bs) w (omega arith) e)

-- where the number fits one bit less, the top bits are equal
fits_same : (bs : List Bool) (w : ℕ) → suc w < length bs → EntryFits (suc w) (signed_number (take (suc (suc w)) bs)) → get_or bs w false ≡ get_or bs (suc w) false
unfolding signed_number signed_sum
fits_same [] w l f = absurd (let b : ⊥ = omega arith in b)
fits_same (b ∷ []) w l f = absurd (let b : ⊥ = omega arith in b)
fits_same (true ∷ true ∷ bs) zero l f = refl
fits_same (true ∷ false ∷ bs) zero l f = absurd (let g = fits_out 0 (pos 1) f in let b : ⊥ = omega arith in b)
fits_same (false ∷ true ∷ bs) zero l f = absurd (let g = fits_out 0 (pos 0 +ℤ pos 2 *ℤ neg_ℤ (pos 1)) f in let b : ⊥ = omega arith in b)
fits_same (false ∷ false ∷ bs) zero l f = refl
fits_same (b ∷ c ∷ bs) (suc w) l f =
    let z : ℤ = signed_number (take (suc (suc w)) (c ∷ bs)) in
    fits_same (c ∷ bs) w (omega arith) (fits_in w z (less (mag (bit_number b +ℤ pos 2 *ℤ z)) (mag z) w (mag_more b z) (fits_out (suc w) (bit_number b +ℤ pos 2 *ℤ z) f)))
  where
    less : (m k w : ℕ) → m / 2 ≡ k → m < 2 ^ suc w → k < 2 ^ w
    less m k w e h = omega arith

-- ---- columns
bits_take : (w : ℕ) (ss : Column) (y : Index) → bits_of (take w ss) y ≡ take w (bits_of ss y)
unfolding bits_of
bits_take w ss y = sym (take-map (λ (f : Table). value_at f y) w ss)

functions_take : (n w : ℕ) (ss : Column) → AllFunctions n ss → AllFunctions n (take w ss)
functions_take n zero ss h = tt
functions_take n (suc w) [] h = tt
functions_take n (suc w) (f ∷ ss) h = (h.0, functions_take n w ss h.1)

take_same_at : (w : ℕ) (ss : Column) (y : Index) → suc w < length ss → get_or ss w [] ≡ get_or ss (suc w) [] → integer_at (take (suc (suc w)) ss) y ≡ integer_at (take (suc w) ss) y
unfolding integer_at
take_same_at w ss y l e =
    ap signed_number (bits_take (suc (suc w)) ss y)
    ∙ take_same (bits_of ss y) w (omega (arith, length_bits_of ss y)) (bits_of_at ss y w (omega arith) ∙ ap (λ (f : Table). value_at f y) e ∙ sym (bits_of_at ss y (suc w) l))
    ∙ sym (ap signed_number (bits_take (suc w) ss y))

fits_same_slices : (n w : ℕ) (ss : Column) → suc w < length ss → AllFunctions n ss → ((y : Index) → length y ≡ n → EntryFits (suc w) (integer_at (take (suc (suc w)) ss) y)) → get_or ss w [] ≡ get_or ss (suc w) []
unfolding integer_at
fits_same_slices n w ss l a f =
    same_values n (get_or ss w []) (get_or ss (suc w) []) (functions_at n ss w (omega arith) a) (functions_at n ss (suc w) l a) (λ y e.
    sym (bits_of_at ss y w (omega arith))
    ∙ fits_same (bits_of ss y) w (omega (arith, length_bits_of ss y)) (subst (λ (bs : List Bool). EntryFits (suc w) (signed_number bs)) (bits_take (suc (suc w)) ss y) (f y e))
    ∙ bits_of_at ss y (suc w) l)

-- ---- the comparison of the tops
same_next_equal : (ss : Column) (w : ℕ) → same_next ss w ≡ true → get_or ss w [] ≡ get_or ss (suc w) []
unfolding same_next
same_next_equal ss w e = same_equal (get_or ss w []) (get_or ss (suc w) []) e

equal_same_next : (ss : Column) (w : ℕ) → get_or ss w [] ≡ get_or ss (suc w) [] → same_next ss w ≡ true
unfolding same_next
equal_same_next ss w e = subst (λ (f : Table). same (get_or ss w []) f ≡ true) e (same_self (get_or ss w []))

all_next_equal : (x : Columns) (w : ℕ) → all_same_next x w ≡ true → (k : Component) → get_or (x k) w [] ≡ get_or (x k) (suc w) []
unfolding all_same_next
all_next_equal x w e =
    let p = and_parts (same_next (x A) w) (same_next (x B) w && (same_next (x C) w && same_next (x D) w)) e in
    let q = and_parts (same_next (x B) w) (same_next (x C) w && same_next (x D) w) p.1 in
    let r = and_parts (same_next (x C) w) (same_next (x D) w) q.1 in
    go p.0 q.0 r.0 r.1
  where
    go : same_next (x A) w ≡ true → same_next (x B) w ≡ true → same_next (x C) w ≡ true → same_next (x D) w ≡ true → (k : Component) → get_or (x k) w [] ≡ get_or (x k) (suc w) []
    go a b c d A = same_next_equal (x A) w a
    go a b c d B = same_next_equal (x B) w b
    go a b c d C = same_next_equal (x C) w c
    go a b c d D = same_next_equal (x D) w d

equal_all_next : (x : Columns) (w : ℕ) → ((k : Component) → get_or (x k) w [] ≡ get_or (x k) (suc w) []) → all_same_next x w ≡ true
unfolding all_same_next
equal_all_next x w e =
    and_from _ _ (equal_same_next (x A) w (e A)) (and_from _ _ (equal_same_next (x B) w (e B)) (and_from _ _ (equal_same_next (x C) w (e C)) (equal_same_next (x D) w (e D))))

-- ---- trimming step by step: the first w slices of each column
abbrev front : ℕ → Columns → Columns
front w x k = take w (x k)

record LeastFront (n w : ℕ) (x : Columns) (v : List Quadruple) : Type 0 where
  least_width : w ≡ width v
  kept : Represents n w (front w x) v

module _ (n : ℕ) (x : Columns) (v : List Quadruple) (a : (k : Component) → AllFunctions n (x k)) where
  one_less : (w : ℕ) → ((k : Component) → suc w < length (x k)) → all_same_next x w ≡ true → Represents n (suc (suc w)) (front (suc (suc w)) x) v → Represents n (suc w) (front (suc w) x) v
  one_less w l e r = record {
    listed = r.listed;
    wide = λ k. length-take-le (suc w) (x k) (omega (arith, l k));
    functions = λ k. functions_take n (suc w) (x k) (a k);
    integers = λ k y h. sym (take_same_at w (x k) y (l k) (all_next_equal x w e k)) ∙ r.integers k y h;
  }

  no_less : (w : ℕ) → ((k : Component) → suc w < length (x k)) → all_same_next x w ≡ false → Represents n (suc (suc w)) (front (suc (suc w)) x) v → width v ≤ suc w → ⊥
  unfolding at_index
  no_less w l e r h = both_ways (all_same_next x w) e (equal_all_next x w (λ k.
      fits_same_slices n w (x k) (l k) (a k) (λ y m.
      let b : number y < 2 ^ n = subst (λ (j : ℕ). number y < 2 ^ j) m (number_below y) in
      subst (EntryFits (suc w)) (sym (r.integers k y m)) (fit_at (suc w) v (number y) (omega (arith, r.listed)) (fits v (suc w) h) k))))

  trims : (w : ℕ) → 1 ≤ w → ((k : Component) → w ≤ length (x k)) → Represents n w (front w x) v → LeastFront n (trimmed_width x w) x v
  unfolding trimmed_width
  trims zero h l r = absurd (let b : ⊥ = omega arith in b)
  trims (suc zero) h l r =
      let m : width v ≤ 1 = least v 1 (omega arith) (fit n 1 v (front 1 x) r (omega arith)) in
      record { least_width = omega (arith, at_least_one v); kept = r }
  trims (suc (suc w)) h l r = go (all_same_next x w) refl (λ s. trims (suc w) (omega arith) (λ k. omega (arith, l k)) s)
    where
      go : (b : Bool) → all_same_next x w ≡ b → (Represents n (suc w) (front (suc w) x) v → LeastFront n (trimmed_width x (suc w)) x v)
          → LeastFront n (cond b (trimmed_width x (suc w)) (suc (suc w))) x v
      go true e ih = ih (one_less w l e r)
      go false e ih =
          let m : width v ≤ suc (suc w) = least v (suc (suc w)) (omega arith) (fit n (suc (suc w)) v (front (suc (suc w)) x) r (omega arith)) in
          let o : width v ≤ suc w → ⊥ = no_less w l e r in
          record { least_width = omega arith; kept = r }

-- ---- four columns
pub same_columns : (n w : ℕ) (x z : Columns) (v : List Quadruple) → ((k : Component) → z k ≡ x k) → Represents n w x v → Represents n w z v
same_columns n w x z v e r = record {
  listed = r.listed;
  wide = λ k. ap length (e k) ∙ r.wide k;
  functions = λ k. subst (AllFunctions n) (sym (e k)) (r.functions k);
  integers = λ k y h. ap (λ (ss : Column). integer_at ss y) (e k) ∙ r.integers k y h;
}

module _ (n w : ℕ) (x : Columns) (v : List Quadruple) (some : 1 ≤ w) (r : Represents n w x v) where
  trimming : LeastFront n (trimmed_width x w) x v
  trimming = trims n x v r.functions w some (λ k. omega (arith, r.wide k)) (same_columns n w x (front w x) v (λ k. take_all w (x k) (omega (arith, r.wide k))) r)

  pub trimmed_least : trimmed_width x w ≡ width v
  trimmed_least = trimming.least_width

  pub trimmed_stands : Represents n (width v) (trimmed w x) v
  unfolding trimmed
  trimmed_stands = subst (λ (u : ℕ). Represents n u (front (trimmed_width x w) x) v) trimmed_least trimming.kept
