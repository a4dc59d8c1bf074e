-- The parts of a function by fixing first qubits keep the laws of every rule of parts.
use Rattle.std.proofs.Common.{◌≡◌, ℕ, zero, suc, ◌+◌, ◌-◌, ◌<◌, ◌≤◌, Bool, true, false, not, ◌⊎◌, List, [], ◌∷◌, ◌++◌, length, drop, sym, refl, ap, ◌∙◌, subst, inl, inr, ⊎_elim, append_assoc, arith, length-append, length-drop, drop-drop}
use lib.Seq.{drop-append-add, drop-append-le}
use Rattle.std.proofs.lemmas.Bool.{false≢true, or_left, or_right, or_cases, and_parts, and_from, cond-true, cases_lt}
use Rattle.exact.specs.Indices.{Index, listing, where_0, where_1}
use Rattle.exact.proofs.Indices.{same_self, same_equal}
use Rattle.exact.proofs.Listings.{listing_same, at_listing}
use Rattle.functions.specs.Tables.{Table, value_at, constant}
use Rattle.functions.specs.Sets.{same, among, is_constant, without_constants}
use Rattle.functions.specs.Meanings.{SettingLaws}
use Rattle.functions.proofs.Values.{constant_at}
use Rattle.functions.proofs.Sets.{among_append, among_varying}
use Rattle.functions.proofs.Constants.{constant_is_constant}
use Rattle.diagrams.specs.Parts.{with_first, first_fixed, prefix_parts}
use Rattle.diagrams.specs.Meanings.{diagram_setting}

-- ---- what is among the functions of a listing
pub among_listing : (k : ℕ) (F : Index → Table) (g : Table) → among g (listing k F) ≡ true → (x : Index) × (length x ≡ k) × (g ≡ F x)
unfolding among listing
among_listing zero F g h = ⊎_elim (λ (e : same g (F []) ≡ true). ([], refl, same_equal g (F []) e)) (λ (e : false ≡ true). absurd (false≢true e)) (or_cases (same g (F [])) false h)
among_listing (suc k) F g h = ⊎_elim
    (λ (e : among g (listing k (where_0 F)) ≡ true). let r = among_listing k (where_0 F) g e in (false ∷ r.0, ap suc r.1, r.2))
    (λ e. let r = among_listing k (where_1 F) g e in (true ∷ r.0, ap suc r.1, r.2))
    (or_cases (among g (listing k (where_0 F))) (among g (listing k (where_1 F))) (sym (among_append g (listing k (where_0 F)) (listing k (where_1 F))) ∙ h))

pub listing_among : (x : Index) (F : Index → Table) → among (F x) (listing (length x) F) ≡ true
unfolding among listing
listing_among [] F = or_left (same (F []) (F [])) false (same_self (F []))
listing_among (false ∷ x) F =
    among_append (F (false ∷ x)) (listing (length x) (where_0 F)) (listing (length x) (where_1 F))
    ∙ or_left (among (F (false ∷ x)) (listing (length x) (where_0 F))) (among (F (false ∷ x)) (listing (length x) (where_1 F))) (listing_among x (where_0 F))
listing_among (true ∷ x) F =
    among_append (F (true ∷ x)) (listing (length x) (where_0 F)) (listing (length x) (where_1 F))
    ∙ or_right (among (F (true ∷ x)) (listing (length x) (where_0 F))) (among (F (true ∷ x)) (listing (length x) (where_1 F))) (listing_among x (where_1 F))

-- ---- the functions with first qubits fixed
-- g is f, or f with some of its first m qubits set
abbrev pub FromPrefix : ℕ → ℕ → Table → Table → Type 0
FromPrefix n m f g = (g ≡ f) ⊎ ((p : Index) × (0 < length p) × (length p ≤ m) × (g ≡ with_first n f p))

pub first_fixed_from : (n m : ℕ) (f g : Table) → among g (first_fixed n m f) ≡ true → FromPrefix n m f g
unfolding among first_fixed
first_fixed_from n zero f g h = ⊎_elim (λ (e : same g f ≡ true). inl (same_equal g f e)) (λ (e : false ≡ true). absurd (false≢true e)) (or_cases (same g f) false h)
first_fixed_from n (suc m) f g h = ⊎_elim
    (λ (e : among g (first_fixed n m f) ≡ true). wider (first_fixed_from n m f g e))
    (λ e. let r = among_listing (suc m) (with_first n f) g e in inr (r.0, (let z = r.1 in omega arith), (let z = r.1 in omega arith), r.2))
    (or_cases (among g (first_fixed n m f)) (among g (listing (suc m) (with_first n f))) (sym (among_append g (first_fixed n m f) (listing (suc m) (with_first n f))) ∙ h))
  where
    wider : FromPrefix n m f g → FromPrefix n (suc m) f g
    wider (inl e) = inl e
    wider (inr r) = inr (r.0, r.1, omega (arith, r.2), r.3)

itself_fixed : (n m : ℕ) (f : Table) → among f (first_fixed n m f) ≡ true
unfolding among first_fixed
itself_fixed n zero f = or_left (same f f) false (same_self f)
itself_fixed n (suc m) f = among_append f (first_fixed n m f) (listing (suc m) (with_first n f)) ∙ or_left (among f (first_fixed n m f)) (among f (listing (suc m) (with_first n f))) (itself_fixed n m f)

prefix_fixed : (n m : ℕ) (f : Table) (p : Index) → 0 < length p → length p ≤ m → among (with_first n f p) (first_fixed n m f) ≡ true
unfolding first_fixed
prefix_fixed n zero f p l k = absurd (let b : ⊥ = omega arith in b)
prefix_fixed n (suc m) f p l k =
    among_append (with_first n f p) (first_fixed n m f) (listing (suc m) (with_first n f))
    ∙ ⊎_elim
    (λ (e : length p < suc m). or_left (among (with_first n f p) (first_fixed n m f)) (among (with_first n f p) (listing (suc m) (with_first n f))) (prefix_fixed n m f p l (omega arith)))
    (λ e. let z : length p ≡ suc m = omega arith in
    or_right (among (with_first n f p) (first_fixed n m f)) (among (with_first n f p) (listing (suc m) (with_first n f)))
    (subst (λ (j : ℕ). among (with_first n f p) (listing j (with_first n f)) ≡ true) z (listing_among p (with_first n f))))
    (cases_lt (length p) (suc m))

pub from_first_fixed : (n m : ℕ) (f g : Table) → FromPrefix n m f g → among g (first_fixed n m f) ≡ true
from_first_fixed n m f g (inl e) = subst (λ (x : Table). among x (first_fixed n m f) ≡ true) (sym e) (itself_fixed n m f)
from_first_fixed n m f g (inr r) = subst (λ (x : Table). among x (first_fixed n m f) ≡ true) (sym r.3) (prefix_fixed n m f r.0 r.1 r.2)

-- ---- parts are those of them that are not constant
not-true : (b : Bool) → not b ≡ true → b ≡ false
not-true true e = absurd (false≢true e)
not-true false e = refl

pub part_prefix : (n : ℕ) (f g : Table) → among g (prefix_parts n f) ≡ true → FromPrefix n n f g × (is_constant n g ≡ false)
unfolding prefix_parts
part_prefix n f g h =
    let r = and_parts (among g (first_fixed n n f)) (not (is_constant n g)) (sym (among_varying n g (first_fixed n n f)) ∙ h) in
    (first_fixed_from n n f g r.0, not-true (is_constant n g) r.1)

pub prefix_part : (n : ℕ) (f g : Table) → FromPrefix n n f g → is_constant n g ≡ false → among g (prefix_parts n f) ≡ true
unfolding prefix_parts
prefix_part n f g r e = among_varying n g (first_fixed n n f) ∙ and_from (among g (first_fixed n n f)) (not (is_constant n g)) (from_first_fixed n n f g r) (ap not e)

-- ---- a constant has no parts
-- first qubits set and the others of an index make an index
pub prefix_index : (n : ℕ) (p x : Index) → length p ≤ n → length x ≡ n → length (p ++ drop (length p) x) ≡ n
prefix_index n p x l lx = length-append p (drop (length p) x) ∙ (let z = length-drop (length p) x in omega arith)

everywhere : (n : ℕ) (b : Bool) → listing n (λ x. b) ≡ constant n b
unfolding constant
everywhere n b = refl

with_first_constant : (n : ℕ) (b : Bool) (p : Index) → length p ≤ n → with_first n (constant n b) p ≡ constant n b
unfolding with_first
with_first_constant n b p l = listing_same n _ _ (λ x lx. constant_at n b (p ++ drop (length p) x) (prefix_index n p x l lx)) ∙ everywhere n b

all_constant : (n : ℕ) (l : List Table) → ((g : Table) → among g l ≡ true → is_constant n g ≡ true) → without_constants n l ≡ []
unfolding among without_constants
all_constant n [] h = refl
all_constant n (f ∷ l) h =
    cond-true (is_constant n f) (without_constants n l) (f ∷ without_constants n l) (h f (or_left (same f f) (among f l) (same_self f)))
    ∙ all_constant n l (λ g e. h g (or_right (same g f) (among g l) e))

constant_no_part : (n : ℕ) (b : Bool) → prefix_parts n (constant n b) ≡ []
unfolding prefix_parts
constant_no_part n b = all_constant n (first_fixed n n (constant n b)) (λ g h. go g (first_fixed_from n n (constant n b) g h))
  where
    go : (g : Table) → FromPrefix n n (constant n b) g → is_constant n g ≡ true
    go g (inl e) = ap (is_constant n) e ∙ constant_is_constant n b
    go g (inr r) = ap (is_constant n) (r.3 ∙ with_first_constant n b r.0 r.2) ∙ constant_is_constant n b

-- ---- a part of a part is a part
-- of two settings of first qubits the earlier one stays, and the later one sets what is left
module _ (n : ℕ) (f : Table) (p q : Index) (lp : length p ≤ n) (lq : length q ≤ n) where
  twice_at : (x : Index) → length x ≡ n → value_at (with_first n f p) (q ++ drop (length q) x) ≡ value_at f (p ++ drop (length p) (q ++ drop (length q) x))
  unfolding with_first
  twice_at x lx = at_listing false n (λ y. value_at f (p ++ drop (length p) y)) (q ++ drop (length q) x) (prefix_index n q x lq lx)

  shorter : length q ≤ length p → with_first n (with_first n f p) q ≡ with_first n f p
  unfolding with_first
  shorter l = listing_same n _ _ (λ x lx. twice_at x lx ∙ ap (λ (y : Index). value_at f (p ++ y)) (rest x))
    where
      e : length p ≡ length q + (length p - length q)
      e = omega arith

      rest : (x : Index) → drop (length p) (q ++ drop (length q) x) ≡ drop (length p) x
      rest x =
          ap (λ (k : ℕ). drop k (q ++ drop (length q) x)) e
          ∙ drop-append-add q (drop (length q) x) (length p - length q)
          ∙ drop-drop (length p - length q) (length q) x
          ∙ ap (λ (k : ℕ). drop k x) (sym e)

  whole_length : length p ≤ length q → length (p ++ drop (length p) q) ≡ length q
  whole_length l = length-append p (drop (length p) q) ∙ (let z = length-drop (length p) q in omega arith)

  longer : length p ≤ length q → with_first n (with_first n f p) q ≡ with_first n f (p ++ drop (length p) q)
  unfolding with_first
  longer l = listing_same n _ _ (λ x lx. twice_at x lx ∙ ap (value_at f) (rest x))
    where
      rest : (x : Index) → p ++ drop (length p) (q ++ drop (length q) x) ≡ (p ++ drop (length p) q) ++ drop (length (p ++ drop (length p) q)) x
      rest x =
          ap (λ (y : Index). p ++ y) (drop-append-le (length p) q (drop (length q) x) l)
          ∙ sym (append_assoc p (drop (length p) q) (drop (length q) x))
          ∙ ap (λ (k : ℕ). (p ++ drop (length p) q) ++ drop k x) (sym (whole_length l))

  twice : 0 < length p → FromPrefix n n f (with_first n (with_first n f p) q)
  twice some = ⊎_elim
      (λ (l : length p < length q). let k : length p ≤ length q = omega arith in inr (p ++ drop (length p) q, omega (arith, whole_length k), omega (arith, whole_length k), longer k))
      (λ l. inr (p, some, lp, shorter l))
      (cases_lt (length p) (length q))

prefix_of_prefix : (n : ℕ) (f g h : Table) → FromPrefix n n f g → FromPrefix n n g h → FromPrefix n n f h
prefix_of_prefix n f g h (inl e) r = subst (λ (x : Table). FromPrefix n n x h) e r
prefix_of_prefix n f g h (inr a) (inl e) = inr (a.0, a.1, a.2, e ∙ a.3)
prefix_of_prefix n f g h (inr a) (inr b) = subst (FromPrefix n n f) (sym (b.3 ∙ ap (λ (x : Table). with_first n x b.0) a.3)) (twice n f a.0 b.0 a.2 b.2 a.1)

pub prefix_lawful : (n limit : ℕ) → 1 ≤ n → n ≤ 16 → SettingLaws (diagram_setting n limit)
prefix_lawful n limit some few = record {
  some_qubits = some;
  few_qubits = few;
  own_part = λ f l e. prefix_part n f f (inl refl) e;
  no_part = constant_no_part n;
  part_of_part = λ f g h a b.
      let x = part_prefix n f g a in
      let y = part_prefix n g h b in
      prefix_part n f h (prefix_of_prefix n f g h x.0 y.0) y.1;
}
