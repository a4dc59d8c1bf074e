-- Lists in index order.
use Rattle.std.proofs.Common.{◌≡◌, ℕ, zero, suc, ◌+◌, ◌-◌, ◌^◌, ◌<◌, min, true, false, List, [], ◌∷◌, ◌++◌, length, get_or, take, drop, sym, refl, ap, ◌∙◌, subst, ap₂, arith, length-append, length-drop, take-append-drop, length-take, get_or-drop, get_or-take, get_or-append-add}
use lib.ListN.{get_or-append}
use Rattle.exact.specs.Indices.{Index, number, where_0, where_1, listing, at_index}
use Rattle.exact.proofs.Indices.{double, number_below}

pub length_listing : {A : Type 0} (n : ℕ) (f : Index → A) → length (listing n f) ≡ 2 ^ n
unfolding listing
length_listing zero f = refl
length_listing (suc n) f = length-append (listing n (where_0 f)) (listing n (where_1 f)) ∙ ap₂ (λ (a b : ℕ). a + b) (length_listing n (where_0 f)) (length_listing n (where_1 f)) ∙ double n

pub listing_same : {A : Type 0} (n : ℕ) (f g : Index → A) → ((x : Index) → length x ≡ n → f x ≡ g x) → listing n f ≡ listing n g
unfolding listing
listing_same zero f g h = ap (λ y. y ∷ []) (h [] refl)
listing_same (suc n) f g h = ap₂ (λ xs ys. xs ++ ys) (listing_same n (where_0 f) (where_0 g) (λ x l. h (false ∷ x) (ap suc l))) (listing_same n (where_1 f) (where_1 g) (λ x l. h (true ∷ x) (ap suc l)))

-- element number (index x) is f x
pub listing_at : {A : Type 0} (x : Index) (f : Index → A) (d : A) → get_or (listing (length x) f) (number x) d ≡ f x
unfolding listing number
listing_at [] f d = refl
listing_at (false ∷ x) f d =
    let l : length (listing (length x) (where_0 f)) ≡ 2 ^ length x = length_listing (length x) (where_0 f) in
    let b = number_below x in
    let z : 0 + number x ≡ number x = omega arith in
    ap (λ (i : ℕ). get_or (listing (length x) (where_0 f) ++ listing (length x) (where_1 f)) i d) z
    ∙ get_or-append (listing (length x) (where_0 f)) (listing (length x) (where_1 f)) d (number x) (omega arith)
    ∙ listing_at x (where_0 f) d
listing_at (true ∷ x) f d =
    let l : length (listing (length x) (where_0 f)) ≡ 2 ^ length x = length_listing (length x) (where_0 f) in
    ap (λ (m : ℕ). get_or (listing (length x) (where_0 f) ++ listing (length x) (where_1 f)) (m + number x) d) (sym l)
    ∙ get_or-append-add (listing (length x) (where_0 f)) (listing (length x) (where_1 f)) (number x) d
    ∙ listing_at x (where_1 f) d

pub at_listing : {A : Type 0} (none : A) (n : ℕ) (f : Index → A) (x : Index) → length x ≡ n → at_index none (listing n f) x ≡ f x
unfolding at_index
at_listing none n f x l = ap (λ (m : ℕ). get_or (listing m f) (number x) none) (sym l) ∙ listing_at x f none

-- a list of 2^n elements is the listing of its own elements
module _ {A : Type 0} (none : A) where
  pub listing_own : (n : ℕ) (v : List A) → length v ≡ 2 ^ n → listing n (at_index none v) ≡ v
  unfolding listing at_index number
  listing_own zero [] l = absurd (omega arith)
  listing_own zero (q ∷ []) l = refl
  listing_own zero (q ∷ (p ∷ v)) l = absurd (omega arith)
  listing_own (suc n) v l =
      let d = double n in
      let a : length (take (2 ^ n) v) ≡ 2 ^ n = length-take (2 ^ n) v ∙ x in
      let b : length (drop (2 ^ n) v) ≡ 2 ^ n = length-drop (2 ^ n) v ∙ y in
      ap₂ (λ (s t : List A). s ++ t)
      (listing_same n (where_0 (at_index none v)) (at_index none (take (2 ^ n) v)) first ∙ listing_own n (take (2 ^ n) v) a)
      (listing_same n (where_1 (at_index none v)) (at_index none (drop (2 ^ n) v)) second ∙ listing_own n (drop (2 ^ n) v) b)
      ∙ take-append-drop (2 ^ n) v
    where
      x : min (2 ^ n) (length v) ≡ 2 ^ n
      x = let d = double n in omega arith

      y : length v - 2 ^ n ≡ 2 ^ n
      y = let d = double n in omega arith

      first : (x : Index) → length x ≡ n → get_or v (0 + number x) none ≡ get_or (take (2 ^ n) v) (number x) none
      first x e = let h : number x < 2 ^ n = subst (λ (m : ℕ). number x < 2 ^ m) e (number_below x) in let z : 0 + number x ≡ number x = omega arith in ap (λ (i : ℕ). get_or v i none) z ∙ sym (get_or-take (2 ^ n) v (number x) none h)

      second : (x : Index) → length x ≡ n → get_or v (2 ^ length x + number x) none ≡ get_or (drop (2 ^ n) v) (number x) none
      second x e = ap (λ (m : ℕ). get_or v (2 ^ m + number x) none) e ∙ sym (get_or-drop (2 ^ n) v (number x) none)
