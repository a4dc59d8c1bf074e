-- How functions lie among the words.
use Rattle.std.proofs.Common.{◌≡◌, ℕ, zero, suc, ◌+◌, ◌-◌, ◌*◌, ◌^◌, ◌<◌, ◌≤◌, min, cond, eqb, ltb, List, [], ◌∷◌, ◌++◌, length, get_or, set, take, drop, Some, None, sym, refl, ap, ◌∙◌, subst, ap₂, ⊎_elim, mul_comm, add-mul, mul-le-mul_left, one-mul, mul-suc, arith, pow_mono}
use borrow.Rule.Slice.PartMut.{put_mid, post_of}
use lib.Bits.{bit_and, bit_or, or_add_and}
use Rattle.std.specs.List.{slice_get}
use Rattle.std.proofs.lemmas.Nat.{and_le_l}
use Rattle.std.proofs.lemmas.List.FromFn.{length-map-range_with_len, get_or-map-range_with_len}
use Rattle.std.proofs.lemmas.List.{append-nil, take_all, drop_all, ext_get_or, get_or-set_same, get_or-set_other, length-set, length-take-le, length-drop, length-append, get_or-take, get_or-drop, get_or_append_left, get_or-append_right}
use Rattle.std.proofs.lemmas.Option.{slice_get-get_or, slice_get_past}
use Rattle.std.proofs.lemmas.Bool.{eq-eqb, ne_eqb, cases_eq, cases_lt, lt-ltb, le-ltb, cond-true, cond-false}
use Rattle.table_words.specs.Words.{Clean}
use Rattle.table_store.specs.Marks.{mixed, mark_of}
use Rattle.table_places.specs.Handles.{Content}
use Rattle.table_store.specs.Places.{width, word_at, words_at, content, contents}
use Rattle.table_store.specs.Stores.{LaidOut, Written}
use Rattle.table_places.proofs.Holding.{none_is_some}

-- ---- widths and places
pub width_few : (n : ℕ) → n ≤ 8 → width n ≤ 4
unfolding width
width_few n few = let p : 2 ^ n ≤ 2 ^ 8 = pow_mono few in omega arith

-- the width suffices for all indices
width_all : (n : ℕ) → 2 ^ n ≤ 64 * width n
unfolding width
width_all n = omega arith

-- the words of a place, within those of all places
pub within_places : (d limit p j : ℕ) → p < limit → j < d → d * p + j < d * limit
within_places d limit p j l m =
    let a : d * suc p ≤ d * limit = mul-le-mul_left d l in
    let b : d * suc p ≡ d * p + d = mul-suc d p in
    omega arith

all_words : (d limit : ℕ) → limit * (d + 1) ≡ d * limit + limit
all_words d limit = mul_comm limit (d + 1) ∙ add-mul d 1 limit ∙ ap (λ (x : ℕ). d * limit + x) (one-mul limit)

pub within_words : (n limit p j : ℕ) (ws : List ℕ) → LaidOut n limit ws → p < limit → j < width n → limit + width n * p + j < length ws
within_words n limit p j ws o l m =
    let a : width n * p + j < width n * limit = within_places (width n) limit p j l m in
    let b : limit * (width n + 1) ≡ width n * limit + limit = all_words (width n) limit in
    let c : limit * (width n + 1) ≤ length ws = o.suffice in
    omega arith

pub limit_within : (n limit : ℕ) (ws : List ℕ) → LaidOut n limit ws → limit ≤ length ws
limit_within n limit ws o =
    let b : limit * (width n + 1) ≡ width n * limit + limit = all_words (width n) limit in
    let c : limit * (width n + 1) ≤ length ws = o.suffice in
    omega arith

-- the words of different places are different
places_apart : (d p q i j : ℕ) → (q ≡ p → ⊥) → i < d → j < d → d * q + j ≡ d * p + i → ⊥
places_apart d p q i j n l m e = ⊎_elim
    (λ (h : q < p). let a : d * q + j < d * p = within_places d p q j h m in let b : ⊥ = omega arith in b)
    (λ (h : p ≤ q). let g : p < q = omega arith in let a : d * p + i < d * q = within_places d q p i g l in let b : ⊥ = omega arith in b)
    (cases_lt q p)

-- a mark is not 0
pub mark_some : (ws : List ℕ) → 0 < mark_of ws
unfolding mark_of
mark_some ws = odd (mixed (mixed (mixed (mixed 0 (get_or ws 0 0)) (get_or ws 1 0)) (get_or ws 2 0)) (get_or ws 3 0))
  where
    odd : (m : ℕ) → 0 < bit_or m 1
    odd m =
        let a : bit_or m 1 + bit_and m 1 ≡ m + 1 = or_add_and m 1 in
        let b : bit_and m 1 ≤ m = and_le_l m 1 in
        omega arith

-- ---- what places hold
pub length_contents : (n limit : ℕ) (ws : List ℕ) → length (contents n limit ws) ≡ limit
unfolding contents
length_contents n limit ws = length-map-range_with_len (content n limit ws) 0 limit

content_at : (n limit : ℕ) (ws : List ℕ) (p : ℕ) (d : Content) → p < limit → get_or (contents n limit ws) p d ≡ content n limit ws p
unfolding contents
content_at n limit ws p d l = get_or-map-range_with_len (content n limit ws) 0 limit p p d l (omega arith)

pub nth_contents : (n limit : ℕ) (ws : List ℕ) (p : ℕ) → p < limit → slice_get (contents n limit ws) p ≡ Some (content n limit ws p)
nth_contents n limit ws p l =
    let m : length (contents n limit ws) ≡ limit = length_contents n limit ws in
    slice_get-get_or (contents n limit ws) p None (omega arith) ∙ ap Some (content_at n limit ws p None l)

pub nth_beyond : (n limit : ℕ) (ws : List ℕ) (p : ℕ) → limit ≤ p → slice_get (contents n limit ws) p ≡ None
nth_beyond n limit ws p l = let m : length (contents n limit ws) ≡ limit = length_contents n limit ws in slice_get_past (contents n limit ws) p (omega arith)

pub place_free : (n limit : ℕ) (ws : List ℕ) (p : ℕ) → p < limit → get_or ws p 0 ≡ 0 → slice_get (contents n limit ws) p ≡ Some None
unfolding content
place_free n limit ws p l e = nth_contents n limit ws p l ∙ ap Some (cond-true (eqb (get_or ws p 0) 0) None (Some (words_at n limit ws p)) (eq-eqb _ 0 e))

pub place_used : (n limit : ℕ) (ws : List ℕ) (p : ℕ) → p < limit → (get_or ws p 0 ≡ 0 → ⊥) → slice_get (contents n limit ws) p ≡ Some (Some (words_at n limit ws p))
unfolding content
place_used n limit ws p l e = nth_contents n limit ws p l ∙ ap Some (cond-false (eqb (get_or ws p 0) 0) None (Some (words_at n limit ws p)) (ne_eqb _ 0 e))

-- a place that holds a function has its mark and its words
pub used_place : (n limit : ℕ) (ws : List ℕ) (p : ℕ) (t : List ℕ) → slice_get (contents n limit ws) p ≡ Some (Some t) → (p < limit) × (get_or ws p 0 ≡ 0 → ⊥) × (words_at n limit ws p ≡ t)
used_place n limit ws p t e = ⊎_elim
    (λ (l : p < limit). ⊎_elim
    (λ (z : get_or ws p 0 ≡ 0). absurd (let q : Some None ≡ Some (Some t) = sym (place_free n limit ws p l z) ∙ e in let z : ◌≡◌ {A = ℕ} 0 1 = cc in let b : ⊥ = omega arith in b))
    (λ (z : get_or ws p 0 ≡ 0 → ⊥). (l, z, (let q : Some (Some (words_at n limit ws p)) ≡ Some (Some t) = sym (place_used n limit ws p l z) ∙ e in let r : words_at n limit ws p ≡ t = cc in r)))
    (cases_eq (get_or ws p 0) 0))
    (λ (l : limit ≤ p). absurd (none_is_some (Some t) (sym (nth_beyond n limit ws p l) ∙ e)))
    (cases_lt p limit)

pub length_words_at : (n limit : ℕ) (ws : List ℕ) (p : ℕ) → length (words_at n limit ws p) ≡ 4
unfolding words_at
length_words_at n limit ws p = refl

-- ---- a function written at a place
pub record Writing (ws t : List ℕ) (first p mark : ℕ) (vs : List ℕ) (j : ℕ) : Type 0 where
  pub long : length vs ≡ length ws
  pub marked : get_or vs p 0 ≡ mark
  pub done : (i : ℕ) → i < j → get_or vs (first + i) 0 ≡ get_or t i 0
  pub rest : (i : ℕ) → (i ≡ p → ⊥) → ((k : ℕ) → k < j → i ≡ first + k → ⊥) → get_or vs i 0 ≡ get_or ws i 0

-- a list with a part replaced, element by element
module _ (a k : ℕ) (xs ys : List ℕ) (l : a + k ≤ length xs) (m : length ys ≡ k) where
  front_long : length (take a xs) ≡ a
  front_long = length-take-le a xs (omega arith)

  put_long : length (put_mid a k xs ys) ≡ length xs
  put_long =
      let p : length (take a xs) ≡ a = front_long in
      simp (length-append, length-drop) (omega arith)

  put_before : (i : ℕ) → i < a → get_or (put_mid a k xs ys) i 0 ≡ get_or xs i 0
  put_before i h =
      let p : length (take a xs) ≡ a = front_long in
      get_or_append_left (take a xs) (ys ++ post_of a k xs) 0 i (omega arith) ∙ get_or-take a xs i 0 h

  put_within : (i : ℕ) → i < k → get_or (put_mid a k xs ys) (a + i) 0 ≡ get_or ys i 0
  put_within i h =
      let z : a + i - a ≡ i = omega arith in
      get_or-append_right (take a xs) (ys ++ post_of a k xs) a (a + i) 0 front_long (omega arith)
      ∙ ap (λ (j : ℕ). get_or (ys ++ post_of a k xs) j 0) z
      ∙ get_or_append_left ys (post_of a k xs) 0 i (omega arith)

  put_behind : (i : ℕ) → a + k ≤ i → get_or (put_mid a k xs ys) i 0 ≡ get_or xs i 0
  put_behind i h =
      let z : a + (k + (i - a - k)) ≡ i = omega arith in
      get_or-append_right (take a xs) (ys ++ post_of a k xs) a i 0 front_long (omega arith)
      ∙ get_or-append_right ys (post_of a k xs) k (i - a) 0 m (omega arith)
      ∙ get_or-drop k (drop a xs) (i - a - k) 0
      ∙ get_or-drop a xs (k + (i - a - k)) 0
      ∙ ap (λ (j : ℕ). get_or xs j 0) z

-- the mark, and then the words as a part of the words of the store
pub writing : (ws t : List ℕ) (first p mark w : ℕ) (vs : List ℕ) → p < first → w ≤ length t → first + w ≤ length ws → vs ≡ put_mid first w (set ws p mark) (take w t) → Writing ws t first p mark vs w
writing ws t first p mark w vs a b c e =
    let many : length (set ws p mark) ≡ length ws = length-set ws p mark in
    let room : first + w ≤ length (set ws p mark) = omega arith in
    let part : length (take w t) ≡ w = length-take-le w t b in
    let at = λ (i : ℕ). ap (λ (us : List ℕ). get_or us i 0) e in
    record {
      long = ap length e ∙ put_long first w (set ws p mark) (take w t) room part ∙ many;
      marked = at p ∙ put_before first w (set ws p mark) (take w t) room part p a ∙ get_or-set_same ws p mark 0 (omega arith);
      done = λ i l. at (first + i) ∙ put_within first w (set ws p mark) (take w t) room part i l ∙ get_or-take w t i 0 l;
      rest = λ i d k. at i ∙ ⊎_elim
          (λ (l : i < first). put_before first w (set ws p mark) (take w t) room part i l)
          (λ (l : first ≤ i). put_behind first w (set ws p mark) (take w t) room part i (⊎_elim
          (λ (h : i < first + w). absurd (k (i - first) (omega arith) (omega arith)))
          (λ (h : first + w ≤ i). h)
          (cases_lt i (first + w))))
          (cases_lt i first) ∙ get_or-set_other ws p i mark 0 d;
    }

-- the words of a place, and 0 past them
zeros_at : (i : ℕ) → ◌≡◌ {A = ℕ} (get_or (0 ∷ 0 ∷ 0 ∷ 0 ∷ []) i 0) 0
zeros_at zero = refl
zeros_at (suc zero) = refl
zeros_at (suc (suc zero)) = refl
zeros_at (suc (suc (suc zero))) = refl
zeros_at (suc (suc (suc (suc i)))) = refl

pub words_read : (n limit p w first end : ℕ) (ws : List ℕ) → w ≡ width n → w ≤ 4 → first ≡ limit + width n * p → end ≡ first + width n → end ≤ length ws → take (end - first) (drop first ws) ++ drop w (0 ∷ 0 ∷ 0 ∷ 0 ∷ []) ≡ words_at n limit ws p
unfolding words_at word_at
words_read n limit p w first end ws e few f g long =
    ext_get_or 0 (take (end - first) (drop first ws) ++ drop w (0 ∷ 0 ∷ 0 ∷ 0 ∷ [])) (words_at n limit ws p) total (λ i l. sym (here i (let t : length (take (end - first) (drop first ws) ++ drop {A = ℕ} w (0 ∷ 0 ∷ 0 ∷ 0 ∷ [])) ≡ 4 = total in omega arith)))
  where
    part : length (take (end - first) (drop first ws)) ≡ w
    part = let d : length (drop first ws) ≡ length ws - first = length-drop first ws in length-take-le (end - first) (drop first ws) (omega arith) ∙ (let q : end - first ≡ w = omega arith in q)

    total : length (take (end - first) (drop first ws) ++ drop w (0 ∷ 0 ∷ 0 ∷ 0 ∷ [])) ≡ 4
    total =
        let a : length (take (end - first) (drop first ws)) ≡ w = part in
        let b : length (drop {A = ℕ} w (0 ∷ 0 ∷ 0 ∷ 0 ∷ [])) ≡ 4 - w = length-drop w (0 ∷ 0 ∷ 0 ∷ 0 ∷ []) in
        length-append (take (end - first) (drop first ws)) (drop w (0 ∷ 0 ∷ 0 ∷ 0 ∷ [])) ∙ (let q : length (take (end - first) (drop first ws)) + length (drop {A = ℕ} w (0 ∷ 0 ∷ 0 ∷ 0 ∷ [])) ≡ 4 = omega arith in q)

    each : (j : ℕ) → j < 4 → get_or (take (end - first) (drop first ws) ++ drop w (0 ∷ 0 ∷ 0 ∷ 0 ∷ [])) j 0 ≡ word_at n limit ws p j
    each j l = ⊎_elim
        (λ (h : j < width n).
        let a : length (take (end - first) (drop first ws)) ≡ w = part in
        get_or_append_left (take (end - first) (drop first ws)) (drop w (0 ∷ 0 ∷ 0 ∷ 0 ∷ [])) 0 j (omega arith)
        ∙ get_or-take (end - first) (drop first ws) j 0 (omega arith)
        ∙ get_or-drop first ws j 0
        ∙ ap (λ (k : ℕ). get_or ws (k + j) 0) f
        ∙ sym (cond-true (ltb j (width n)) _ _ (lt-ltb j (width n) h)))
        (λ (h : width n ≤ j).
        get_or-append_right (take (end - first) (drop first ws)) (drop w (0 ∷ 0 ∷ 0 ∷ 0 ∷ [])) w j 0 part (omega arith)
        ∙ get_or-drop w (0 ∷ 0 ∷ 0 ∷ 0 ∷ []) (j - w) 0
        ∙ zeros_at (w + (j - w))
        ∙ sym (cond-false (ltb j (width n)) _ _ (le-ltb j (width n) h)))
        (cases_lt j (width n))

    here : (i : ℕ) → i < 4 → get_or (words_at n limit ws p) i 0 ≡ get_or (take (end - first) (drop first ws) ++ drop w (0 ∷ 0 ∷ 0 ∷ 0 ∷ [])) i 0
    here zero l = sym (each 0 l)
    here (suc zero) l = sym (each 1 l)
    here (suc (suc zero)) l = sym (each 2 l)
    here (suc (suc (suc zero))) l = sym (each 3 l)
    here (suc (suc (suc (suc i)))) l = absurd (omega arith)

module _ (n limit p mark : ℕ) (ws t vs : List ℕ) (o : LaidOut n limit ws) (within : p < limit) (long : length t ≡ 4) (clean : Clean n t) (made : mark ≡ mark_of t) (x : Writing ws t (limit + width n * p) p mark vs (width n)) where
  -- the words written are those of the function: past the width they are 0
  new_word : (j : ℕ) → j < 4 → word_at n limit vs p j ≡ get_or t j 0
  unfolding word_at Clean
  new_word j l = ⊎_elim
      (λ (h : j < width n). cond-true (ltb j (width n)) _ _ (lt-ltb j (width n) h) ∙ x.done j h)
      (λ (h : width n ≤ j).
      let a : 2 ^ n ≤ 64 * width n = width_all n in
      let z : min 64 (2 ^ n - 64 * j) ≡ 0 = omega arith in
      let b : get_or t j 0 < 2 ^ 0 = subst (λ (k : ℕ). get_or t j 0 < 2 ^ k) z (clean j) in
      cond-false (ltb j (width n)) _ _ (le-ltb j (width n) h) ∙ (let e : 0 ≡ get_or t j 0 = omega arith in e))
      (cases_lt j (width n))

  new_words : words_at n limit vs p ≡ t
  unfolding words_at
  new_words = ext_get_or 0 (words_at n limit vs p) t (sym long) (λ i l. each i l)
    where
      each : (i : ℕ) → i < 4 → get_or (words_at n limit vs p) i 0 ≡ get_or t i 0
      each zero l = new_word 0 l
      each (suc zero) l = new_word 1 l
      each (suc (suc zero)) l = new_word 2 l
      each (suc (suc (suc zero))) l = new_word 3 l
      each (suc (suc (suc (suc i)))) l = absurd (omega arith)

  -- and those of other places are what they were
  old_mark : (q : ℕ) → q < limit → (q ≡ p → ⊥) → get_or vs q 0 ≡ get_or ws q 0
  old_mark q l d = x.rest q d (λ k a e. let b : ⊥ = omega arith in b)

  old_word : (q j : ℕ) → q < limit → (q ≡ p → ⊥) → word_at n limit vs q j ≡ word_at n limit ws q j
  unfolding word_at
  old_word q j l d = ⊎_elim
      (λ (h : j < width n). ap (λ (w : ℕ). cond (ltb j (width n)) w 0) (x.rest (limit + width n * q + j) (λ e. let b : ⊥ = omega arith in b) (λ k a e. places_apart (width n) p q k j d a h (omega arith))))
      (λ (h : width n ≤ j). cond-false (ltb j (width n)) _ _ (le-ltb j (width n) h) ∙ sym (cond-false (ltb j (width n)) _ _ (le-ltb j (width n) h)))
      (cases_lt j (width n))

  old_words : (q : ℕ) → q < limit → (q ≡ p → ⊥) → words_at n limit vs q ≡ words_at n limit ws q
  unfolding words_at
  old_words q l d =
      ap₂ (λ (a : ℕ) (r : List ℕ). a ∷ r) (old_word q 0 l d)
      (ap₂ (λ (a : ℕ) (r : List ℕ). a ∷ r) (old_word q 1 l d)
      (ap₂ (λ (a : ℕ) (r : List ℕ). a ∷ r) (old_word q 2 l d)
      (ap (λ (a : ℕ). a ∷ []) (old_word q 3 l d))))

  marked_new : get_or vs p 0 ≡ 0 → ⊥
  marked_new e = let a : 0 < mark_of t = mark_some t in let b : mark_of t ≡ 0 = sym made ∙ sym x.marked ∙ e in omega arith

  pub written : Written n limit p t ws vs
  unfolding content
  written = record {
    long = x.long;
    places = ext_get_or None (contents n limit vs) (set (contents n limit ws) p (Some t)) (length_contents n limit vs ∙ sym (length-set (contents n limit ws) p (Some t) ∙ length_contents n limit ws)) (λ q l. each q (let m : length (contents n limit vs) ≡ limit = length_contents n limit vs in omega arith));
    marked = record {
      some_qubits = o.some_qubits;
      few_qubits = o.few_qubits;
      few_places = o.few_places;
      suffice = subst (λ (k : ℕ). limit * (width n + 1) ≤ k) (sym x.long) o.suffice;
      marked = λ q l h. ⊎_elim
          (λ (z : q ≡ p). subst (λ (k : ℕ). get_or vs k 0 ≡ mark_of (words_at n limit vs k)) (sym z) (x.marked ∙ made ∙ ap mark_of (sym new_words)))
          (λ (z : q ≡ p → ⊥). old_mark q l z ∙ o.marked q l (λ e. h (old_mark q l z ∙ e)) ∙ ap mark_of (sym (old_words q l z)))
          (cases_eq q p);
    };
  }
    where
      each : (q : ℕ) → q < limit → get_or (contents n limit vs) q None ≡ get_or (set (contents n limit ws) p (Some t)) q None
      each q l = ⊎_elim
          (λ (z : q ≡ p).
          let m : length (contents n limit ws) ≡ limit = length_contents n limit ws in
          content_at n limit vs q None l
          ∙ ap (content n limit vs) z
          ∙ cond-false (eqb (get_or vs p 0) 0) None (Some (words_at n limit vs p)) (ne_eqb _ 0 marked_new)
          ∙ ap Some new_words
          ∙ sym (ap (λ (k : ℕ). get_or (set (contents n limit ws) p (Some t)) k None) z ∙ get_or-set_same (contents n limit ws) p (Some t) None (omega arith)))
          (λ (z : q ≡ p → ⊥).
          content_at n limit vs q None l
          ∙ ap₂ (λ (m : ℕ) (us : List ℕ). cond (eqb m 0) None (Some us)) (old_mark q l z) (old_words q l z)
          ∙ sym (get_or-set_other (contents n limit ws) p q (Some t) None z ∙ content_at n limit ws q None l))
          (cases_eq q p)

-- and with the words as the store has them after the copy, where len is how many there are
pub written_part : (n limit p mark w first end len : ℕ) (ws t us zs vs : List ℕ) → LaidOut n limit ws → p < limit → length t ≡ 4 → Clean n t → mark ≡ mark_of t → w ≡ width n → w ≤ 4 → first ≡ limit + width n * p → end ≡ first + width n → end ≤ length ws
    → us ≡ take w t → zs ≡ set ws p mark → len ≡ length ws → vs ≡ take len (put_mid first (end - first) zs us ++ drop (length (put_mid first (end - first) zs us)) (set ws p mark)) → Written n limit p t ws vs
written_part n limit p mark w first end len ws t us zs vs o l long clean made ew few ef ee fits eu ez el ev =
    let many : length (set ws p mark) ≡ length ws = length-set ws p mark in
    let part : length (take w t) ≡ w = length-take-le w t (omega arith) in
    let wide : end - first ≡ w = omega arith in
    let same : put_mid first (end - first) zs us ≡ put_mid first w (set ws p mark) (take w t) =
    ap (λ (k : ℕ). put_mid first k zs us) wide ∙ ap₂ (λ (xs ys : List ℕ). put_mid first w xs ys) ez eu in
    let whole : length (put_mid first (end - first) zs us) ≡ length ws = ap length same ∙ put_long first w (set ws p mark) (take w t) (omega arith) part ∙ many in
    let rest : drop (length (put_mid first (end - first) zs us)) (set ws p mark) ≡ [] = drop_all (length (put_mid first (end - first) zs us)) (set ws p mark) (omega arith) in
    let all : vs ≡ put_mid first w (set ws p mark) (take w t) =
    ev
    ∙ ap (take len) (ap (λ (xs : List ℕ). put_mid first (end - first) zs us ++ xs) rest ∙ append-nil (put_mid first (end - first) zs us))
    ∙ take_all len (put_mid first (end - first) zs us) (omega arith)
    ∙ same in
    written n limit p mark ws t vs o l long clean made
    (subst (λ (k : ℕ). Writing ws t k p mark vs (width n)) ef (subst (λ (k : ℕ). Writing ws t first p mark vs k) ew (writing ws t first p mark w vs (omega arith) (omega arith) (omega arith) all)))
