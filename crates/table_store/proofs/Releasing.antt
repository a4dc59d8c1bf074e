-- What is kept.
use Rattle.std.proofs.Common.{◌≡◌, ℕ, ◌+◌, ◌*◌, ◌<◌, ◌≤◌, Bool, true, false, cond, ◌||◌, eqb, ltb, ◌⊎◌, List, [], ◌∷◌, ◌++◌, map, length, get_or, take, drop, set, Some, None, Ok, Err, vec_items, Result, sym, refl, ap, ◌∙◌, subst, ap₂, inl, inr, ⊎_elim, append_assoc, arith}
use mathlib.Core.Bool.{or_assoc, or-false}
use Rattle.std.specs.List.{slice_get}
use Rattle.std.proofs.lemmas.List.{drop_more, drop_all, take_more, take_all, length-set, get_or-set_same, get_or-set_other}
use Rattle.std.proofs.lemmas.Bool.{cases_Bool, cases_eq, eqb-true, eq-eqb, ne_eqb, or_left, or_right, or_cases, cond-true, cond-false, false≢true}
use Rattle.functions.specs.declared.faults.StoreFault.{StoreFault}
use Rattle.functions.specs.declared.faults.StoreFault.TheVariants.{NotHeld}
use Rattle.functions.specs.Tables.{Table}
use Rattle.functions.specs.Sets.{among, parts_of_all}
use Rattle.functions.specs.Meanings.{Meaning, under, held, Holds, Part, only_itself}
use Rattle.functions.specs.Answers.{and_then, function_under, functions_under, Shrank}
use Rattle.functions.proofs.Sets.{among_append}
use Rattle.functions.proofs.Asked.{function_none, function_at, at_function, and_then_inverse}
use Rattle.functions.proofs.Constants.{part_itself, itself_part, constant_no_part}
use Rattle.table_words.specs.Words.{unpacked}
use Rattle.table_store.specs.Marks.{mark_of}
use Rattle.table_places.specs.Handles.{Content, meaning_over}
use Rattle.table_store.specs.Places.{words_at, word_at, width, contents}
use Rattle.table_store.specs.Keeping.{inside, KeptMarks}
use Rattle.table_store.specs.declared.TableStore.{TableStore}
use Rattle.table_places.specs.Order.{PlacesInOrder, Varies}
use Rattle.table_store.specs.Stores.{LaidOut, InOrder, meaning_of}
use Rattle.table_store.proofs.Adding.{moved}
use Rattle.table_places.proofs.Holding.{words_of, under_at, Stands, for_constant, for_place, stands, held_words, held_at, at_held, not_constant, places_lawful}
use Rattle.table_store.proofs.Laid.{place_used, used_place, length_contents}

-- ---- listed handles and the parts of their functions
-- the first function of a list, and the rest
first_under : (m : Meaning) (k : ℕ) (ks : List ℕ) (fs : List Table) → functions_under m (k ∷ ks) ≡ Ok fs → (f : Table) × (gs : List Table) × (under m k ≡ Some f) × (functions_under m ks ≡ Ok gs) × (fs ≡ f ∷ gs)
unfolding functions_under
first_under m k ks fs e =
    let a = and_then_inverse (function_under m k) _ fs e in
    let b = and_then_inverse (functions_under m ks) _ fs a.2 in
    (a.0, b.0, at_function m k a.0 a.1, b.1, (let p = b.2 in let q : fs ≡ a.0 ∷ b.0 = cc in q))

-- a part of a listed function is a part of them all
listed_part : (m : Meaning) (ks : List ℕ) (fs : List Table) (k : ℕ) (f g : Table) → functions_under m ks ≡ Ok fs → inside k ks ≡ true → under m k ≡ Some f → Part m.setting g f → among g (parts_of_all m.setting.parts fs) ≡ true
unfolding inside parts_of_all
listed_part m [] fs k f g e i a h = absurd (false≢true i)
listed_part m (x ∷ ks) fs k f g e i a h =
    let s = first_under m x ks fs e in
    subst (λ (l : List Table). among g (parts_of_all m.setting.parts l) ≡ true) (sym s.4) (go s.0 s.1 s.2 (or_cases (eqb k x) (inside k ks) i) (λ j. listed_part m ks s.1 k f g s.3 j a h))
  where
    go : (y : Table) (gs : List Table) → under m x ≡ Some y → (eqb k x ≡ true) ⊎ (inside k ks ≡ true) → (inside k ks ≡ true → among g (parts_of_all m.setting.parts gs) ≡ true) → among g (parts_of_all m.setting.parts (y ∷ gs)) ≡ true
    go y gs p (inl t) ih =
        let q : Some f ≡ Some y = sym a ∙ ap (under m) (eqb-true k x t) ∙ p in
        let r : f ≡ y = cc in
        among_append g (m.setting.parts y) (parts_of_all m.setting.parts gs) ∙ or_left _ _ (subst (λ (z : Table). among g (m.setting.parts z) ≡ true) r h)
    go y gs p (inr t) ih = among_append g (m.setting.parts y) (parts_of_all m.setting.parts gs) ∙ or_right (among g (m.setting.parts y)) _ (ih t)

part_listed : (m : Meaning) (ks : List ℕ) (fs : List Table) (g : Table) → functions_under m ks ≡ Ok fs → among g (parts_of_all m.setting.parts fs) ≡ true → (k : ℕ) × (f : Table) × (inside k ks ≡ true) × (under m k ≡ Some f) × Part m.setting g f
unfolding inside functions_under parts_of_all among
part_listed m [] fs g e h = absurd (false≢true (let q : fs ≡ [] = cc in sym (ap (λ (l : List Table). among g (parts_of_all m.setting.parts l)) q) ∙ h))
part_listed m (x ∷ ks) fs g e h =
    let s = first_under m x ks fs e in
    let h' : among g (m.setting.parts s.0 ++ parts_of_all m.setting.parts s.1) ≡ true = subst (λ (l : List Table). among g (parts_of_all m.setting.parts l) ≡ true) s.4 h in
    go s.0 s.1 s.2 (or_cases _ _ (sym (among_append g (m.setting.parts s.0) (parts_of_all m.setting.parts s.1)) ∙ h')) (λ j. part_listed m ks s.1 g s.3 j)
  where
    go : (y : Table) (gs : List Table) → under m x ≡ Some y → (among g (m.setting.parts y) ≡ true) ⊎ (among g (parts_of_all m.setting.parts gs) ≡ true) → (among g (parts_of_all m.setting.parts gs) ≡ true → (k : ℕ) × (f : Table) × (inside k ks ≡ true) × (under m k ≡ Some f) × Part m.setting g f) → (k : ℕ) × (f : Table) × ((eqb k x || inside k ks) ≡ true) × (under m k ≡ Some f) × Part m.setting g f
    go y gs p (inl t) ih = (x, y, or_left (eqb x x) (inside x ks) (eq-eqb x x refl), p, t)
    go y gs p (inr t) ih = let r = ih t in (r.0, r.1, or_right (eqb r.0 x) (inside r.0 ks) r.2, r.3, r.4)

-- ---- places after a keep: those listed hold what they held, the others nothing
module _ (n limit : ℕ) (ps qs : List Content) (list : List ℕ) (some : 1 ≤ n) (few : n ≤ 8) (places : limit ≤ 4096) (o : PlacesInOrder n limit ps) (many : length qs ≡ length ps)
    (was : (p : ℕ) (ws : List ℕ) → slice_get qs p ≡ Some (Some ws) → (slice_get ps p ≡ Some (Some ws)) × (inside (p + 2) list ≡ true))
    (stays : (p : ℕ) (ws : List ℕ) → slice_get ps p ≡ Some (Some ws) → inside (p + 2) list ≡ true → slice_get qs p ≡ Some (Some ws)) where
  pub kept_order : PlacesInOrder n limit qs
  kept_order = record {
    many = many ∙ o.many;
    long = λ p ws e. o.long p ws (was p ws e).0;
    clean = λ p ws e. o.clean p ws (was p ws e).0;
    varies = λ p ws e. o.varies p ws (was p ws e).0;
    apart = λ p q ws e f. o.apart p q ws (was p ws e).0 (was q ws f).0;
  }

  pub kept_shrank : (fs : List Table) → functions_under (meaning_over n limit ps) list ≡ Ok fs → Shrank (meaning_over n limit ps) (meaning_over n limit qs) fs
  unfolding Varies among
  kept_shrank fs e = record { setting = refl; holds = λ g. bool_same _ _ (there g) (back g); keeps = keeps }
    where
      bool_same : (a b : Bool) → (a ≡ true → b ≡ true) → (b ≡ true → a ≡ true) → a ≡ b
      bool_same true true f g = refl
      bool_same true false f g = absurd (false≢true (f refl))
      bool_same false true f g = absurd (false≢true (g refl))
      bool_same false false f g = refl

      there : (g : Table) → among g (held (meaning_over n limit qs)) ≡ true → among g (parts_of_all (only_itself n) fs) ≡ true
      there g h =
          let a = held_at n g qs (sym (ap (among g) (held_words n limit qs)) ∙ h) in
          let b = was a.0 a.1 a.2 in
          let p : among g (only_itself n (unpacked n a.1)) ≡ true = subst (λ (x : Table). among x (only_itself n (unpacked n a.1)) ≡ true) (sym a.3) (itself_part n (unpacked n a.1) (not_constant n (unpacked n a.1) (o.varies a.0 a.1 b.0))) in
          listed_part (meaning_over n limit ps) list fs (a.0 + 2) (unpacked n a.1) g e b.1 (under_at n limit ps a.0 a.1 b.0) p

      from : (g : Table) (k : ℕ) (f : Table) → inside k list ≡ true → Stands n ps k f → among g (only_itself n f) ≡ true → among g (held (meaning_over n limit qs)) ≡ true
      from g k f i (for_constant b p q) h = absurd (false≢true (sym (ap (among g) (ap (only_itself n) q ∙ constant_no_part n b)) ∙ h))
      from g k f i (for_place p ws a r q) h =
          let s : slice_get qs p ≡ Some (Some ws) = stays p ws r (subst (λ (x : ℕ). inside x list ≡ true) a i) in
          ap (among g) (held_words n limit qs) ∙ subst (λ (x : Table). among x (map (unpacked n) (words_of qs)) ≡ true) (sym (part_itself n f g h ∙ q)) (at_held n qs p ws s)

      back : (g : Table) → among g (parts_of_all (only_itself n) fs) ≡ true → among g (held (meaning_over n limit qs)) ≡ true
      back g h = let r = part_listed (meaning_over n limit ps) list fs g e h in from g r.0 r.1 r.2 (stands n limit ps r.0 r.1 r.3) r.4

      keeps : (k : ℕ) (f : Table) → under (meaning_over n limit ps) k ≡ Some f → Holds (meaning_over n limit qs) f → under (meaning_over n limit qs) k ≡ Some f
      keeps k f p h =
          let a = held_at n f qs (sym (ap (among f) (held_words n limit qs)) ∙ h) in
          let b = was a.0 a.1 a.2 in
          let q : k ≡ a.0 + 2 = (places_lawful n limit ps some few places o).one_handle k (a.0 + 2) f p (under_at n limit ps a.0 a.1 b.0 ∙ ap Some (sym a.3)) in
          ap (under (meaning_over n limit qs)) q ∙ under_at n limit qs a.0 a.1 a.2 ∙ ap Some (sym a.3)

-- ---- the loop that checks and marks
inside_append : (k : ℕ) (xs ys : List ℕ) → inside k (xs ++ ys) ≡ (inside k xs || inside k ys)
unfolding inside
inside_append k [] ys = refl
inside_append k (x ∷ xs) ys = ap (λ (b : Bool). eqb k x || b) (inside_append k xs ys) ∙ sym (or_assoc (eqb k x) (inside k xs) (inside k ys))

inside_more : (k i x : ℕ) (list : List ℕ) → i < length list → x ≡ get_or list i x → inside k (take (i + 1) list) ≡ (inside k (take i list) || eqb k x)
unfolding inside
inside_more k i x list l g =
    ap (inside k) (take_more list i x l ∙ ap (λ (y : ℕ). take i list ++ (y ∷ [])) (sym g))
    ∙ inside_append k (take i list) (x ∷ [])
    ∙ ap (λ (b : Bool). inside k (take i list) || b) (or-false (eqb k x))

pub record Listing (m : Meaning) (list : List ℕ) (flags : List Bool) (i : ℕ) : Type 0 where
  pub long : length flags ≡ 4096
  pub functions : List Table
  pub left : functions_under m list ≡ and_then (functions_under m (drop i list)) (λ gs. Ok (functions ++ gs))
  pub listed : (p : ℕ) → p < 4096 → get_or flags p false ≡ inside (p + 2) (take i list)

pub listing_none : (m : Meaning) (list : List ℕ) (flags : List Bool) → length flags ≡ 4096 → ((p : ℕ) → p < 4096 → get_or flags p false ≡ false) → Listing m list flags 0
unfolding and_then inside
listing_none m list flags long none = record { long = long; functions = []; left = go (functions_under m list); listed = none }
  where
    go : (r : Result (List Table) StoreFault) → r ≡ and_then r (λ gs. Ok gs)
    go (Ok fs) = refl
    go (Err e) = refl

module _ (m : Meaning) (list : List ℕ) (i k : ℕ) (l : i < length list) (g : k ≡ get_or list i k) where
  next : drop i list ≡ k ∷ drop (i + 1) list
  next = drop_more list i k l ∙ ap (λ (y : ℕ). y ∷ drop (i + 1) list) (sym g)

  left_more : (fs : List Table) (f : Table) → under m k ≡ Some f → functions_under m list ≡ and_then (functions_under m (drop i list)) (λ gs. Ok (fs ++ gs)) → functions_under m list ≡ and_then (functions_under m (drop (i + 1) list)) (λ gs. Ok ((fs ++ (f ∷ [])) ++ gs))
  unfolding functions_under and_then
  left_more fs f e left =
      left
      ∙ ap (λ (xs : List ℕ). and_then (functions_under m xs) (λ gs. Ok (fs ++ gs))) next
      ∙ ap (λ (o : Result Table StoreFault). and_then (and_then o (λ f. and_then (functions_under m (drop (i + 1) list)) (λ fs. Ok (f ∷ fs)))) (λ gs. Ok (fs ++ gs))) (function_at m k f e)
      ∙ go (functions_under m (drop (i + 1) list))
    where
      go : (r : Result (List Table) StoreFault) → and_then (and_then r (λ fs. Ok (f ∷ fs))) (λ gs. Ok (fs ++ gs)) ≡ and_then r (λ gs. Ok ((fs ++ (f ∷ [])) ++ gs))
      go (Ok gs) = ap Ok (sym (append_assoc fs (f ∷ []) gs))
      go (Err x) = refl

  -- a handle that is not held
  pub listing_refused : (flags : List Bool) → under m k ≡ None → Listing m list flags i → functions_under m list ≡ Err (NotHeld k)
  unfolding functions_under and_then
  listing_refused flags e x =
      x.left
      ∙ ap (λ (xs : List ℕ). and_then (functions_under m xs) (λ gs. Ok (x.functions ++ gs))) next
      ∙ ap (λ (o : Result Table StoreFault). and_then (and_then o (λ f. and_then (functions_under m (drop (i + 1) list)) (λ fs. Ok (f ∷ fs)))) (λ gs. Ok (x.functions ++ gs))) (function_none m k e)

  -- a constant, which has no place
  pub listing_constant : (flags : List Bool) (f : Table) → k < 2 → under m k ≡ Some f → Listing m list flags i → Listing m list flags (i + 1)
  listing_constant flags f small e x = record {
    long = x.long;
    functions = x.functions ++ (f ∷ []);
    left = left_more x.functions f e x.left;
    listed = λ p h. x.listed p h ∙ sym (inside_more (p + 2) i k list l g ∙ ap (λ (b : Bool). inside (p + 2) (take i list) || b) (ne_eqb (p + 2) k (omega arith)) ∙ or-false (inside (p + 2) (take i list)));
  }

  -- a place
  pub listing_place : (flags : List Bool) (q : ℕ) (f : Table) → q < 4096 → k ≡ q + 2 → under m k ≡ Some f → Listing m list flags i → Listing m list (set flags q true) (i + 1)
  listing_place flags q f below is e x = record {
    long = length-set flags q true ∙ x.long;
    functions = x.functions ++ (f ∷ []);
    left = left_more x.functions f e x.left;
    listed = λ p h. ⊎_elim
        (λ (z : p ≡ q).
        let n : length flags ≡ 4096 = x.long in
        ap (λ (j : ℕ). get_or (set flags q true) j false) z ∙ get_or-set_same flags q true false (omega arith)
        ∙ sym (inside_more (p + 2) i k list l g ∙ or_right (inside (p + 2) (take i list)) (eqb (p + 2) k) (eq-eqb (p + 2) k (omega arith))))
        (λ (z : p ≡ q → ⊥).
        get_or-set_other flags q p true false z ∙ x.listed p h
        ∙ sym (inside_more (p + 2) i k list l g ∙ ap (λ (b : Bool). inside (p + 2) (take i list) || b) (ne_eqb (p + 2) k (λ e. z (omega arith))) ∙ or-false (inside (p + 2) (take i list))))
        (cases_eq p q);
  }

pub listing_all : (m : Meaning) (list : List ℕ) (flags : List Bool) (i : ℕ) → length list ≤ i → Listing m list flags i → (fs : List Table) × (functions_under m list ≡ Ok fs) × ((p : ℕ) → p < 4096 → get_or flags p false ≡ inside (p + 2) list)
unfolding and_then functions_under
listing_all m list flags i l x = (
  x.functions ++ [],
  x.left ∙ ap (λ (xs : List ℕ). and_then (functions_under m xs) (λ gs. Ok (x.functions ++ gs))) (drop_all i list l),
  (λ p h. x.listed p h ∙ ap (inside (p + 2)) (take_all i list l)),
)

-- ---- the loop that frees
pub record Freeing (flags : List Bool) (ws vs : List ℕ) (i : ℕ) : Type 0 where
  pub long : length vs ≡ length ws
  pub past : (p : ℕ) → p < i → get_or vs p 0 ≡ cond (get_or flags p false) (get_or ws p 0) 0
  pub rest : (p : ℕ) → i ≤ p → get_or vs p 0 ≡ get_or ws p 0

-- ---- words after a keep
module _ (n limit : ℕ) (flags : List Bool) (ws vs list : List ℕ) (o : LaidOut n limit ws) (k : KeptMarks limit flags ws vs) (listed : (p : ℕ) → p < 4096 → get_or flags p false ≡ inside (p + 2) list) where
  same_words : (p : ℕ) → words_at n limit vs p ≡ words_at n limit ws p
  unfolding words_at word_at
  same_words p =
      ap₂ (λ (a : ℕ) (r : List ℕ). a ∷ r) (word 0)
      (ap₂ (λ (a : ℕ) (r : List ℕ). a ∷ r) (word 1)
      (ap₂ (λ (a : ℕ) (r : List ℕ). a ∷ r) (word 2)
      (ap (λ (a : ℕ). a ∷ []) (word 3))))
    where
      word : (j : ℕ) → word_at n limit vs p j ≡ word_at n limit ws p j
      word j = ap (λ (w : ℕ). cond (ltb j (width n)) w 0) (k.others (limit + width n * p + j) (omega arith))

  flag_at : (p : ℕ) → p < limit → get_or flags p false ≡ inside (p + 2) list
  flag_at p l = let c : limit ≤ 4096 = o.few_places in listed p (omega arith)

  marks_zero : (p : ℕ) → p < limit → inside (p + 2) list ≡ false → get_or vs p 0 ≡ 0
  marks_zero p l e = k.marks p l ∙ cond-false (get_or flags p false) (get_or ws p 0) 0 (flag_at p l ∙ e)

  marks_same : (p : ℕ) → p < limit → inside (p + 2) list ≡ true → get_or vs p 0 ≡ get_or ws p 0
  marks_same p l e = k.marks p l ∙ cond-true (get_or flags p false) (get_or ws p 0) 0 (flag_at p l ∙ e)

  pub kept_was : (p : ℕ) (t : List ℕ) → slice_get (contents n limit vs) p ≡ Some (Some t) → (slice_get (contents n limit ws) p ≡ Some (Some t)) × (inside (p + 2) list ≡ true)
  kept_was p t e =
      let u = used_place n limit vs p t e in
      ⊎_elim
      (λ (i : inside (p + 2) list ≡ true). (place_used n limit ws p u.0 (λ z. u.1 (marks_same p u.0 i ∙ z)) ∙ ap (λ (us : List ℕ). Some (Some us)) (sym (same_words p) ∙ u.2), i))
      (λ (i : inside (p + 2) list ≡ false). absurd (u.1 (marks_zero p u.0 i)))
      (cases_Bool (inside (p + 2) list))

  pub kept_stays : (p : ℕ) (t : List ℕ) → slice_get (contents n limit ws) p ≡ Some (Some t) → inside (p + 2) list ≡ true → slice_get (contents n limit vs) p ≡ Some (Some t)
  kept_stays p t e i =
      let u = used_place n limit ws p t e in
      place_used n limit vs p u.0 (λ z. u.1 (sym (marks_same p u.0 i) ∙ z)) ∙ ap (λ (us : List ℕ). Some (Some us)) (same_words p ∙ u.2)

  pub kept_laid_out : LaidOut n limit vs
  kept_laid_out = record {
    some_qubits = o.some_qubits;
    few_qubits = o.few_qubits;
    few_places = o.few_places;
    suffice = subst (λ (m : ℕ). limit * (width n + 1) ≤ m) (sym k.long) o.suffice;
    marked = λ p l h. ⊎_elim
        (λ (i : inside (p + 2) list ≡ true). marks_same p l i ∙ o.marked p l (λ z. h (marks_same p l i ∙ z)) ∙ ap mark_of (sym (same_words p)))
        (λ (i : inside (p + 2) list ≡ false). absurd (h (marks_zero p l i)))
        (cases_Bool (inside (p + 2) list));
  }

-- ---- a store after a keep
pub released : (s r : TableStore) (flags : List Bool) (list : List ℕ) (fs : List Table) → r.qubits.number ≡ s.qubits.number → r.limit ≡ s.limit → InOrder s → KeptMarks s.limit flags (vec_items s.words) (vec_items r.words)
    → ((p : ℕ) → p < 4096 → get_or flags p false ≡ inside (p + 2) list) → functions_under (meaning_of s) list ≡ Ok fs → InOrder r × Shrank (meaning_of s) (meaning_of r) fs
released s r flags list fs eq el o k listed e =
    let n = s.qubits.number in
    let m = s.limit in
    let ws = vec_items s.words in
    let vs = vec_items r.words in
    let many : length (contents n m vs) ≡ length (contents n m ws) = length_contents n m vs ∙ sym (length_contents n m ws) in
    let was = kept_was n m flags ws vs list o.laid_out k listed in
    let stays = kept_stays n m flags ws vs list o.laid_out k listed in
    let order = kept_order n m (contents n m ws) (contents n m vs) list o.laid_out.some_qubits o.laid_out.few_qubits o.laid_out.few_places o.places many was stays in
    let shrank = kept_shrank n m (contents n m ws) (contents n m vs) list o.laid_out.some_qubits o.laid_out.few_qubits o.laid_out.few_places o.places many was stays fs e in
    let y = moved (λ (a b : ℕ). (LaidOut a b (vec_items r.words) × PlacesInOrder a b (contents a b (vec_items r.words))) × Shrank (meaning_of s) (meaning_over a b (contents a b (vec_items r.words))) fs) n r.qubits.number m r.limit eq el ((kept_laid_out n m flags ws vs list o.laid_out k listed, order), shrank) in
    (record { laid_out = y.0.0; places = y.0.1 }, y.1)
