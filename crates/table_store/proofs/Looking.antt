-- What is looked up: handles, words of places, functions at places.
use Rattle.std.proofs.Common.{◌≡◌, ℕ, zero, suc, ◌+◌, ◌-◌, ◌*◌, ◌<◌, ◌≤◌, Bool, true, false, cond, eqb, ltb, List, length, get_or, Some, None, Ok, Err, Option, Result, sym, refl, ap, ◌∙◌, subst, ⊎_elim, arith}
use Rattle.std.specs.List.{slice_get}
use Rattle.std.specs.Prelude.{IsTrue, ◌↔◌}
use Rattle.std.specs.Option.{MatchOption}
use Rattle.std.proofs.lemmas.Nat.{mul-le}
use Rattle.std.proofs.lemmas.List.{get_or_read}
use Rattle.std.proofs.lemmas.Bool.{eq-eqb, ne_eqb, cases_eq, lt-ltb, le-ltb, cond-true, cond-false, false≢true}
use Rattle.functions.specs.declared.faults.StoreFault.{StoreFault}
use Rattle.functions.specs.declared.faults.StoreFault.TheVariants.{NotHeld}
use Rattle.functions.specs.Tables.{Table, constant}
use Rattle.functions.specs.Meanings.{under}
use Rattle.table_words.specs.declared.PackedTable.{PackedTable}
use Rattle.table_words.specs.Words.{unpacked, Clean, Packs, same_words}
use Rattle.table_words.proofs.Words.{same_equal, equal_same}
use Rattle.table_store.specs.declared.handles.Handle.{Handle}
use Rattle.table_store.specs.declared.handles.Handle.TheVariants.{Constant, Place}
use Rattle.table_store.specs.Marks.{mark_of}
use Rattle.table_places.specs.Handles.{Content, meaning_over}
use Rattle.table_store.specs.Handles.{in_use, handle_of}
use Rattle.table_store.specs.Places.{width, word_at, words_at, contents}
use Rattle.table_places.specs.Order.{PlacesInOrder}
use Rattle.table_store.specs.Stores.{LaidOut, SomeWith}
use Rattle.table_places.proofs.Holding.{function_of, under_place, under_at, under_constant}
use Rattle.table_store.proofs.Laid.{width_few, within_words, limit_within, place_free, place_used, used_place, nth_beyond, length_words_at, mark_some}

-- ---- handles
handle_above : (ps : List Content) (k : ℕ) → 2 ≤ k → handle_of ps k ≡ cond (in_use (slice_get ps (k - 2))) (Ok (Place (k - 2))) (Err (NotHeld k))
unfolding handle_of
handle_above ps k l =
    cond-false (eqb k 0) _ _ (ne_eqb k 0 (omega arith))
    ∙ cond-false (eqb k 1) _ _ (ne_eqb k 1 (omega arith))

pub constant_looked_up : (ps : List Content) (k : ℕ) → k < 2 → Ok (Constant (eqb k 1)) ≡ handle_of ps k
unfolding handle_of
constant_looked_up ps zero l = refl
constant_looked_up ps (suc zero) l = refl
constant_looked_up ps (suc (suc k)) l = absurd (omega arith)

module _ (n limit : ℕ) (ws : List ℕ) (k : ℕ) (l : 2 ≤ k) where
  pub place_looked_up : k - 2 < limit → (get_or ws (k - 2) 0 ≡ 0 → ⊥) → Ok (Place (k - 2)) ≡ handle_of (contents n limit ws) k
  unfolding in_use
  place_looked_up m e = sym (handle_above (contents n limit ws) k l ∙ ap (λ (o : Option Content). cond (in_use o) (Ok (Place (k - 2))) (Err (NotHeld k))) (place_used n limit ws (k - 2) m e))

  pub free_looked_up : k - 2 < limit → get_or ws (k - 2) 0 ≡ 0 → Err (NotHeld k) ≡ handle_of (contents n limit ws) k
  unfolding in_use
  free_looked_up m e = sym (handle_above (contents n limit ws) k l ∙ ap (λ (o : Option Content). cond (in_use o) (Ok (Place (k - 2))) (Err (NotHeld k))) (place_free n limit ws (k - 2) m e))

  pub none_looked_up : limit ≤ k - 2 → Err (NotHeld k) ≡ handle_of (contents n limit ws) k
  unfolding in_use
  none_looked_up m = sym (handle_above (contents n limit ws) k l ∙ ap (λ (o : Option Content). cond (in_use o) (Ok (Place (k - 2))) (Err (NotHeld k))) (nth_beyond n limit ws (k - 2) m))

-- what a handle tells
pub Told : ℕ → ℕ → List Content → ℕ → Result Handle StoreFault → Type 0
Told n limit ps k (Ok (Constant b)) = k ≡ cond b 1 0
Told n limit ps k (Ok (Place p)) = (k ≡ p + 2) × (ws : List ℕ) × (slice_get ps p ≡ Some (Some ws))
Told n limit ps k (Err e) = (e ≡ NotHeld k) × (under (meaning_over n limit ps) k ≡ None)

told_of : (n limit : ℕ) (ps : List Content) (k : ℕ) → Told n limit ps k (handle_of ps k)
unfolding Told in_use
told_of n limit ps k = ⊎_elim
    (λ (z : k ≡ 0). subst (Told n limit ps k) (constant_looked_up ps k (omega arith)) (subst (λ (b : Bool). k ≡ cond b 1 0) (sym (ne_eqb k 1 (omega arith))) z))
    (λ (x : k ≡ 0 → ⊥). ⊎_elim
    (λ (z : k ≡ 1). subst (Told n limit ps k) (constant_looked_up ps k (omega arith)) (subst (λ (b : Bool). k ≡ cond b 1 0) (sym (eq-eqb k 1 z)) z))
    (λ (y : k ≡ 1 → ⊥). let l : 2 ≤ k = omega arith in subst (Told n limit ps k) (sym (handle_above ps k l)) (go l (slice_get ps (k - 2)) refl))
    (cases_eq k 1))
    (cases_eq k 0)
  where
    go : 2 ≤ k → (o : Option Content) → slice_get ps (k - 2) ≡ o → Told n limit ps k (cond (in_use o) (Ok (Place (k - 2))) (Err (NotHeld k)))
    go l None e = (refl, under_place n limit ps k l ∙ ap (function_of n) e)
    go l (Some None) e = (refl, under_place n limit ps k l ∙ ap (function_of n) e)
    go l (Some (Some ws)) e = ((let q : k ≡ k - 2 + 2 = omega arith in q), ws, e)

pub told : (n limit : ℕ) (ps : List Content) (k : ℕ) (r : Result Handle StoreFault) → r ≡ handle_of ps k → Told n limit ps k r
told n limit ps k r e = subst (Told n limit ps k) (sym e) (told_of n limit ps k)

-- the words under a handle
pub constant_under : (n limit : ℕ) (ps : List Content) (k : ℕ) (b : Bool) (t : PackedTable) → Ok (Constant b) ≡ handle_of ps k → Packs n (constant n b) t → (under (meaning_over n limit ps) k ≡ Some (unpacked n t.words)) × Clean n t.words
unfolding Told
constant_under n limit ps k b t e h =
    (ap (under (meaning_over n limit ps)) (told n limit ps k (Ok (Constant b)) e) ∙ under_constant n limit ps b ∙ ap Some (sym h.table), h.clean)

pub place_under : (n limit : ℕ) (ws : List ℕ) (k p : ℕ) (t : List ℕ) → PlacesInOrder n limit (contents n limit ws) → Ok (Place p) ≡ handle_of (contents n limit ws) k → t ≡ words_at n limit ws p → (under (meaning_over n limit (contents n limit ws)) k ≡ Some (unpacked n t)) × Clean n t
unfolding Told
place_under n limit ws k p t o e h =
    let a = told n limit (contents n limit ws) k (Ok (Place p)) e in
    let u = used_place n limit ws p a.1 a.2 in
    let q : t ≡ a.1 = h ∙ u.2 in
    (ap (under (meaning_over n limit (contents n limit ws))) a.0 ∙ under_at n limit (contents n limit ws) p a.1 a.2 ∙ ap (λ (us : List ℕ). Some (unpacked n us)) (sym q), subst (Clean n) (sym q) (o.clean p a.1 a.2))

pub place_there : (n limit : ℕ) (ws : List ℕ) (k p : ℕ) → Ok (Place p) ≡ handle_of (contents n limit ws) k → p < limit
unfolding Told
place_there n limit ws k p e = let a = told n limit (contents n limit ws) k (Ok (Place p)) e in (used_place n limit ws p a.1 a.2).0

pub constant_told : (n limit : ℕ) (ps : List Content) (k : ℕ) (b : Bool) → Ok (Constant b) ≡ handle_of ps k → (k < 2) × (under (meaning_over n limit ps) k ≡ Some (constant n b))
unfolding Told
constant_told n limit ps k b e = let a = told n limit ps k (Ok (Constant b)) e in (small b a, ap (under (meaning_over n limit ps)) a ∙ under_constant n limit ps b)
  where
    small : (b : Bool) → k ≡ cond b 1 0 → k < 2
    small true z = omega arith
    small false z = omega arith

pub place_told : (n limit : ℕ) (ws : List ℕ) (k p : ℕ) → Ok (Place p) ≡ handle_of (contents n limit ws) k → (k ≡ p + 2) × (f : Table) × (under (meaning_over n limit (contents n limit ws)) k ≡ Some f)
unfolding Told
place_told n limit ws k p e =
    let a = told n limit (contents n limit ws) k (Ok (Place p)) e in
    (a.0, unpacked n a.1, ap (under (meaning_over n limit (contents n limit ws))) a.0 ∙ under_at n limit (contents n limit ws) p a.1 a.2)

pub none_under : (n limit : ℕ) (ps : List Content) (k : ℕ) (e : StoreFault) → Err e ≡ handle_of ps k → (e ≡ NotHeld k) × (under (meaning_over n limit ps) k ≡ None)
unfolding Told
none_under n limit ps k e h = told n limit ps k (Err e) h

-- ---- words of places, where d is the width
pub small_product : (n d limit p : ℕ) → d ≡ width n → n ≤ 8 → limit ≤ 4096 → p < limit → d * p ≤ 16384
small_product n d limit p e few places l =
    let w : width n ≤ 4 = width_few n few in
    let a : d * p ≤ 4 * 4096 = mul-le d p 4 4096 (omega arith) (omega arith) in
    omega arith

pub place_within : (n d limit p j : ℕ) (ws : List ℕ) → d ≡ width n → LaidOut n limit ws → p < limit → j < d → limit + d * p + j < length ws
place_within n d limit p j ws e o l m = subst (λ (x : ℕ). limit + x * p + j < length ws) (sym e) (within_words n limit p j ws o l (omega arith))

pub word_read : (n d limit p j x : ℕ) (ws : List ℕ) → d ≡ width n → LaidOut n limit ws → p < limit → j < d → x ≡ get_or ws (limit + d * p + j) x → x ≡ word_at n limit ws p j
unfolding word_at
word_read n d limit p j x ws e o l m h =
    get_or_read ws (limit + d * p + j) x (place_within n d limit p j ws e o l m) h 0
    ∙ ap (λ (y : ℕ). get_or ws (limit + y * p + j) 0) e
    ∙ sym (cond-true (ltb j (width n)) _ _ (lt-ltb j (width n) (omega arith)))

pub word_past : (n d limit p j : ℕ) (ws : List ℕ) → d ≡ width n → d ≤ j → 0 ≡ word_at n limit ws p j
unfolding word_at
word_past n d limit p j ws e l = sym (cond-false (ltb j (width n)) _ _ (le-ltb j (width n) (omega arith)))

-- ---- a function at a place
module _ (n limit : ℕ) (ws t : List ℕ) (o : LaidOut n limit ws) (long : length t ≡ 4) where
  pub same_place : (p m : ℕ) (r : List ℕ) → p < limit → m ≡ mark_of t → get_or ws p 0 ≡ m → r ≡ words_at n limit ws p → same_words r t ≡ true → slice_get (contents n limit ws) p ≡ Some (Some t)
  same_place p m r l e h q s =
      let a : 0 < mark_of t = mark_some t in
      let d : get_or ws p 0 ≡ 0 → ⊥ = λ z. (let b : mark_of t ≡ 0 = sym (h ∙ e) ∙ z in omega arith) in
      place_used n limit ws p l d ∙ ap (λ (us : List ℕ). Some (Some us)) (sym q ∙ same_equal r t (ap length q ∙ length_words_at n limit ws p) long s)

  -- its mark and its words are there
  pub place_mark : (p : ℕ) → slice_get (contents n limit ws) p ≡ Some (Some t) → get_or ws p 0 ≡ mark_of t
  place_mark p e = let u = used_place n limit ws p t e in o.marked p u.0 u.1 ∙ ap mark_of u.2

  pub place_words : (p : ℕ) (r : List ℕ) → r ≡ words_at n limit ws p → slice_get (contents n limit ws) p ≡ Some (Some t) → same_words r t ≡ true
  place_words p r q e = equal_same r t (q ∙ (used_place n limit ws p t e).2)

pub free_place_mark : (n limit : ℕ) (ws : List ℕ) (p : ℕ) → p < limit → slice_get (contents n limit ws) p ≡ Some None → get_or ws p 0 ≡ 0
free_place_mark n limit ws p l e = ⊎_elim
    (λ (z : get_or ws p 0 ≡ 0). z)
    (λ (z : get_or ws p 0 ≡ 0 → ⊥). absurd (let q : Some (Some (words_at n limit ws p)) ≡ Some None = sym (place_used n limit ws p l z) ∙ e in let u : ◌≡◌ {A = ℕ} 0 1 = cc in let b : ⊥ = omega arith in b))
    (cases_eq (get_or ws p 0) 0)

-- ---- what a place holds, by its mark x and its words r
module _ (n limit : ℕ) (ws : List ℕ) (i x : ℕ) (o : LaidOut n limit ws) (l : i < limit) (read : x ≡ get_or ws i x) where
  mark_read : get_or ws i 0 ≡ x
  mark_read = let m : limit ≤ length ws = limit_within n limit ws o in sym (get_or_read ws i x (omega arith) read 0)

  pub free_there : x ≡ 0 → slice_get (contents n limit ws) i ≡ Some None
  free_there e = place_free n limit ws i l (mark_read ∙ e)

  pub free_mark : slice_get (contents n limit ws) i ≡ Some None → x ≡ 0
  free_mark e = sym mark_read ∙ free_place_mark n limit ws i l e

  module _ (t : List ℕ) (long : length t ≡ 4) (m : ℕ) (mark : m ≡ mark_of t) where
    pub function_there : (r : List ℕ) → x ≡ m → r ≡ words_at n limit ws i → same_words r t ≡ true → slice_get (contents n limit ws) i ≡ Some (Some t)
    function_there r e q s = same_place n limit ws t o long i m r l mark (mark_read ∙ e) q s

    pub function_mark : slice_get (contents n limit ws) i ≡ Some (Some t) → x ≡ m
    function_mark e = sym mark_read ∙ place_mark n limit ws t o long i e ∙ sym mark

    pub function_words : (r : List ℕ) → r ≡ words_at n limit ws i → slice_get (contents n limit ws) i ≡ Some (Some t) → same_words r t ≡ true
    function_words r q e = place_words n limit ws t o long i r q e

-- what was looked for, place by place
pub some_found : (ps : List Content) (x : Content) (limit : ℕ) (Fails Passes : ℕ → Type 0) (r : Option ℕ) → MatchOption r ((p : ℕ) → p < limit → Fails p) (λ p. (p < limit) × Passes p)
    → ((p : ℕ) → p < limit → Fails p → IsTrue false ↔ (slice_get ps p ≡ Some x)) → ((p : ℕ) → p < limit → Passes p → IsTrue true ↔ (slice_get ps p ≡ Some x)) → SomeWith ps x limit r
unfolding SomeWith
some_found ps x limit Fails Passes None h fails passes = λ p l e. false≢true ((fails p l (h p l)).1 e)
some_found ps x limit Fails Passes (Some p) h fails passes = (h.0, (passes p h.0 h.1).0 refl)
