-- A function is given a handle.
use Rattle.std.proofs.Common.{◌≡◌, ℕ, zero, suc, ◌+◌, ◌<◌, ◌≤◌, Bool, true, false, cond, ◌||◌, ◌⊎◌, List, [], ◌∷◌, ◌++◌, map, length, set, Some, None, Ok, Err, vec_items, sym, refl, ap, ◌∙◌, subst, ap₂, inl, inr, ⊎_elim, arith}
use mathlib.Core.Bool.{or_assoc, or_comm, or-false}
use Rattle.std.specs.List.{slice_get}
use Rattle.std.proofs.lemmas.List.{append-nil, length-set}
use Rattle.std.proofs.lemmas.Bool.{cases_Bool, cases_eq, or_from, or_parts, both_ways, cond-false}
use Rattle.exact.proofs.Indices.{same_equal}
use Rattle.functions.specs.declared.faults.StoreFault.TheVariants.{NoSpace}
use Rattle.functions.specs.Tables.{Table, constant}
use Rattle.functions.specs.Sets.{same, among, is_constant, without_constants, different, space, parts_of_all}
use Rattle.functions.specs.Meanings.{under, held, only_itself}
use Rattle.functions.specs.Growth.{with_parts, Exceeds}
use Rattle.functions.specs.Answers.{Due, Made}
use Rattle.functions.proofs.Sets.{among_append}
use Rattle.functions.proofs.Asked.{made_again}
use Rattle.table_words.specs.declared.PackedTable.{PackedTable}
use Rattle.table_words.specs.Words.{unpacked, Clean, Packs, same_words}
use Rattle.table_words.proofs.Words.{unpacked_once, equal_same, same_equal as words-equal}
use Rattle.table_places.specs.Handles.{Content, meaning_over}
use Rattle.table_store.specs.declared.TableStore.{TableStore}
use Rattle.table_store.specs.Places.{contents}
use Rattle.table_places.specs.Order.{PlacesInOrder, Varies}
use Rattle.table_store.specs.Stores.{LaidOut, InOrder, SomeWith, Written, places_of, meaning_of}
use Rattle.table_places.proofs.Holding.{none_is_some, words_of, under_at, under_constant, Stands, for_constant, for_place, stands, stood, held_words, held_at, place_below, not_constant, places_lawful}

pub nth_set_same : {X : Type 0} (xs : List X) (i : ℕ) (x y : X) → slice_get xs i ≡ Some y → slice_get (set xs i x) i ≡ Some x
nth_set_same [] i x y e = absurd (none_is_some y e)
nth_set_same (z ∷ xs) zero x y e = refl
nth_set_same (z ∷ xs) (suc i) x y e = nth_set_same xs i x y e

pub nth_set_other : {X : Type 0} (xs : List X) (i j : ℕ) (x : X) → (j ≡ i → ⊥) → slice_get (set xs i x) j ≡ slice_get xs j
nth_set_other [] i j x d = refl
nth_set_other (z ∷ xs) zero zero x d = absurd (d refl)
nth_set_other (z ∷ xs) zero (suc j) x d = refl
nth_set_other (z ∷ xs) (suc i) zero x d = refl
nth_set_other (z ∷ xs) (suc i) (suc j) x d = nth_set_other xs i j x (λ e. d (ap suc e))

free_taken : (ws : List ℕ) → Some (Some ws) ≡ Some None → ⊥
free_taken ws e = let z : ◌≡◌ {A = ℕ} 0 1 = cc in omega arith

-- the parts of a function that is not constant
parts_alone : (n : ℕ) (f : Table) → is_constant n f ≡ false → parts_of_all (only_itself n) (f ∷ []) ≡ f ∷ []
unfolding parts_of_all only_itself
parts_alone n f e = append-nil (only_itself n f) ∙ cond-false (is_constant n f) [] (f ∷ []) e

among_one : (g f : Table) → among g (f ∷ []) ≡ same g f
unfolding among
among_one g f = or-false (same g f)

-- what is held after one more was put at a free place
among_set : (n : ℕ) (g : Table) (t : List ℕ) (ps : List Content) (p : ℕ) → slice_get ps p ≡ Some None → among g (map (unpacked n) (words_of (set ps p (Some t)))) ≡ (among g (map (unpacked n) (words_of ps)) || same g (unpacked n t))
unfolding words_of among
among_set n g t [] p e = absurd (none_is_some None e)
among_set n g t (None ∷ ps) zero e = or_comm (same g (unpacked n t)) (among g (map (unpacked n) (words_of ps)))
among_set n g t (Some ws ∷ ps) zero e = absurd (free_taken ws e)
among_set n g t (None ∷ ps) (suc p) e = among_set n g t ps p e
among_set n g t (Some ws ∷ ps) (suc p) e =
    ap (λ (b : Bool). same g (unpacked n ws) || b) (among_set n g t ps p e)
    ∙ sym (or_assoc (same g (unpacked n ws)) (among g (map (unpacked n) (words_of ps))) (same g (unpacked n t)))

-- all places taken by different functions, and one more
all_taken : (n : ℕ) (t : Table) (ps : List Content) → ((p : ℕ) → slice_get ps p ≡ Some None → ⊥)
    → ((p : ℕ) (ws : List ℕ) → slice_get ps p ≡ Some (Some ws) → is_constant n (unpacked n ws) ≡ false)
    → ((p q : ℕ) (ws vs : List ℕ) → slice_get ps p ≡ Some (Some ws) → slice_get ps q ≡ Some (Some vs) → unpacked n ws ≡ unpacked n vs → p ≡ q)
    → ((p : ℕ) (ws : List ℕ) → slice_get ps p ≡ Some (Some ws) → t ≡ unpacked n ws → ⊥) → is_constant n t ≡ false
    → different (without_constants n (map (unpacked n) (words_of ps) ++ (t ∷ []))) ≡ length ps + 1
unfolding words_of different without_constants among
all_taken n t [] taken varies apart fresh v = ap different (cond-false (is_constant n t) [] (t ∷ []) v)
all_taken n t (None ∷ ps) taken varies apart fresh v = absurd (taken 0 refl)
all_taken n t (Some ws ∷ ps) taken varies apart fresh v =
    let rest : List Table = map (unpacked n) (words_of ps) ++ (t ∷ []) in
    let ih : different (without_constants n (map (unpacked n) (words_of ps) ++ (t ∷ []))) ≡ length ps + 1 = all_taken n t ps (λ p e. taken (suc p) e) (λ p us e. varies (suc p) us e) (λ p q us vs a b e. let s : suc p ≡ suc q = apart (suc p) (suc q) us vs a b e in omega arith) (λ p us e f. fresh (suc p) us e f) v in
    ap different (cond-false (is_constant n (unpacked n ws)) (without_constants n rest) (unpacked n ws ∷ without_constants n rest) (varies 0 ws refl))
    ∙ cond-false (among (unpacked n ws) (without_constants n rest)) (different (without_constants n rest)) (different (without_constants n rest) + 1)
    (fewer (unpacked n ws) rest (among_append (unpacked n ws) (map (unpacked n) (words_of ps)) (t ∷ []) ∙ or_from _ _ elsewhere (or_from _ _ new refl)))
    ∙ (let r : different (without_constants n (map (unpacked n) (words_of ps) ++ (t ∷ []))) + 1 ≡ suc (length ps) + 1 = omega arith in r)
  where
    elsewhere : among (unpacked n ws) (map (unpacked n) (words_of ps)) ≡ false
    elsewhere = ⊎_elim
        (λ (h : among (unpacked n ws) (map (unpacked n) (words_of ps)) ≡ true).
        let r = held_at n (unpacked n ws) ps h in
        let q : 0 ≡ suc r.0 = apart 0 (suc r.0) ws r.1 refl r.2 r.3 in
        absurd (let b : ⊥ = omega arith in b))
        (λ (h : among (unpacked n ws) (map (unpacked n) (words_of ps)) ≡ false). h)
        (cases_Bool (among (unpacked n ws) (map (unpacked n) (words_of ps))))

    new : same (unpacked n ws) t ≡ false
    new = ⊎_elim
        (λ (h : same (unpacked n ws) t ≡ true). absurd (fresh 0 ws refl (sym (same_equal (unpacked n ws) t h))))
        (λ (h : same (unpacked n ws) t ≡ false). h)
        (cases_Bool (same (unpacked n ws) t))

    fewer : (g : Table) (l : List Table) → among g l ≡ false → among g (without_constants n l) ≡ false
    fewer g [] e = refl
    fewer g (f ∷ l) e = go (is_constant n f) (or_parts (same g f) (among g l) e) (fewer g l)
      where
        go : (b : Bool) → (same g f ≡ false) × (among g l ≡ false) → (among g l ≡ false → among g (without_constants n l) ≡ false) → among g (cond b (without_constants n l) (f ∷ without_constants n l)) ≡ false
        go true h ih = ih h.1
        go false h ih = or_from _ _ h.0 (ih h.1)

too_many : (n limit : ℕ) (ps : List Content) (t : Table) → ((p : ℕ) → slice_get ps p ≡ Some None → ⊥)
    → ((p : ℕ) (ws : List ℕ) → slice_get ps p ≡ Some (Some ws) → is_constant n (unpacked n ws) ≡ false)
    → ((p q : ℕ) (ws vs : List ℕ) → slice_get ps p ≡ Some (Some ws) → slice_get ps q ≡ Some (Some vs) → unpacked n ws ≡ unpacked n vs → p ≡ q)
    → ((p : ℕ) (ws : List ℕ) → slice_get ps p ≡ Some (Some ws) → t ≡ unpacked n ws → ⊥) → is_constant n t ≡ false → length ps ≡ limit
    → Exceeds (meaning_over n limit ps) (t ∷ [])
unfolding Exceeds with_parts space
too_many n limit ps t taken varies apart fresh v many =
    let a : held (meaning_over n limit ps) ++ parts_of_all (only_itself n) (t ∷ []) ≡ map (unpacked n) (words_of ps) ++ (t ∷ []) = ap₂ (λ (x y : List Table). x ++ y) (held_words n limit ps) (parts_alone n t v) in
    let b : different (without_constants n (held (meaning_over n limit ps) ++ parts_of_all (only_itself n) (t ∷ []))) ≡ length ps + 1 = ap (λ (l : List Table). different (without_constants n l)) a ∙ all_taken n t ps taken varies apart fresh v in
    omega arith

module _ (n limit : ℕ) (ps : List Content) (some : 1 ≤ n) (few : n ≤ 8) (places : limit ≤ 4096) (o : PlacesInOrder n limit ps) (t : List ℕ) where
  -- a function that has a handle
  again : (k : ℕ) → under (meaning_over n limit ps) k ≡ Some (unpacked n t) → Made (meaning_over n limit ps) (meaning_over n limit ps) (Ok (unpacked n t)) (Ok k)
  again k e = made_again (meaning_over n limit ps) (Ok (unpacked n t)) (unpacked n t) k (places_lawful n limit ps some few places o) refl e

  pub constant_again : (b : Bool) (c : PackedTable) → Packs n (constant n b) c → t ≡ c.words → Made (meaning_over n limit ps) (meaning_over n limit ps) (Ok (unpacked n t)) (Ok (cond b 1 0))
  constant_again b c h e = again (cond b 1 0) (under_constant n limit ps b ∙ ap Some (sym (ap (unpacked n) e ∙ h.table)))

  pub place_again : (p : ℕ) → slice_get ps p ≡ Some (Some t) → Made (meaning_over n limit ps) (meaning_over n limit ps) (Ok (unpacked n t)) (Ok (p + 2))
  place_again p e = again (p + 2) (under_at n limit ps p t e)

  module _ (long : length t ≡ 4) (clean : Clean n t) (varies : Varies n t) (fresh : (p : ℕ) → slice_get ps p ≡ Some (Some t) → ⊥) where
    no_constant : is_constant n (unpacked n t) ≡ false
    unfolding Varies
    no_constant = not_constant n (unpacked n t) varies

    constant_nowhere : (p : ℕ) (ws : List ℕ) → slice_get ps p ≡ Some (Some ws) → is_constant n (unpacked n ws) ≡ false
    unfolding Varies
    constant_nowhere p ws e = not_constant n (unpacked n ws) (o.varies p ws e)

    fresh_function : (p : ℕ) (ws : List ℕ) → slice_get ps p ≡ Some (Some ws) → unpacked n t ≡ unpacked n ws → ⊥
    fresh_function p ws e q = fresh p (e ∙ ap (λ (us : List ℕ). Some (Some us)) (sym (unpacked_once n t ws (long ∙ sym (o.long p ws e)) clean (o.clean p ws e) q)))

    apart_functions : (p q : ℕ) (ws vs : List ℕ) → slice_get ps p ≡ Some (Some ws) → slice_get ps q ≡ Some (Some vs) → unpacked n ws ≡ unpacked n vs → p ≡ q
    apart_functions p q ws vs a b e =
        let s : ws ≡ vs = unpacked_once n ws vs (o.long p ws a ∙ sym (o.long q vs b)) (o.clean p ws a) (o.clean q vs b) e in
        o.apart p q vs (subst (λ (us : List ℕ). slice_get ps p ≡ Some (Some us)) s a) b

    -- there is no free place
    pub no_space : ((p : ℕ) → slice_get ps p ≡ Some None → ⊥) → Made (meaning_over n limit ps) (meaning_over n limit ps) (Ok (unpacked n t)) (Err (NoSpace limit))
    unfolding Made Due
    no_space taken = record { unchanged = refl; due = (refl, too_many n limit ps (unpacked n t) taken constant_nowhere apart_functions fresh_function no_constant o.many) }

    module _ (p : ℕ) (free : slice_get ps p ≡ Some None) where
      -- a place after the change
      after : (q : ℕ) (ws : List ℕ) → slice_get (set ps p (Some t)) q ≡ Some (Some ws) → ((q ≡ p) × (ws ≡ t)) ⊎ ((q ≡ p → ⊥) × (slice_get ps q ≡ Some (Some ws)))
      after q ws e = ⊎_elim
          (λ (s : q ≡ p). inl (s, (let r : Some (Some t) ≡ Some (Some ws) = sym (nth_set_same ps p (Some t) None free) ∙ ap (slice_get (set ps p (Some t))) (sym s) ∙ e in let u : ws ≡ t = cc in u)))
          (λ (s : q ≡ p → ⊥). inr (s, sym (nth_set_other ps p q (Some t) s) ∙ e))
          (cases_eq q p)

      pub added_order : PlacesInOrder n limit (set ps p (Some t))
      added_order = record {
        many = length-set ps p (Some t) ∙ o.many;
        long = λ q ws e. ⊎_elim (λ (h : (q ≡ p) × (ws ≡ t)). ap length h.1 ∙ long) (λ (h : (q ≡ p → ⊥) × (slice_get ps q ≡ Some (Some ws))). o.long q ws h.1) (after q ws e);
        clean = λ q ws e. ⊎_elim (λ (h : (q ≡ p) × (ws ≡ t)). subst (Clean n) (sym h.1) clean) (λ (h : (q ≡ p → ⊥) × (slice_get ps q ≡ Some (Some ws))). o.clean q ws h.1) (after q ws e);
        varies = λ q ws e. ⊎_elim (λ (h : (q ≡ p) × (ws ≡ t)). subst (Varies n) (sym h.1) varies) (λ (h : (q ≡ p → ⊥) × (slice_get ps q ≡ Some (Some ws))). o.varies q ws h.1) (after q ws e);
        apart = λ q m ws e f. both q m ws (after q ws e) (after m ws f);
      }
        where
          both : (q m : ℕ) (ws : List ℕ) → ((q ≡ p) × (ws ≡ t)) ⊎ ((q ≡ p → ⊥) × (slice_get ps q ≡ Some (Some ws))) → ((m ≡ p) × (ws ≡ t)) ⊎ ((m ≡ p → ⊥) × (slice_get ps m ≡ Some (Some ws))) → q ≡ m
          both q m ws (inl a) (inl b) = a.0 ∙ sym b.0
          both q m ws (inl a) (inr b) = absurd (fresh m (b.1 ∙ ap (λ (us : List ℕ). Some (Some us)) a.1))
          both q m ws (inr a) (inl b) = absurd (fresh q (a.1 ∙ ap (λ (us : List ℕ). Some (Some us)) b.1))
          both q m ws (inr a) (inr b) = o.apart q m ws a.1 b.1

      pub added_made : Made (meaning_over n limit ps) (meaning_over n limit (set ps p (Some t))) (Ok (unpacked n t)) (Ok (p + 2))
      unfolding Made
      added_made = record {
        function = unpacked n t;
        asked_for = refl;
        handle = under_at n limit (set ps p (Some t)) p t (nth_set_same ps p (Some t) None free);
        grew = record { setting = refl; keeps = λ k f e. stood n limit (set ps p (Some t)) k f (keeps k f (stands n limit ps k f e)); holds = grows };
      }
        where
          keeps : (k : ℕ) (f : Table) → Stands n ps k f → Stands n (set ps p (Some t)) k f
          keeps k f (for_constant b a c) = for_constant b a c
          keeps k f (for_place q ws a r c) = for_place q ws a (nth_set_other ps p q (Some t) (λ e. free_taken ws (sym r ∙ ap (slice_get ps) e ∙ free)) ∙ r) c

          grows : (g : Table) → among g (held (meaning_over n limit (set ps p (Some t)))) ≡ (among g (held (meaning_over n limit ps)) || among g (parts_of_all (only_itself n) (unpacked n t ∷ [])))
          grows g =
              ap (among g) (held_words n limit (set ps p (Some t)))
              ∙ among_set n g t ps p free
              ∙ ap₂ (λ (a b : Bool). a || b) (ap (among g) (sym (held_words n limit ps))) (sym (ap (among g) (parts_alone n (unpacked n t) no_constant) ∙ among_one g (unpacked n t)))

-- ---- a store after a function was written at a free place
pub moved : (P : ℕ → ℕ → Type 0) (m n k l : ℕ) → n ≡ m → l ≡ k → P m k → P n l
moved P m n k l e f h = subst (λ (x : ℕ). P n x) (sym f) (subst (λ (x : ℕ). P x k) (sym e) h)

pub stored : (s r : TableStore) (p : ℕ) (t : List ℕ) → r.qubits.number ≡ s.qubits.number → r.limit ≡ s.limit → InOrder s → length t ≡ 4 → Clean s.qubits.number t → Varies s.qubits.number t
    → SomeWith (places_of s) (Some t) s.limit None → SomeWith (places_of s) None s.limit (Some p) → Written s.qubits.number s.limit p t (vec_items s.words) (vec_items r.words)
    → InOrder r × Made (meaning_of s) (meaning_of r) (Ok (unpacked s.qubits.number t)) (Ok (p + 2))
unfolding SomeWith
stored s r p t eq el o long clean varies fresh free w =
    let ps = places_of s in
    let n = s.qubits.number in
    let m = s.limit in
    let none = λ (q : ℕ) (e : slice_get (places_of s) q ≡ Some (Some t)). fresh q (let a : q < length (places_of s) = place_below (places_of s) q (Some t) e in let b : length (places_of s) ≡ s.limit = o.places.many in omega arith) e in
    let x : (LaidOut n m (vec_items r.words) × PlacesInOrder n m (contents n m (vec_items r.words))) × Made (meaning_of s) (meaning_over n m (contents n m (vec_items r.words))) (Ok (unpacked n t)) (Ok (p + 2)) =
    subst (λ (qs : List Content). (LaidOut n m (vec_items r.words) × PlacesInOrder n m qs) × Made (meaning_of s) (meaning_over n m qs) (Ok (unpacked n t)) (Ok (p + 2))) (sym w.places) (
      (w.marked, added_order n m ps o.laid_out.some_qubits o.laid_out.few_qubits o.laid_out.few_places o.places t long clean varies none p free.1),
      added_made n m ps o.laid_out.some_qubits o.laid_out.few_qubits o.laid_out.few_places o.places t long clean varies none p free.1,
    ) in
    let y = moved (λ (a b : ℕ). (LaidOut a b (vec_items r.words) × PlacesInOrder a b (contents a b (vec_items r.words))) × Made (meaning_of s) (meaning_over a b (contents a b (vec_items r.words))) (Ok (unpacked n t)) (Ok (p + 2))) n r.qubits.number m r.limit eq el x in
    (record { laid_out = y.0.0; places = y.0.1 }, y.1)

pub stored_nowhere : (s : TableStore) (t : List ℕ) → InOrder s → length t ≡ 4 → Clean s.qubits.number t → Varies s.qubits.number t → SomeWith (places_of s) (Some t) s.limit None → SomeWith (places_of s) None s.limit None
    → Made (meaning_of s) (meaning_of s) (Ok (unpacked s.qubits.number t)) (Err (NoSpace s.limit))
unfolding SomeWith
stored_nowhere s t o long clean varies fresh taken =
    no_space s.qubits.number s.limit (places_of s) o.laid_out.some_qubits o.laid_out.few_qubits o.laid_out.few_places o.places t long clean varies
    (λ q e. fresh q (below q (Some t) e) e) (λ q e. taken q (below q None e) e)
  where
    below : (q : ℕ) (x : Content) → slice_get (places_of s) q ≡ Some x → q < s.limit
    below q x e = let a : q < length (places_of s) = place_below (places_of s) q x e in let b : length (places_of s) ≡ s.limit = o.places.many in omega arith

pub stored_already : (s : TableStore) (t : List ℕ) (p : ℕ) → InOrder s → SomeWith (places_of s) (Some t) s.limit (Some p) → Made (meaning_of s) (meaning_of s) (Ok (unpacked s.qubits.number t)) (Ok (p + 2))
unfolding SomeWith
stored_already s t p o found = place_again s.qubits.number s.limit (places_of s) o.laid_out.some_qubits o.laid_out.few_qubits o.laid_out.few_places o.places t p found.1

-- ---- constants
pub constant_handed : (s : TableStore) (t : List ℕ) (b : Bool) (c : PackedTable) → InOrder s → Packs s.qubits.number (constant s.qubits.number b) c → length t ≡ 4 → length c.words ≡ 4 → same_words t c.words ≡ true → Made (meaning_of s) (meaning_of s) (Ok (unpacked s.qubits.number t)) (Ok (cond b 1 0))
constant_handed s t b c o h l m e = constant_again s.qubits.number s.limit (places_of s) o.laid_out.some_qubits o.laid_out.few_qubits o.laid_out.few_places o.places t b c h (words-equal t c.words l m e)

pub not_constants : (n : ℕ) (t : List ℕ) (c d : PackedTable) → length t ≡ 4 → length c.words ≡ 4 → length d.words ≡ 4 → Clean n t → Packs n (constant n false) c → Packs n (constant n true) d → same_words t c.words ≡ false → same_words t d.words ≡ false → Varies n t
unfolding Varies
not_constants n t c d lt lc ld clean hc hd ec ed false e = both_ways (same_words t c.words) ec (equal_same t c.words (unpacked_once n t c.words (lt ∙ sym lc) clean hc.clean (e ∙ sym hc.table)))
not_constants n t c d lt lc ld clean hc hd ec ed true e = both_ways (same_words t d.words) ed (equal_same t d.words (unpacked_once n t d.words (lt ∙ sym ld) clean hd.clean (e ∙ sym hd.table)))
