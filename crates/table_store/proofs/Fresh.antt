-- Making a store.
use Rattle.std.proofs.Common.{◌≡◌, ℕ, suc, ◌+◌, ◌-◌, ◌*◌, ◌/◌, ◌<◌, ◌≤◌, min, ◌&&◌, eqb, leb, List, [], ◌∷◌, ◌++◌, length, get_or, take, drop, replicate, Some, None, Ok, Err, vec_items, Result, sym, refl, ap, ◌∙◌, subst, ap₂, ⊎_elim, mul-le-mul_right, mul-le-mul_left, div-mul-le_self, arith}
use Rattle.std.specs.List.{slice_get}
use Rattle.std.proofs.lemmas.List.{append-nil, take_all, drop_all, length-replicate, length-append, length-drop, get_or_append_left, get_or-replicate}
use Rattle.std.proofs.lemmas.Bool.{le-leb, lt-leb, eq-eqb, ne_eqb, cases_lt, cond-true, cond-false, and_left, and_right, and_from}
use Rattle.functions.specs.declared.faults.StoreFault.{StoreFault}
use Rattle.functions.specs.declared.faults.StoreFault.TheVariants.{NoSuchStore}
use Rattle.functions.specs.Meanings.{Meaning, only_itself, constants_only}
use Rattle.table_store.specs.declared.TableStore.{TableStore}
use Rattle.table_places.specs.Handles.{Content, entries_from, meaning_over}
use Rattle.table_store.specs.Places.{width, limit_of, contents}
use Rattle.table_places.specs.Order.{PlacesInOrder}
use Rattle.table_store.specs.Stores.{LaidOut, store_check, setting_by, NewStore}
use Rattle.table_store.proofs.Laid.{used_place, length_contents}

-- ---- the check
module _ (n words : ℕ) where
  pub check_low : n < 1 → Err (NoSuchStore n) ≡ store_check n words
  unfolding store_check
  check_low l = sym (cond-false (leb 1 n && leb n 8) _ _ (and_left (leb 1 n) (leb n 8) (lt-leb 1 n l)))

  pub check_high : 8 < n → Err (NoSuchStore n) ≡ store_check n words
  unfolding store_check
  check_high l = sym (cond-false (leb 1 n && leb n 8) _ _ (and_right (leb 1 n) (leb n 8) (lt-leb n 8 l)))

  pub check_none : 1 ≤ n → n ≤ 8 → limit_of n words ≡ 0 → Err (NoSuchStore 0) ≡ store_check n words
  unfolding store_check
  check_none a b e = sym (cond-true (leb 1 n && leb n 8) _ _ (and_from _ _ (le-leb 1 n a) (le-leb n 8 b)) ∙ cond-true (eqb (limit_of n words) 0) _ _ (eq-eqb _ 0 e))

  pub check_passes : 1 ≤ n → n ≤ 8 → (limit_of n words ≡ 0 → ⊥) → Ok tt ≡ store_check n words
  unfolding store_check
  check_passes a b e = sym (cond-true (leb 1 n && leb n 8) _ _ (and_from _ _ (le-leb 1 n a) (le-leb n 8 b)) ∙ cond-false (eqb (limit_of n words) 0) _ _ (ne_eqb _ 0 e))

  -- what passes is in range
  pub passed_range : Ok tt ≡ store_check n words → (1 ≤ n) × (n ≤ 8)
  passed_range e = ⊎_elim
      (λ (l : n < 1). absurd (refused (check_low l)))
      (λ (l : 1 ≤ n). ⊎_elim (λ (m : 8 < n). absurd (refused (check_high m))) (λ (m : n ≤ 8). (l, m)) (cases_lt 8 n))
      (cases_lt n 1)
    where
      refused : {d : StoreFault} → Err d ≡ store_check n words → ⊥
      refused {d} h = let q : Ok tt ≡ Err d = e ∙ sym h in let z : ◌≡◌ {A = ℕ} 0 1 = cc in omega arith

-- ---- free places
-- the marks below i are 0, and nothing else was changed
pub record Cleared (ws vs : List ℕ) (i : ℕ) : Type 0 where
  pub long : length vs ≡ length ws
  pub marks : (p : ℕ) → p < i → get_or vs p 0 ≡ 0

-- zeros written to the first k of n words
pub cleared : (n k : ℕ) (ws zs vs : List ℕ) → n ≡ length ws → k ≤ length ws → zs ≡ ws → vs ≡ replicate k 0 ++ drop k zs → Cleared ws (take n (vs ++ drop (length vs) ws)) k
cleared n k ws zs vs many l z e =
    let zeros : length (replicate {A = ℕ} k 0) ≡ k = length-replicate k 0 in
    let behind : length (drop k ws) ≡ length ws - k = length-drop k ws in
    let same : vs ≡ replicate k 0 ++ drop k ws = e ∙ ap (λ (xs : List ℕ). replicate k 0 ++ drop k xs) z in
    let long : length vs ≡ length ws = ap length same ∙ length-append (replicate k 0) (drop k ws) ∙ (let s : length (replicate {A = ℕ} k 0) + length (drop k ws) ≡ length ws = omega arith in s) in
    let rest : drop (length vs) ws ≡ [] = drop_all (length vs) ws (omega arith) in
    let all : take n (vs ++ drop (length vs) ws) ≡ vs = ap (take n) (ap (λ (xs : List ℕ). vs ++ xs) rest ∙ append-nil vs) ∙ take_all n vs (omega arith) in
    record {
      long = ap length all ∙ long;
      marks = λ p h. ap (λ (us : List ℕ). get_or us p 0) (all ∙ same) ∙ get_or_append_left (replicate k 0) (drop k ws) 0 p (omega arith) ∙ get_or-replicate k p 0 0 h;
    }

no_entries : (n k : ℕ) (ps : List Content) → ((p : ℕ) (ws : List ℕ) → slice_get ps p ≡ Some (Some ws) → ⊥) → entries_from n k ps ≡ []
unfolding entries_from
no_entries n k [] h = refl
no_entries n k (None ∷ ps) h = no_entries n (k + 1) ps (λ p ws e. h (suc p) ws e)
no_entries n k (Some ws ∷ ps) h = absurd (h 0 ws refl)

module _ (n limit : ℕ) (ws : List ℕ) (free : (p : ℕ) → p < limit → get_or ws p 0 ≡ 0) where
  nothing : (p : ℕ) (t : List ℕ) → slice_get (contents n limit ws) p ≡ Some (Some t) → ⊥
  nothing p t e = let u = used_place n limit ws p t e in u.1 (free p u.0)

  pub new_order : 1 ≤ n → n ≤ 8 → limit ≤ 4096 → limit * (width n + 1) ≤ length ws → LaidOut n limit ws × PlacesInOrder n limit (contents n limit ws)
  new_order a b c d = (
    record { some_qubits = a; few_qubits = b; few_places = c; suffice = d; marked = λ p l h. absurd (h (free p l)) },
    record {
      many = length_contents n limit ws;
      long = λ p t e. absurd (nothing p t e);
      clean = λ p t e. absurd (nothing p t e);
      varies = λ p t e. absurd (nothing p t e);
      apart = λ p q t e f. absurd (nothing p t e);
    },
  )

  pub new_meaning : ◌≡◌ {A = Meaning} (meaning_over n limit (contents n limit ws)) (constants_only (record { qubits = n; limit = limit; parts = only_itself n }))
  new_meaning = λ i. record { setting = record { qubits = n; limit = limit; parts = only_itself n }; entries = no_entries n 2 (contents n limit ws) nothing i }

-- the limit is what the words hold
limit_few : (n words : ℕ) → limit_of n words ≤ 4096
unfolding limit_of
limit_few n words = omega arith

limit_suffices : (n words : ℕ) → limit_of n words * (width n + 1) ≤ words
unfolding limit_of
limit_suffices n words =
    let a : min 4096 (words / (width n + 1)) ≤ words / (width n + 1) = omega arith in
    let b : min 4096 (words / (width n + 1)) * (width n + 1) ≤ words / (width n + 1) * (width n + 1) = mul-le-mul_right (width n + 1) a in
    let c : words / (width n + 1) * (width n + 1) ≤ words = div-mul-le_self words (width n + 1) in
    omega arith

pub limit_below : (n words : ℕ) → limit_of n words ≤ words
limit_below n words =
    let a : limit_of n words * (width n + 1) ≤ words = limit_suffices n words in
    let b : limit_of n words * 1 ≤ limit_of n words * (width n + 1) = mul-le-mul_left (limit_of n words) (let z : 1 ≤ width n + 1 = omega arith in z) in
    omega arith

pub store_refused : (n : ℕ) (ws : List ℕ) (s : TableStore) (e : StoreFault) → store_check n (length ws) ≡ Err e → s.qubits.number ≡ 1 → s.limit ≡ 0 → vec_items s.words ≡ ws → NewStore n ws s
unfolding setting_by
store_refused n ws s e h p q r =
    let o = new_order s.qubits.number s.limit (vec_items s.words) none (omega arith) (omega arith) (omega arith) enough in
    record {
      order = record { laid_out = o.0; places = o.1 };
      meaning = new_meaning s.qubits.number s.limit (vec_items s.words) none
          ∙ ap₂ (λ (n limit : ℕ). constants_only (record { qubits = n; limit = limit; parts = only_itself n })) p q
          ∙ ap (λ (c : Result (Unit {0}) StoreFault). constants_only (setting_by c n (length ws))) (sym h);
      untouched = λ d k. r;
    }
  where
    none : (p : ℕ) → p < s.limit → get_or (vec_items s.words) p 0 ≡ 0
    none p l = absurd (let b : ⊥ = omega arith in b)

    enough : s.limit * (width s.qubits.number + 1) ≤ length (vec_items s.words)
    enough = subst (λ (x : ℕ). x * (width s.qubits.number + 1) ≤ length (vec_items s.words)) (sym q) (let z : 0 * (width s.qubits.number + 1) ≤ length (vec_items s.words) = omega arith in z)

pub store_made : (n : ℕ) (ws : List ℕ) (s : TableStore) → store_check n (length ws) ≡ Ok tt → s.qubits.number ≡ n → s.limit ≡ limit_of n (length ws) → Cleared ws (vec_items s.words) s.limit → NewStore n ws s
unfolding setting_by
store_made n ws s h p q x =
    let r = passed_range n (length ws) (sym h) in
    let a : 1 ≤ n = r.0 in
    let b : n ≤ 8 = r.1 in
    let f : limit_of n (length ws) ≤ 4096 = limit_few n (length ws) in
    let o = new_order s.qubits.number s.limit (vec_items s.words) x.marks (omega arith) (omega arith) (omega arith) enough in
    record {
      order = record { laid_out = o.0; places = o.1 };
      meaning = new_meaning s.qubits.number s.limit (vec_items s.words) x.marks
          ∙ ap₂ (λ (n limit : ℕ). constants_only (record { qubits = n; limit = limit; parts = only_itself n })) p q
          ∙ ap (λ (c : Result (Unit {0}) StoreFault). constants_only (setting_by c n (length ws))) (sym h);
      untouched = λ d k. absurd (let z : Ok tt ≡ Err d = sym h ∙ k in let u : ◌≡◌ {A = ℕ} 0 1 = cc in let b : ⊥ = omega arith in b);
    }
  where
    enough : s.limit * (width s.qubits.number + 1) ≤ length (vec_items s.words)
    enough = subst (λ (m : ℕ). s.limit * (width s.qubits.number + 1) ≤ m) (sym x.long)
        (subst (λ (m : ℕ). s.limit * (width m + 1) ≤ length ws) (sym p)
        (subst (λ (m : ℕ). m * (width n + 1) ≤ length ws) (sym q) (limit_suffices n (length ws))))
