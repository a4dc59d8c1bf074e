-- What a store over places holds, and its laws.
use Rattle.std.specs.Prelude.{◌≡◌, ℕ, zero, suc, ◌+◌, ◌-◌, ◌^◌, ◌<◌, ◌≤◌, Bool, true, false, cond, ◌⊎◌, List, [], ◌∷◌, map, length, Some, None, Option, ◌==◌, ◌≢◌, refl}
use native.Mathlib.Omega.{arith}
use Rattle.std.proofs.Math.Path.{sym, ap}
use Rattle.std.proofs.Common.{subst, ◌∙◌, inl, inr, ⊎_elim}
use Rattle.std.specs.List.{slice_get}
use Rattle.std.proofs.lemmas.Bool.{eq-eqb, ne_eqb, cases_eq, cases_Bool, or_left, or_right, or_cases, or_from, cond-true, cond-false, false≢true}
use Rattle.exact.proofs.Indices.{same_self, same_equal}
use Rattle.functions.specs.Tables.{Table, constant}
use Rattle.functions.specs.Sets.{same, among, is_constant, space}
use Rattle.functions.specs.Meanings.{Laws, entry, under, functions_of, held}
use Rattle.functions.proofs.Values.{length_constant}
use Rattle.functions.proofs.Sets.{space_long}
use Rattle.functions.proofs.Handles.{under_0, under_1}
use Rattle.functions.proofs.Constants.{constants_apart, part_itself, simplest_lawful}
use Rattle.table_words.specs.Words.{unpacked}
use Rattle.table_words.proofs.Words.{length_unpacked, unpacked_once}
use Rattle.table_places.specs.Handles.{Content, entries_from, meaning_over}
use Rattle.table_places.specs.Order.{PlacesInOrder, Varies}

pub none_is_some : {X : Type 0} (x : X) → None ≢ Some x
none_is_some x e = let z : ◌≡◌ {A = ℕ} 0 1 = cc in omega arith

-- the words at the places
unfoldable pub words_of : List Content → List (List ℕ)
words_of [] = []
words_of (None ∷ ps) = words_of ps
words_of (Some ws ∷ ps) = ws ∷ words_of ps

-- the function at a place, if it is there
abbrev pub function_of : ℕ → Option Content → Option Table
function_of n None = None
function_of n (Some None) = None
function_of n (Some (Some ws)) = Some (unpacked n ws)

entry_below : (n b k : ℕ) (ps : List Content) → k < b → entry (entries_from n b ps) k ≡ None
unfolding entry entries_from
entry_below n b k [] l = refl
entry_below n b k (None ∷ ps) l = entry_below n (b + 1) k ps (omega arith)
entry_below n b k (Some ws ∷ ps) l =
    cond-false (k == b) (Some (unpacked n ws)) (entry (entries_from n (b + 1) ps) k) (ne_eqb k b (omega arith)) ∙ entry_below n (b + 1) k ps (omega arith)

entry_place : (n b k : ℕ) (ps : List Content) → b ≤ k → entry (entries_from n b ps) k ≡ function_of n (slice_get ps (k - b))
unfolding entry entries_from
entry_place n b k [] l = refl
entry_place n b k (None ∷ ps) l = ⊎_elim
    (λ (e : k ≡ b).
    let z : k - b ≡ 0 = omega arith in
    entry_below n (b + 1) k ps (omega arith) ∙ ap (λ (i : ℕ). function_of n (slice_get (None ∷ ps) i)) (sym z))
    (λ (e : k ≡ b → ⊥).
    let z : k - b ≡ suc (k - (b + 1)) = omega arith in
    entry_place n (b + 1) k ps (omega arith) ∙ ap (λ (i : ℕ). function_of n (slice_get (None ∷ ps) i)) (sym z))
    (cases_eq k b)
entry_place n b k (Some ws ∷ ps) l = ⊎_elim
    (λ (e : k ≡ b).
    let z : k - b ≡ 0 = omega arith in
    cond-true (k == b) (Some (unpacked n ws)) (entry (entries_from n (b + 1) ps) k) (eq-eqb k b e) ∙ ap (λ (i : ℕ). function_of n (slice_get (Some ws ∷ ps) i)) (sym z))
    (λ (e : k ≡ b → ⊥).
    let z : k - b ≡ suc (k - (b + 1)) = omega arith in
    cond-false (k == b) (Some (unpacked n ws)) (entry (entries_from n (b + 1) ps) k) (ne_eqb k b e)
    ∙ entry_place n (b + 1) k ps (omega arith) ∙ ap (λ (i : ℕ). function_of n (slice_get (Some ws ∷ ps) i)) (sym z))
    (cases_eq k b)

-- a handle above 1 stands for what its place holds
pub under_place : (n limit : ℕ) (ps : List Content) (k : ℕ) → 2 ≤ k → under (meaning_over n limit ps) k ≡ function_of n (slice_get ps (k - 2))
unfolding under
under_place n limit ps k l =
    cond-false (k == 0) (Some (constant n false)) (cond (k == 1) (Some (constant n true)) (entry (entries_from n 2 ps) k)) (ne_eqb k 0 (omega arith))
    ∙ cond-false (k == 1) (Some (constant n true)) (entry (entries_from n 2 ps) k) (ne_eqb k 1 (omega arith))
    ∙ entry_place n 2 k ps l

pub under_at : (n limit : ℕ) (ps : List Content) (p : ℕ) (ws : List ℕ) → slice_get ps p ≡ Some (Some ws) → under (meaning_over n limit ps) (p + 2) ≡ Some (unpacked n ws)
under_at n limit ps p ws e = let j : p + 2 - 2 ≡ p = omega arith in under_place n limit ps (p + 2) (omega arith) ∙ ap (λ (m : ℕ). function_of n (slice_get ps m)) j ∙ ap (function_of n) e

pub under_constant : (n limit : ℕ) (ps : List Content) (b : Bool) → under (meaning_over n limit ps) (cond b 1 0) ≡ Some (constant n b)
under_constant n limit ps true = under_1 (meaning_over n limit ps)
under_constant n limit ps false = under_0 (meaning_over n limit ps)

-- what a handle stands for
pub data Stands (n : ℕ) (ps : List Content) (k : ℕ) (f : Table) : Type 0 where
  for_constant : (b : Bool) → k ≡ cond b 1 0 → f ≡ constant n b → Stands n ps k f
  for_place : (p : ℕ) (ws : List ℕ) → k ≡ p + 2 → slice_get ps p ≡ Some (Some ws) → f ≡ unpacked n ws → Stands n ps k f

pub stands : (n limit : ℕ) (ps : List Content) (k : ℕ) (f : Table) → under (meaning_over n limit ps) k ≡ Some f → Stands n ps k f
stands n limit ps k f e = ⊎_elim
    (λ (z : k ≡ 0). for_constant false z (constant_is false (ap (under (meaning_over n limit ps)) z)))
    (λ (x : k ≡ 0 → ⊥). ⊎_elim
    (λ (z : k ≡ 1). for_constant true z (constant_is true (ap (under (meaning_over n limit ps)) z)))
    (λ (y : k ≡ 1 → ⊥). let l : 2 ≤ k = omega arith in place (slice_get ps (k - 2)) refl l (sym (under_place n limit ps k l) ∙ e))
    (cases_eq k 1))
    (cases_eq k 0)
  where
    constant_is : (b : Bool) → under (meaning_over n limit ps) k ≡ under (meaning_over n limit ps) (cond b 1 0) → f ≡ constant n b
    constant_is b z = let q : Some f ≡ Some (constant n b) = sym e ∙ z ∙ under_constant n limit ps b in cc

    place : (o : Option Content) → slice_get ps (k - 2) ≡ o → 2 ≤ k → function_of n o ≡ Some f → Stands n ps k f
    place None r l s = absurd (none_is_some f s)
    place (Some None) r l s = absurd (none_is_some f s)
    place (Some (Some ws)) r l s = for_place (k - 2) ws (omega arith) r (let q : f ≡ unpacked n ws = cc in q)

pub stood : (n limit : ℕ) (ps : List Content) (k : ℕ) (f : Table) → Stands n ps k f → under (meaning_over n limit ps) k ≡ Some f
stood n limit ps k f (for_constant b p q) = ap (under (meaning_over n limit ps)) p ∙ under_constant n limit ps b ∙ ap Some (sym q)
stood n limit ps k f (for_place i ws p r q) = ap (under (meaning_over n limit ps)) p ∙ under_at n limit ps i ws r ∙ ap Some (sym q)

-- ---- what is held
functions_words : (n b : ℕ) (ps : List Content) → functions_of (entries_from n b ps) ≡ map (unpacked n) (words_of ps)
unfolding functions_of entries_from words_of
functions_words n b [] = refl
functions_words n b (None ∷ ps) = functions_words n (b + 1) ps
functions_words n b (Some ws ∷ ps) = ap (λ (l : List Table). unpacked n ws ∷ l) (functions_words n (b + 1) ps)

pub held_words : (n limit : ℕ) (ps : List Content) → held (meaning_over n limit ps) ≡ map (unpacked n) (words_of ps)
unfolding held
held_words n limit ps = functions_words n 2 ps

pub place_below : (ps : List Content) (p : ℕ) (x : Content) → slice_get ps p ≡ Some x → p < length ps
place_below [] p x e = absurd (none_is_some x e)
place_below (s ∷ ps) zero x e = omega arith
place_below (s ∷ ps) (suc p) x e = let l : p < length ps = place_below ps p x e in omega arith

-- a function held is at some place
pub held_at : (n : ℕ) (g : Table) (ps : List Content) → among g (map (unpacked n) (words_of ps)) ≡ true → (p : ℕ) × (ws : List ℕ) × (slice_get ps p ≡ Some (Some ws)) × (g ≡ unpacked n ws)
unfolding words_of among
held_at n g [] e = absurd (false≢true e)
held_at n g (None ∷ ps) e = let r = held_at n g ps e in (suc r.0, r.1, r.2, r.3)
held_at n g (Some ws ∷ ps) e = go (or_cases (same g (unpacked n ws)) (among g (map (unpacked n) (words_of ps))) e) (held_at n g ps)
  where
    go : (same g (unpacked n ws) ≡ true) ⊎ (among g (map (unpacked n) (words_of ps)) ≡ true) → (among g (map (unpacked n) (words_of ps)) ≡ true → (p : ℕ) × (vs : List ℕ) × (slice_get ps p ≡ Some (Some vs)) × (g ≡ unpacked n vs)) → (p : ℕ) × (vs : List ℕ) × (slice_get (Some ws ∷ ps) p ≡ Some (Some vs)) × (g ≡ unpacked n vs)
    go (inl t) ih = (0, ws, refl, same_equal g (unpacked n ws) t)
    go (inr t) ih = let r = ih t in (suc r.0, r.1, r.2, r.3)

pub at_held : (n : ℕ) (ps : List Content) (p : ℕ) (ws : List ℕ) → slice_get ps p ≡ Some (Some ws) → among (unpacked n ws) (map (unpacked n) (words_of ps)) ≡ true
unfolding words_of among
at_held n [] p ws e = absurd (none_is_some (Some ws) e)
at_held n (None ∷ ps) zero ws e = absurd (let z : ◌≡◌ {A = ℕ} 0 1 = cc in let b : ⊥ = omega arith in b)
at_held n (Some vs ∷ ps) zero ws e = let q : ws ≡ vs = cc in or_left _ _ (subst (λ (us : List ℕ). same (unpacked n ws) (unpacked n us) ≡ true) q (same_self (unpacked n ws)))
at_held n (None ∷ ps) (suc p) ws e = at_held n ps p ws e
at_held n (Some vs ∷ ps) (suc p) ws e = or_right (same (unpacked n ws) (unpacked n vs)) _ (at_held n ps p ws e)

-- ---- space
words_fewer : (n : ℕ) (ps : List Content) → length (map (unpacked n) (words_of ps)) ≤ length ps
unfolding words_of
words_fewer n [] = omega arith
words_fewer n (None ∷ ps) = let h : length (map (unpacked n) (words_of ps)) ≤ length ps = words_fewer n ps in omega arith
words_fewer n (Some ws ∷ ps) = let h : length (map (unpacked n) (words_of ps)) ≤ length ps = words_fewer n ps in omega arith

-- a function that is no constant
pub not_constant : (n : ℕ) (f : Table) → ((b : Bool) → f ≢ constant n b) → is_constant n f ≡ false
unfolding is_constant
not_constant n f d = or_from _ _ (apart false) (apart true)
  where
    apart : (b : Bool) → same f (constant n b) ≡ false
    apart b = ⊎_elim (λ (t : same f (constant n b) ≡ true). absurd (d b (same_equal f (constant n b) t))) (λ (t : same f (constant n b) ≡ false). t) (cases_Bool (same f (constant n b)))

-- ---- laws
module _ (n limit : ℕ) (ps : List Content) (some : 1 ≤ n) (few : n ≤ 8) (places : limit ≤ 4096) (o : PlacesInOrder n limit ps) where
  fits : (k : ℕ) (f : Table) → Stands n ps k f → k < 2 ^ 32
  fits k f (for_constant true p q) = omega arith
  fits k f (for_constant false p q) = omega arith
  fits k f (for_place i ws p r q) =
      let l : i < length ps = place_below ps i (Some ws) r in
      let m : length ps ≡ limit = o.many in
      omega arith

  sized : (k : ℕ) (f : Table) → Stands n ps k f → length f ≡ 2 ^ n
  sized k f (for_constant b p q) = ap length q ∙ length_constant n b
  sized k f (for_place i ws p r q) = ap length q ∙ length_unpacked n ws

  one : (j k : ℕ) (f : Table) → Stands n ps j f → Stands n ps k f → j ≡ k
  unfolding Varies
  one j k f (for_constant true a b) (for_constant true c d) = a ∙ sym c
  one j k f (for_constant true a b) (for_constant false c d) = absurd (constants_apart n (sym d ∙ b))
  one j k f (for_constant false a b) (for_constant true c d) = absurd (constants_apart n (sym b ∙ d))
  one j k f (for_constant false a b) (for_constant false c d) = a ∙ sym c
  one j k f (for_constant b a e) (for_place i ws c r d) = absurd (o.varies i ws r b (sym d ∙ e))
  one j k f (for_place i ws a r b) (for_constant c d e) = absurd (o.varies i ws r c (sym b ∙ e))
  one j k f (for_place i ws a r b) (for_place m vs c s d) =
      let e : ws ≡ vs = unpacked_once n ws vs (o.long i ws r ∙ sym (o.long m vs s)) (o.clean i ws r) (o.clean m vs s) (sym b ∙ d) in
      a ∙ ap (λ (t : ℕ). t + 2) (o.apart i m vs (subst (λ (us : List ℕ). slice_get ps i ≡ Some (Some us)) e r) s) ∙ sym c

  room : space n (held (meaning_over n limit ps)) ≤ limit
  room =
      let a : space n (held (meaning_over n limit ps)) ≤ length (held (meaning_over n limit ps)) = space_long n _ in
      let c : length (held (meaning_over n limit ps)) ≡ length (map (unpacked n) (words_of ps)) = ap length (held_words n limit ps) in
      let d : length (map (unpacked n) (words_of ps)) ≤ length ps = words_fewer n ps in
      let e : length ps ≡ limit = o.many in
      omega arith

  pub places_lawful : Laws (meaning_over n limit ps)
  places_lawful = record {
    setting = simplest_lawful n limit some (omega arith);
    handle_fits = λ k f e. fits k f (stands n limit ps k f e);
    of_qubits = λ k f e. sized k f (stands n limit ps k f e);
    has_handle = λ f h. (let r = held_at n f ps (sym (ap (among f) (held_words n limit ps)) ∙ h) in (r.0 + 2, under_at n limit ps r.0 r.1 r.2 ∙ ap Some (sym r.3)));
    one_handle = λ j k f a b. one j k f (stands n limit ps j f a) (stands n limit ps k f b);
    parts_held = λ f g h p. subst (λ (t : Table). among t (held (meaning_over n limit ps)) ≡ true) (sym (part_itself n f g p)) h;
    within_limit = room;
  }
