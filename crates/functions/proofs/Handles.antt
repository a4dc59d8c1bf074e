-- What is held under handles.
use Rattle.std.proofs.Common.{◌≡◌, ℕ, ◌+◌, ◌<◌, Bool, true, false, cond, ◌||◌, eqb, ◌⊎◌, List, [], ◌∷◌, ◌++◌, map, length, get_or, take, set, Some, None, Option, sym, refl, ap, ◌∙◌, subst, inl, inr, ⊎_elim, arith}
use Rattle.std.proofs.lemmas.Bool.{or_left, or_right, false≢true}
use Rattle.std.proofs.lemmas.List.{append-nil, get_or-map, length-map, map-append, take_more_set}
use Rattle.exact.proofs.Indices.{same_self}
use Rattle.functions.specs.Tables.{Table, constant}
use Rattle.functions.specs.Sets.{same, among, parts_of_all}
use Rattle.functions.specs.Meanings.{Meaning, Laws, qubits_of, entry, under, functions_of, held, Holds, Part}
use Rattle.functions.specs.Growth.{Grew, StandFor}

-- the constants have the handles 0 and 1
pub under_0 : (m : Meaning) → under m 0 ≡ Some (constant (qubits_of m) false)
unfolding under
under_0 m = refl

pub under_1 : (m : Meaning) → under m 1 ≡ Some (constant (qubits_of m) true)
unfolding under
under_1 m = refl

entry_held : (es : List (ℕ × Table)) (k : ℕ) (f : Table) → entry es k ≡ Some f → among f (functions_of es) ≡ true
unfolding entry functions_of among
entry_held [] k f e = absurd (let z : ◌≡◌ {A = ℕ} 0 1 = cc in let b : ⊥ = omega arith in b)
entry_held (x ∷ es) k f e = go (eqb k x.0) e (entry_held es k f)
  where
    go : (b : Bool) → cond b (Some x.1) (entry es k) ≡ Some f → (entry es k ≡ Some f → among f (functions_of es) ≡ true) → (same f x.1 || among f (functions_of es)) ≡ true
    go true e ih = let q : f ≡ x.1 = cc in or_left (same f x.1) (among f (functions_of es)) (subst (λ (y : Table). same f y ≡ true) q (same_self f))
    go false e ih = or_right (same f x.1) (among f (functions_of es)) (ih e)

-- a handle stands for a constant, or for one of those held besides
pub under_held : (m : Meaning) (k : ℕ) (f : Table) → under m k ≡ Some f → ((b : Bool) × (f ≡ constant (qubits_of m) b)) ⊎ Holds m f
unfolding under held
under_held m k f e = go (eqb k 0) (eqb k 1) e
  where
    go : (a b : Bool) → cond a (Some (constant (qubits_of m) false)) (cond b (Some (constant (qubits_of m) true)) (entry m.entries k)) ≡ Some f → ((b : Bool) × (f ≡ constant (qubits_of m) b)) ⊎ (among f (functions_of m.entries) ≡ true)
    go true b e = inl (false, (let q : f ≡ constant (qubits_of m) false = cc in q))
    go false true e = inl (true, (let q : f ≡ constant (qubits_of m) true = cc in q))
    go false false e = inr (entry_held m.entries k f e)

-- two held handles are equal exactly if their functions are
pub same_function : (m : Meaning) (j k : ℕ) (f g : Table) → under m j ≡ Some f → under m k ≡ Some g → j ≡ k → f ≡ g
same_function m j k f g a b e = let c : Some f ≡ Some g = sym a ∙ ap (under m) e ∙ b in cc

pub same_handle : (m : Meaning) → Laws m → (j k : ℕ) (f g : Table) → under m j ≡ Some f → under m k ≡ Some g → f ≡ g → j ≡ k
same_handle m laws j k f g a b e = laws.one_handle j k g (a ∙ ap Some e) b

-- the parts of a function that has a handle are held
pub parts_under : (m : Meaning) (k : ℕ) (f : Table) → Laws m → under m k ≡ Some f → (g : Table) → Part m.setting g f → Holds m g
unfolding among
parts_under m k f laws e g h = ⊎_elim
    (λ (c : (b : Bool) × (f ≡ constant (qubits_of m) b)). absurd (false≢true (ap (among g) (sym (ap m.setting.parts c.1 ∙ laws.setting.no_part c.0)) ∙ h)))
    (λ (c : Holds m f). laws.parts_held f g c h)
    (under_held m k f e)

-- to make again what has a handle changes nothing
pub grew_again : (m : Meaning) (k : ℕ) (f : Table) → Laws m → under m k ≡ Some f → Grew m m (f ∷ [])
unfolding parts_of_all
grew_again m k f laws e = record {
  setting = refl;
  keeps = λ j g h. h;
  holds = λ g. absorbed (among g (held m)) (among g (m.setting.parts f ++ [])) (λ h. parts_under m k f laws e g (ap (among g) (sym (append-nil (m.setting.parts f))) ∙ h));
}
  where
    absorbed : (a b : Bool) → (b ≡ true → a ≡ true) → a ≡ (a || b)
    absorbed true b h = refl
    absorbed false true h = h refl
    absorbed false false h = refl

-- ---- handles that stand for functions, in their order
pub stand_for_none : (m : Meaning) → StandFor m [] []
unfolding StandFor
stand_for_none m = refl

pub stand_for_length : (m : Meaning) (ks : List ℕ) (fs : List Table) → StandFor m ks fs → length fs ≡ length ks
unfolding StandFor
stand_for_length m ks fs h = sym (length-map fs Some) ∙ ap length (sym h) ∙ length-map ks (under m)

pub stand_for_at : (m : Meaning) (ks : List ℕ) (fs : List Table) (i : ℕ) → StandFor m ks fs → i < length ks → under m (get_or ks i 0) ≡ Some (get_or fs i [])
unfolding StandFor
stand_for_at m ks fs i h l =
    let e : length fs ≡ length ks = stand_for_length m ks fs h in
    let k : i < length fs = omega arith in
    sym (get_or-map (under m) ks i 0 None l) ∙ ap (λ (x : List (Option Table)). get_or x i None) h ∙ get_or-map Some fs i [] None k

pub stand_for_keeps : (v w : Meaning) (a : List Table) → Grew v w a → (ks : List ℕ) (fs : List Table) → StandFor v ks fs → StandFor w ks fs
unfolding StandFor
stand_for_keeps v w a x [] [] h = refl
stand_for_keeps v w a x [] (f ∷ fs) h = let z : ◌≡◌ {A = ℕ} 0 1 = cc in absurd (let b : ⊥ = omega arith in b)
stand_for_keeps v w a x (k ∷ ks) [] h = let z : ◌≡◌ {A = ℕ} 0 1 = cc in absurd (let b : ⊥ = omega arith in b)
stand_for_keeps v w a x (k ∷ ks) (f ∷ fs) h =
    let c : under v k ≡ Some f = cc in
    let d : map (under v) ks ≡ map Some fs = cc in
    let c' : under w k ≡ Some f = x.keeps k f c in
    let d' : map (under w) ks ≡ map Some fs = stand_for_keeps v w a x ks fs d in
    cc

pub stand_for_push : (m : Meaning) (ks : List ℕ) (fs : List Table) (k : ℕ) (f : Table) → StandFor m ks fs → under m k ≡ Some f → StandFor m (ks ++ (k ∷ [])) (fs ++ (f ∷ []))
unfolding StandFor
stand_for_push m ks fs k f h e =
    map-append (under m) ks (k ∷ []) ∙ ap (λ (x : List (Option Table)). x ++ (under m k ∷ [])) h ∙ ap (λ (x : Option Table). map Some fs ++ (x ∷ [])) e ∙ sym (map-append Some fs (f ∷ []))

-- one more handle written behind those that are there
pub stand_for_more_set : (m : Meaning) (ks : List ℕ) (i k : ℕ) (fs : List Table) (f : Table) → i < length ks → StandFor m (take i ks) fs → under m k ≡ Some f → StandFor m (take (i + 1) (set ks i k)) (fs ++ (f ∷ []))
stand_for_more_set m ks i k fs f l h e =
    subst (λ (x : List ℕ). StandFor m x (fs ++ (f ∷ []))) (sym (take_more_set ks i k l)) (stand_for_push m (take i ks) fs k f h e)
