-- Lists of functions as sets, and the space that they take.
use Rattle.std.proofs.Common.{◌≡◌, ℕ, suc, ◌+◌, ◌≤◌, Bool, true, false, cond, not, ◌&&◌, ◌||◌, ◌⊎◌, List, [], ◌∷◌, ◌++◌, length, sym, refl, ap, ◌∙◌, subst, inl, inr, ⊎_elim, append_assoc, arith}
use mathlib.Core.Bool.{or_assoc}
use Rattle.std.proofs.lemmas.Bool.{false≢true, cases_Bool, or_parts, or_left, or_right, cond-true, cond-false, both_ways}
use Rattle.exact.proofs.Indices.{same_self, same_equal}
use Rattle.functions.specs.Tables.{Table}
use Rattle.functions.specs.Sets.{same, among, is_constant, without_constants, different, space, parts_of_all}

pub among_append : (g : Table) (a b : List Table) → among g (a ++ b) ≡ (among g a || among g b)
unfolding among
among_append g [] b = refl
among_append g (x ∷ a) b = ap (λ (t : Bool). same g x || t) (among_append g a b) ∙ sym (or_assoc (same g x) (among g a) (among g b))

pub parts_append : (p : Table → List Table) (a b : List Table) → parts_of_all p (a ++ b) ≡ parts_of_all p a ++ parts_of_all p b
unfolding parts_of_all
parts_append p [] b = refl
parts_append p (x ∷ a) b = ap (λ (l : List Table). p x ++ l) (parts_append p a b) ∙ sym (append_assoc (p x) (parts_of_all p a) (parts_of_all p b))

without : Table → List Table → List Table
without f [] = []
without f (x ∷ l) = cond (same f x) (without f l) (x ∷ without f l)

apart : (f g x : Table) → same f g ≡ false → same f x ≡ true → same g x ≡ false
apart f g x d e = ⊎_elim
    (λ (t : same g x ≡ true).
    let p : f ≡ g = same_equal f x e ∙ sym (same_equal g x t) in
    absurd (both_ways (same f g) d (subst (λ (y : Table). same f y ≡ true) p (same_self f))))
    (λ (t : same g x ≡ false). t)
    (cases_Bool (same g x))

among_without : (f g : Table) → same f g ≡ false → (l : List Table) → among g (without f l) ≡ among g l
unfolding among without
among_without f g d [] = refl
among_without f g d (x ∷ l) = go (same f x) refl (among_without f g d l)
  where
    go : (b : Bool) → same f x ≡ b → among g (without f l) ≡ among g l → among g (cond b (without f l) (x ∷ without f l)) ≡ (same g x || among g l)
    go true e ih = ih ∙ ap (λ (t : Bool). t || among g l) (sym (apart f g x d e))
    go false e ih = ap (λ (t : Bool). same g x || t) ih

without_none : (f : Table) (l : List Table) → among f l ≡ false → without f l ≡ l
unfolding among without
without_none f [] e = refl
without_none f (x ∷ l) e =
    let p = or_parts (same f x) (among f l) e in
    cond-false (same f x) (without f l) (x ∷ without f l) p.0 ∙ ap (λ (t : List Table). x ∷ t) (without_none f l p.1)

different_without : (f : Table) (l : List Table) → among f l ≡ true → different l ≡ different (without f l) + 1
unfolding among without different
different_without f [] e = absurd (false≢true e)
different_without f (x ∷ l) e = go (same f x) refl (among f l) refl (different_without f l)
  where
    go : (b : Bool) → same f x ≡ b → (m : Bool) → among f l ≡ m → (among f l ≡ true → different l ≡ different (without f l) + 1) → cond (among x l) (different l) (different l + 1) ≡ different (cond b (without f l) (x ∷ without f l)) + 1
    go true s true m ih =
        let fx : f ≡ x = same_equal f x s in
        cond-true (among x l) (different l) (different l + 1) (subst (λ (y : Table). among y l ≡ true) fx m) ∙ ih m
    go true s false m ih =
        let fx : f ≡ x = same_equal f x s in
        cond-false (among x l) (different l) (different l + 1) (subst (λ (y : Table). among y l ≡ false) fx m) ∙ ap (λ (t : List Table). different t + 1) (sym (without_none f l m))
    go false s true m ih =
        let h : among x (without f l) ≡ among x l = among_without f x s l in
        ap (λ (t : ℕ). cond (among x l) t (t + 1)) (ih m)
        ∙ shifted (among x l)
        ∙ ap (λ (t : Bool). cond t (different (without f l)) (different (without f l) + 1) + 1) (sym h)
      where
        shifted : (t : Bool) → cond t (different (without f l) + 1) (different (without f l) + 1 + 1) ≡ cond t (different (without f l)) (different (without f l) + 1) + 1
        shifted true = refl
        shifted false = refl
    go false s false m ih = absurd (both_ways (among f (x ∷ l)) (ap (λ (t : Bool). t || among f l) s ∙ m) e)

-- a subset has no more different functions
pub different_mono : (a b : List Table) → ((g : Table) → among g a ≡ true → among g b ≡ true) → different a ≤ different b
unfolding among different
different_mono [] b sub = omega arith
different_mono (f ∷ a) b sub = go (among f a) refl
    (different_mono a b (λ g h. sub g (or_right (same g f) (among g a) h)))
    (λ fresh. different_mono a (without f b) (λ g h. inside g h fresh (cases_Bool (same f g))))
  where
    inside : (g : Table) → among g a ≡ true → among f a ≡ false → (same f g ≡ true) ⊎ (same f g ≡ false) → among g (without f b) ≡ true
    inside g h fresh (inl s) = absurd (both_ways (among f a) fresh (subst (λ (y : Table). among y a ≡ true) (sym (same_equal f g s)) h))
    inside g h fresh (inr s) = among_without f g s b ∙ sub g (or_right (same g f) (among g a) h)

    here : among f b ≡ true
    here = sub f (or_left (same f f) (among f a) (same_self f))

    go : (m : Bool) → among f a ≡ m → different a ≤ different b → (among f a ≡ false → different a ≤ different (without f b)) → cond m (different a) (different a + 1) ≤ different b
    go true e le ih = le
    go false e le ih =
        let h : different a ≤ different (without f b) = ih e in
        let k : different b ≡ different (without f b) + 1 = different_without f b here in
        omega arith

-- the functions that are left where constants are left out
pub among_varying : (n : ℕ) (g : Table) (l : List Table) → among g (without_constants n l) ≡ (among g l && not (is_constant n g))
unfolding among without_constants
among_varying n g [] = refl
among_varying n g (x ∷ l) = go (is_constant n x) refl (same g x) refl (among_varying n g l)
  where
    go : (b : Bool) → is_constant n x ≡ b → (s : Bool) → same g x ≡ s → among g (without_constants n l) ≡ (among g l && not (is_constant n g)) → among g (cond b (without_constants n l) (x ∷ without_constants n l)) ≡ ((same g x || among g l) && not (is_constant n g))
    go true c true s ih =
        let k : is_constant n g ≡ true = ap (is_constant n) (same_equal g x s) ∙ c in
        ih ∙ ap (λ (t : Bool). among g l && not t) k ∙ none (among g l) ∙ sym (none (same g x || among g l)) ∙ ap (λ (t : Bool). (same g x || among g l) && not t) (sym k)
      where
        none : (t : Bool) → (t && false) ≡ false
        none true = refl
        none false = refl
    go true c false s ih = ih ∙ ap (λ (t : Bool). (t || among g l) && not (is_constant n g)) (sym s)
    go false c true s ih =
        let k : is_constant n g ≡ false = ap (is_constant n) (same_equal g x s) ∙ c in
        ap (λ (t : Bool). t || among g (without_constants n l)) s ∙ sym (ap (λ (t : Bool). (t || among g l) && not (is_constant n g)) s ∙ ap not k)
    go false c false s ih = ap (λ (t : Bool). t || among g (without_constants n l)) s ∙ ih ∙ sym (ap (λ (t : Bool). (t || among g l) && not (is_constant n g)) s)

-- a subset takes no more space, and equal sets take the same
pub space_mono : (n : ℕ) (a b : List Table) → ((g : Table) → among g a ≡ true → among g b ≡ true) → space n a ≤ space n b
unfolding space
space_mono n a b sub = different_mono (without_constants n a) (without_constants n b) (λ g h. among_varying n g b ∙ kept (among g a) (among g b) (not (is_constant n g)) (sub g) (sym (among_varying n g a) ∙ h))
  where
    kept : (p q c : Bool) → (p ≡ true → q ≡ true) → (p && c) ≡ true → (q && c) ≡ true
    kept true q c s e = ap (λ (t : Bool). t && c) (s refl) ∙ e
    kept false q c s e = absurd (false≢true e)

-- a list takes no more space than it is long
different_long : (l : List Table) → different l ≤ length l
unfolding different
different_long [] = omega arith
different_long (f ∷ l) = go (among f l) (different_long l)
  where
    go : (b : Bool) → different l ≤ length l → cond b (different l) (different l + 1) ≤ suc (length l)
    go true h = omega arith
    go false h = omega arith

varying_long : (n : ℕ) (l : List Table) → length (without_constants n l) ≤ length l
unfolding without_constants
varying_long n [] = omega arith
varying_long n (f ∷ l) = go (is_constant n f) (varying_long n l)
  where
    go : (b : Bool) → length (without_constants n l) ≤ length l → length (cond b (without_constants n l) (f ∷ without_constants n l)) ≤ suc (length l)
    go true h = omega arith
    go false h = omega arith

pub space_long : (n : ℕ) (l : List Table) → space n l ≤ length l
unfolding space
space_long n l =
    let a : different (without_constants n l) ≤ length (without_constants n l) = different_long (without_constants n l) in
    let b : length (without_constants n l) ≤ length l = varying_long n l in
    omega arith

-- one more function, not constant and not among them, takes one more
pub space_more : (n : ℕ) (f : Table) (l : List Table) → is_constant n f ≡ false → among f l ≡ false → space n (f ∷ l) ≡ space n l + 1
unfolding space different without_constants
space_more n f l c e =
    ap different (cond-false (is_constant n f) (without_constants n l) (f ∷ without_constants n l) c)
    ∙ cond-false (among f (without_constants n l)) (different (without_constants n l)) (different (without_constants n l) + 1) (among_varying n f l ∙ ap (λ (t : Bool). t && not (is_constant n f)) e)
