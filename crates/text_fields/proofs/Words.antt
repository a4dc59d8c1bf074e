-- What words that are told tell of a syntax.
use Rattle.std.proofs.Common.{◌≡◌, ℕ, Bool, rules, ◌+◌, true, false, cond, eqb, List, [], ◌∷◌, length, get_or, Some, None, Option, sym, refl, ap, subst, ◌∙◌, ⊎_elim, arith}
use Rattle.std.proofs.lemmas.Bool.{cases_Bool, cond-true, cond-false, and_parts, eqb-true}
use Rattle.std.specs.Option.{option_eq, option_map}
use denote.Enum.Bare.{sameb, same_true, same_false}
use Rattle.text_words.specs.declared.spelling.Section.{Section}
use Rattle.text_words.specs.contracts.spelling.Section.{the_type}
use Rattle.text_words.specs.Spelling.{section_word, sections, section_of, has}
use Rattle.exact.specs.Indices.{number}
use Rattle.text_numbers.specs.Numbers.{all_bits, bits_of, is_index, index_of}
use Rattle.std.proofs.lemmas.Option.{none-some}
use Rattle.text_words.proofs.Names.{named_is, has_is, section_named}
use Rattle.text_grammar.specs.Syntaxes.{when, fitting, otherwise}
use Rattle.text_grammar.proofs.Spelled.{section_has}
use Rattle.text_fields.specs.Reading.{Is, IsIndex}
use Rattle.text_fields.proofs.Exits.{Judges}

-- a word that names something, with what it names
pub named_judged : {A : Type 0} (told : List ℕ → Option A) (any : A) (w : List ℕ) (o : Option A) → o ≡ told w → Judges (λ x. fitting (told x)) (λ x. otherwise any (told x)) Is w o
named_judged told any w (Some a) e = (ap fitting (sym e), ap (otherwise any) e)
named_judged told any w None e = ap fitting (sym e)

-- a section's word names it, and no other word does
pub section_told : (s : Section) (w : List ℕ) (m : Option Section) → m ≡ section_of w → true ≡ option_eq (sameb the_type) m (Some s) → has w 0 (section_word s) ≡ true
section_told s w None e h = cc
section_told s w (Some x) e h =
    let q : x ≡ s = same_true the_type (search rules) x s (sym h) in
    ap (λ v. has v 0 (section_word s)) (named_is section_word sections w s (sym e ∙ ap Some q)) ∙ section_has s

pub section_not_told : (s : Section) (w : List ℕ) (m : Option Section) → m ≡ section_of w → false ≡ option_eq (sameb the_type) m (Some s) → has w 0 (section_word s) ≡ false
section_not_told s w m e h = ⊎_elim (λ q. absurd (other m (e ∙ ap section_of (has_is w (section_word s) q) ∙ section_named s) h)) (λ q. q) (cases_Bool (has w 0 (section_word s)))
  where
    other : (x : Option Section) → x ≡ Some s → false ≡ option_eq (sameb the_type) x (Some s) → ⊥
    other None d g = cc
    other (Some x) d g = same_false the_type x s (sym g) (let q : x ≡ s = cc in q)

-- an index word is told with its number, and no other word is
pub index_told : (n : ℕ) (w : List ℕ) (i : ℕ) → Some i ≡ index_of n w → (is_index n w ≡ true) × (i ≡ number (bits_of w))
index_told n w i e =
    ⊎_elim
    (λ h. let s : Some i ≡ Some (number (bits_of w)) = e ∙ cond-true _ _ _ h in (h, let q : i ≡ number (bits_of w) = cc in q))
    (λ h. absurd (none-some i (sym (e ∙ cond-false _ _ _ h))))
    (cases_Bool (is_index n w))

pub no_index : (n : ℕ) (w : List ℕ) → None ≡ index_of n w → is_index n w ≡ false
no_index n w e = ⊎_elim (λ h. absurd (none-some (number (bits_of w)) (e ∙ cond-true _ _ _ h))) (λ h. h) (cases_Bool (is_index n w))

pub index_judged : (n : ℕ) (w : List ℕ) (o : Option ℕ) → o ≡ index_of n w → Judges (λ x. when (is_index n x)) bits_of IsIndex w o
index_judged n w (Some i) e = let t = index_told n w i e in (ap when t.0, t.1)
index_judged n w None e = ap when (no_index n w e)

-- of one bit, the number is 1 where the byte is
bit_number : (w : List ℕ) → is_index 1 w ≡ true → eqb (get_or w 0 0) 49 ≡ eqb (number (bits_of w)) 1
unfolding all_bits bits_of number
bit_number [] h = cc
bit_number (x ∷ []) h = elim (eqb x 49) as (λ b. b ≡ eqb (cond b 1 0 + 0) 1) [ true ↦ refl | false ↦ refl ]
bit_number (x ∷ (y ∷ v)) h =
    let l = eqb-true (length (x ∷ (y ∷ v))) 1 (and_parts (eqb (length (x ∷ (y ∷ v))) 1) (all_bits (x ∷ (y ∷ v))) h).0 in
    absurd (let b : ⊥ = omega (arith, l) in b)

pub bit_told : (w : List ℕ) (i : ℕ) → Some i ≡ index_of 1 w → (is_index 1 w ≡ true) × (eqb (get_or w 0 0) 49 ≡ eqb i 1)
bit_told w i e = let t = index_told 1 w i e in (t.0, bit_number w t.0 ∙ ap (λ x. eqb x 1) (sym t.1))

pub bit_judged : (w : List ℕ) (i : Option ℕ) (o : Option Bool) → i ≡ index_of 1 w → o ≡ option_map (λ x. eqb x 1) i → Judges (λ x. when (is_index 1 x)) (λ x. eqb (get_or x 0 0) 49) Is w o
bit_judged w (Some i) o e h = let t = bit_told w i e in subst (Judges (λ x. when (is_index 1 x)) (λ x. eqb (get_or x 0 0) 49) Is w) (sym h) (ap when t.0, sym t.1)
bit_judged w None o e h = subst (Judges (λ x. when (is_index 1 x)) (λ x. eqb (get_or x 0 0) 49) Is w) (sym h) (ap when (no_index 1 w e))
