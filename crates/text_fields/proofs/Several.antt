-- Several phrases of one kind, read one after another.
use Rattle.std.proofs.Common.{◌≡◌, ℕ, zero, suc, ◌+◌, ◌-◌, ◌<◌, ◌≤◌, List, [], ◌∷◌, ◌++◌, length, set, replicate, Ok, Err, sym, refl, ap, ◌∙◌, append_assoc, append-nil, arith}
use Rattle.std.proofs.lemmas.List.{length-append, set_at}
use Rattle.text_reader.specs.declared.reader.Reader.{Reader}
use Rattle.text_reader.specs.declared.fault.TextFault.{TextFault}
use Rattle.text_reader.specs.Reading.{text_of}
use Rattle.text_grammar.specs.Syntaxes.{Syntax, several}
use Rattle.text_fields.specs.Reading.{onward, Reached, Follows, IsNumbers}

-- of `total` phrases, i are read, with these values
pub record Underway {A : Type 0} (phrase : (A → Syntax) → Syntax) (total i : ℕ) (s t : Reader) (got : List A) : Type 0 where
  pub many : length got ≡ i
  pub same : text_of t ≡ text_of s
  pub goes : (k : List A → Syntax) → onward (several phrase total k) s ≡ onward (several phrase (total - i) (λ more. k (got ++ more))) t

pub underway_none : {A : Type 0} (phrase : (A → Syntax) → Syntax) (total : ℕ) (s : Reader) → Underway phrase total 0 s s []
underway_none phrase total s =
    let e : total ≡ total - 0 = omega arith in
    record { many = refl; same = refl; goes = λ k. ap (λ m. onward (several phrase m k) s) e }

module _ {A : Type 0} (phrase : (A → Syntax) → Syntax) (total i : ℕ) (s t : Reader) (got : List A) (h : Underway phrase total i s t got) where
  left_one : i < total → (k : List A → Syntax) → onward (several phrase total k) s ≡ onward (phrase (λ a. several phrase (total - (i + 1)) (λ more. k (got ++ (a ∷ more))))) t
  unfolding several
  left_one l k =
      let e : total - i ≡ suc (total - (i + 1)) = omega arith in
      h.goes k ∙ ap (λ m. onward (several phrase m (λ more. k (got ++ more))) t) e

  pub underway_more : (u : Reader) → i < total → (a : A) → Reached phrase a t u → Underway phrase total (i + 1) s u (got ++ (a ∷ []))
  underway_more u l a r = record {
    many = length-append got (a ∷ []) ∙ ap (λ n. n + 1) h.many;
    same = r.same ∙ h.same;
    goes = λ k. left_one l k ∙ r.goes _ ∙ (λ j. onward (several phrase (total - (i + 1)) (λ more. k (sym (append_assoc got (a ∷ []) more) j))) u);
  }

  pub underway_stuck : i < total → (e : TextFault) → ((k : A → Syntax) → onward (phrase k) t ≡ Err e) → (k : List A → Syntax) → onward (several phrase total k) s ≡ Err e
  underway_stuck l e x k = left_one l k ∙ x _

  pub underway_all : total ≤ i → Reached (several phrase total) got s t
  unfolding several
  underway_all l =
      let z : total - i ≡ zero = omega arith in
      record {
        same = h.same;
        goes = λ k. h.goes k ∙ ap (λ m. onward (several phrase m (λ more. k (got ++ more))) t) z ∙ ap (λ x. onward (k x) t) (append-nil got);
      }

-- the same for numbers, each of which is put in its place
pub record Numbering (phrase : (ℕ → Syntax) → Syntax) (total i : ℕ) (s t : Reader) (places : List ℕ) : Type 0 where
  pub got : List ℕ
  pub read : Underway phrase total i s t got
  pub kept : places ≡ got ++ replicate (total - i) 0

pub numbering_none : (phrase : (ℕ → Syntax) → Syntax) (total : ℕ) (s : Reader) (places : List ℕ) → places ≡ replicate total 0 → Numbering phrase total 0 s s places
numbering_none phrase total s places e =
    let z : total ≡ total - 0 = omega arith in
    record { got = []; read = underway_none phrase total s; kept = e ∙ ap (λ n. replicate n 0) z }

module _ (phrase : (ℕ → Syntax) → Syntax) (total i : ℕ) (s t : Reader) (places : List ℕ) (h : Numbering phrase total i s t places) where
  pub numbering_more : (u : Reader) → i < total → (n a : ℕ) → n ≡ a → Reached phrase a t u → Numbering phrase total (i + 1) s u (set places i n)
  numbering_more u l n a e r =
      let m : total - i ≡ suc (total - (i + 1)) = omega arith in
      record {
        got = h.got ++ (a ∷ []);
        read = underway_more phrase total i s t h.got h.read u l a r;
        kept =
            (λ j. set ((h.kept ∙ ap (λ x. h.got ++ replicate x 0) m) j) i (e j))
            ∙ set_at h.got 0 (replicate (total - (i + 1)) 0) a i h.read.many
            ∙ sym (append_assoc h.got (a ∷ []) (replicate (total - (i + 1)) 0));
      }

  pub numbering_stuck : i < total → (e : TextFault) → ((k : ℕ → Syntax) → onward (phrase k) t ≡ Err e) → (k : List ℕ → Syntax) → onward (several phrase total k) s ≡ Err e
  numbering_stuck l e x = underway_stuck phrase total i s t h.got h.read l e x

  pub numbering_all : i ≡ total → (all : List ℕ) → all ≡ places ++ replicate (4 - total) 0 → Follows (several phrase total) IsNumbers s t (Ok all)
  numbering_all l all e =
      let z : total - i ≡ 0 = omega arith in
      let m : total ≡ length h.got = omega (arith, h.read.many) in
      let k : places ≡ h.got = h.kept ∙ ap (λ n. h.got ++ replicate n 0) z ∙ append-nil h.got in
      (h.got, (e ∙ (λ j. k j ++ replicate (4 - m j) 0), underway_all phrase total i s t h.got h.read (omega arith)))
