-- A reader that stands before a line of a kind reads it, and no fault can stop it.
use Rattle.std.proofs.Common.{◌≡◌, ℕ, List, ◌++◌, Ok, Err, Result, sym, refl, ap, ◌∙◌, subst}
use Rattle.std.specs.Result.{IsOk}
use Rattle.text_reader.specs.declared.reader.Reader.{Reader}
use Rattle.text_reader.specs.declared.fault.TextFault.{TextFault}
use Rattle.text_reader.specs.Tokens.{first_word}
use Rattle.text_reader.specs.Reading.{text_of, rest}
use Rattle.text_grammar.specs.Circuits.{Circuit, Line, line_bytes}
use Rattle.text_grammar.specs.Syntaxes.{Syntax, Reading, read}
use Rattle.text_grammar.specs.Syntaxes.Syntax.{done}
use Rattle.text_grammar.specs.Verdicts.{located}
use Rattle.text_grammar.proofs.Faithful.{Faithful, Any, err_not_ok}
use Rattle.text_fields.specs.Reading.{onward, Follows}
use Rattle.circuit_text.specs.Lines.{FitsLine, BeforeLine}
use Rattle.circuit_text.proofs.Heads.{Kind, kind_of, line_kind, kind_told}

-- a kind of line of a circuit of n qubits: its phrase, what is written of a value, the line of a value, and a circuit from which a value can be told
pub record Kindred (n : ℕ) (kind : Kind) (A U : Type 0) : Type 1 where
  pub phrase : (A → Syntax) → Syntax
  pub spell : A → List ℕ
  pub Fine : A → Type 0
  pub faithful : Faithful phrase spell Fine Any
  pub Means : U → A → Type 0
  pub line : A → Line
  pub line_is : (x : Line) → line_kind x ≡ kind → (a : A) × (x ≡ line a)
  pub bytes : (a : A) → line_bytes (line a) ≡ spell a
  pub fine : (a : A) → FitsLine n (line a) → Fine a
  pub just : A → Circuit
  pub told : (a b : A) → just a ≡ just b → a ≡ b

-- what was read, and what is left
pub record Taken {A U : Type 0} (Means : U → A → Type 0) (line : A → Line) (before : Line) (more : List ℕ) (s t : Reader) (u : U) : Type 0 where
  pub value : A
  pub is : before ≡ line value
  pub means : Means u value
  pub same : text_of t ≡ text_of s
  pub left : rest t ≡ more

module _ {n : ℕ} {kind : Kind} {A U : Type 0} (q : Kindred n kind A U) (s : Reader) (h : BeforeLine n s) (e : kind_of (first_word (rest s)) ≡ kind) where
  here : (a : A) × (h.line ≡ q.line a)
  here = q.line_is h.line (sym (kind_told n h.line h.more h.fits) ∙ ap (λ r. kind_of (first_word r)) (sym h.text) ∙ e)

  reads : onward (q.phrase (λ x. done (q.just x))) s ≡ Ok (q.just here.0, h.more)
  unfolding onward read located
  reads =
      let text : rest s ≡ q.spell here.0 ++ h.more = h.text ∙ ap (λ y. line_bytes y ++ h.more) here.1 ∙ ap (λ l. l ++ h.more) (q.bytes here.0) in
      ap (λ r. located (text_of s) (read (q.phrase (λ x. done (q.just x))) r)) text
      ∙ ap (located (text_of s)) (q.faithful.complete (λ x. done (q.just x)) here.0 h.more (q.fine here.0 (subst (FitsLine n) here.1 h.fits)) tt)

  no_fault : (f : TextFault) → ((j : A → Syntax) → onward (q.phrase j) s ≡ Err f) → ⊥
  no_fault f g = err_not_ok f (q.just here.0, h.more) (sym (g _) ∙ reads)

  pub always_read : (t : Reader) (r : Result U TextFault) → Follows q.phrase q.Means s t r → IsOk r
  always_read t (Ok u) f = refl
  always_read t (Err x) f = absurd (no_fault x f)

  pub taken : (t : Reader) (u : U) → Follows q.phrase q.Means s t (Ok u) → Taken q.Means q.line h.line h.more s t u
  unfolding onward read located
  taken t u f =
      let b = f.0 in
      let both : ◌≡◌ {A = Result Reading TextFault} (Ok (q.just here.0, h.more)) (Ok (q.just b, rest t)) = sym reads ∙ f.1.1.goes (λ x. done (q.just x)) in
      let pair : ◌≡◌ {A = Reading} (q.just here.0, h.more) (q.just b, rest t) = cc in
      record {
        value = here.0;
        is = here.1;
        means = subst (q.Means u) (sym (q.told here.0 b (ap (λ (p : Reading). p.0) pair))) f.1.0;
        same = f.1.1.same;
        left = sym (ap (λ (p : Reading). p.1) pair);
      }
