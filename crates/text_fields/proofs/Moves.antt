-- What a reader's moves make of a syntax.
use Rattle.std.proofs.Common.{◌≡◌, ℕ, eqb, List, [], ◌∷◌, Ok, Err, sym, refl, ap, ◌∙◌, ⊎_elim}
use Rattle.std.proofs.lemmas.Bool.{eq-eqb, eqb-true, cond-true, cond-false, cases_Bool}
use Rattle.text_reader.specs.declared.reader.Reader.{Reader}
use Rattle.text_reader.specs.declared.word.Word.{Word}
use Rattle.text_reader.specs.declared.fault.TextFault.{TextFault}
use Rattle.text_reader.specs.declared.fault.TextFault.TheVariants.{Unexpected, OutOfRange}
use Rattle.text_reader.specs.Tokens.{first_word, past_word}
use Rattle.text_reader.specs.Reading.{text_of, rest, standing, first_byte, unexpected_at, Lent}
use Rattle.text_reader.proofs.Standing.{standing_after}
use Rattle.text_grammar.specs.Circuits.{Circuit}
use Rattle.text_grammar.specs.Syntaxes.{Syntax, Verdict, read, judged}
use Rattle.text_grammar.specs.Syntaxes.Syntax.{finish, byte, word}
use Rattle.text_grammar.specs.Syntaxes.Verdict.{fits, wrong, beyond}
use Rattle.text_grammar.specs.Syntaxes.Stop.{unexpected}
use Rattle.text_grammar.specs.Verdicts.{place_at, located}
use Rattle.text_fields.specs.Reading.{onward, Reached}

here : (s : Reader) → standing s ≡ place_at (text_of s) (rest s)
unfolding place_at
here s = standing_after s

-- the fault of what stands here
fault_here : (s : Reader) → located (text_of s) (Err (unexpected (rest s))) ≡ Err (unexpected_at s)
unfolding located
fault_here s = ap (λ p. Err (Unexpected (first_byte (rest s)) p)) (sym (here s))

module _ {s t : Reader} {w : Word} (l : Lent s t w) where
  judged_here : (v : List ℕ → Verdict) (next : List ℕ → Syntax) (x : Verdict) → v w.bytes.now ≡ x → onward (word v next) s ≡ located (text_of s) (judged x (rest s) (read (next (first_word (rest s))) (past_word (rest s))))
  unfolding onward read
  judged_here v next x e = ap (λ y. located (text_of s) (judged y (rest s) (read (next (first_word (rest s))) (past_word (rest s))))) (ap v (sym l.bytes) ∙ e)

  -- a word that fits is passed
  pub reached_word : {A : Type 0} (v : List ℕ → Verdict) (value : List ℕ → A) (a : A) → v w.bytes.now ≡ fits → value w.bytes.now ≡ a → Reached (λ k. word v (λ b. k (value b))) a s t
  unfolding onward judged
  reached_word v value a e q = record {
    same = l.same;
    goes = λ k.
        judged_here v (λ b. k (value b)) fits e
        ∙ (λ i. located (sym l.same i) (read (k (value (sym l.bytes i))) (sym l.left i)))
        ∙ ap (λ x. located (text_of t) (read (k x) (rest t))) q;
  }

  -- a wrong one is the fault
  pub stuck_word : (v : List ℕ → Verdict) (next : List ℕ → Syntax) (e : TextFault) → v w.bytes.now ≡ wrong → e ≡ Unexpected w.byte w.place → onward (word v next) s ≡ Err e
  unfolding judged
  stuck_word v next e h q =
      judged_here v next wrong h ∙ fault_here s ∙ (λ i. Err (Unexpected (sym l.byte i) (sym l.place i))) ∙ ap Err (sym q)

  -- and so is a count out of range
  pub stuck_count : (v : List ℕ → Verdict) (next : List ℕ → Syntax) (n : ℕ) → v w.bytes.now ≡ beyond n → onward (word v next) s ≡ Err (OutOfRange n w.place)
  unfolding judged located
  stuck_count v next n h =
      judged_here v next (beyond n) h ∙ ap (λ p. Err (OutOfRange n p)) (sym (here s)) ∙ ap (λ p. Err (OutOfRange n p)) (sym l.place)

-- a space or line end that stands there is passed, and another token is the fault
pub passed_on : (b : ℕ) (s t : Reader) → (text_of t ≡ text_of s) × (rest s ≡ b ∷ rest t) → (k : Syntax) → onward (byte b k) s ≡ onward k t
unfolding onward read
passed_on b s t p k =
    ap (λ r. located (text_of s) (read (byte b k) r)) p.1
    ∙ ap (located (text_of s)) (cond-true _ _ _ (eq-eqb b b refl))
    ∙ ap (λ x. located x (read k (rest t))) (sym p.0)

pub passed_stuck : (b : ℕ) (s t : Reader) (e : TextFault) → (t ≡ s) × (e ≡ unexpected_at s) × ((more : List ℕ) → rest s ≡ b ∷ more → ⊥) → (k : Syntax) → onward (byte b k) s ≡ Err e
unfolding onward read
passed_stuck b s t e p k = ap (located (text_of s)) (go (rest s) refl) ∙ fault_here s ∙ ap Err (sym p.1)
  where
    go : (r : List ℕ) → rest s ≡ r → read (byte b k) r ≡ Err (unexpected r)
    go [] h = refl
    go (x ∷ xs) h = ⊎_elim (λ q. absurd (p.2 xs (h ∙ ap (λ y. y ∷ xs) (eqb-true x b q)))) (λ q. cond-false _ _ _ q) (cases_Bool (eqb x b))

-- the end
pub ended_on : (s : Reader) (c : Circuit) → rest s ≡ [] → onward (finish c) s ≡ Ok (c, [])
unfolding onward read located
ended_on s c h = ap (λ r. located (text_of s) (read (finish c) r)) h

pub ended_stuck : (s : Reader) (e : TextFault) (c : Circuit) → (e ≡ unexpected_at s) × (rest s ≡ [] → ⊥) → onward (finish c) s ≡ Err e
unfolding onward read
ended_stuck s e c p = ap (located (text_of s)) (go (rest s) refl) ∙ fault_here s ∙ ap Err (sym p.0)
  where
    go : (r : List ℕ) → rest s ≡ r → read (finish c) r ≡ Err (unexpected r)
    go [] h = absurd (p.1 h)
    go (x ∷ xs) h = refl
