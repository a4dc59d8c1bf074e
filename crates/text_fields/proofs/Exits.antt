-- The ways out of a function that reads a phrase.
use Rattle.std.proofs.Common.{◌≡◌, ℕ, List, IsErrAnd, Some, None, Ok, Err, Option, Result, MatchOption, sym, refl, ap, ◌∙◌, subst}
use Rattle.std.specs.Option.{ok_or}
use Rattle.text_reader.specs.declared.reader.Reader.{Reader}
use Rattle.text_reader.specs.declared.fault.TextFault.{TextFault}
use Rattle.text_reader.specs.declared.fault.TextFault.TheVariants.{Unexpected}
use Rattle.text_grammar.specs.Syntaxes.{Syntax, Verdict}
use Rattle.text_grammar.specs.Syntaxes.Syntax.{word}
use Rattle.text_grammar.specs.Syntaxes.Verdict.{fits, wrong}
use Rattle.text_fields.specs.Reading.{onward, Reached, Follows, Told}
use Rattle.text_fields.proofs.Moves.{reached_word, stuck_word}
use Rattle.text_reader.specs.Reading.{text_of}

-- a fault on the way is handed on
pub follows_stuck : {A U : Type 0} (phrase : (A → Syntax) → Syntax) (Means : U → A → Type 0) (s t : Reader) (r : Result U TextFault) (e : TextFault) → IsErrAnd r (λ y. y ≡ e) → ((k : A → Syntax) → onward (phrase k) s ≡ Err e) → Follows phrase Means s t r
follows_stuck phrase Means s t (Ok u) e q h = absurd q
follows_stuck phrase Means s t (Err y) e q h = λ k. h k ∙ ap Err (sym q)

-- the last part's answer is the whole's
pub follows_then : {A U : Type 0} (phrase inner : (A → Syntax) → Syntax) (Means : U → A → Type 0) (s t u : Reader) (r : Result U TextFault) → text_of t ≡ text_of s → ((k : A → Syntax) → onward (phrase k) s ≡ onward (inner k) t) → Follows inner Means t u r → Follows phrase Means s u r
follows_then phrase inner Means s t u (Ok a) e h f = (f.0, (f.1.0, record { same = f.1.1.same ∙ e; goes = λ k. h k ∙ f.1.1.goes k }))
follows_then phrase inner Means s t u (Err y) e h f = λ k. h k ∙ f k

-- an answer that is the phrase's value
pub exact : {A : Type 0} (phrase : (A → Syntax) → Syntax) (s t : Reader) (u a : A) → u ≡ a → Reached phrase a s t → Reached phrase u s t
exact phrase s t u a e r = subst (λ x. Reached phrase x s t) (sym e) r

-- of a word it is told whether it fits, and with which value
abbrev pub Judges : {A U : Type 0} → (List ℕ → Verdict) → (List ℕ → A) → (U → A → Type 0) → List ℕ → Option U → Type 0
Judges v value Means w o = MatchOption o (v w ≡ wrong) (λ u. (v w ≡ fits) × Means u (value w))

-- a word that is told is a phrase of its own
pub follows_told : {A U : Type 0} (v : List ℕ → Verdict) (value : List ℕ → A) (Means : U → A → Type 0) {Tells : List ℕ → Option U → Type 0} {s t : Reader} {r : Result U TextFault} → Told Tells s t r → ((w : List ℕ) (o : Option U) → Tells w o → Judges v value Means w o) → Follows (λ k. word v (λ b. k (value b))) Means s t r
follows_told {A = A} {U = U} v value Means {s = s} {t = t} {r = r} h judged = go h.told r h.answer (judged h.word.bytes.now h.told h.tells)
  where
    go : (o : Option U) (q : Result U TextFault) → q ≡ ok_or o (Unexpected h.word.byte h.word.place) → Judges v value Means h.word.bytes.now o → Follows (λ k. word v (λ b. k (value b))) Means s t q
    go (Some u) (Ok a) e j = (value h.word.bytes.now, ((let q : a ≡ u = cc in subst (λ x. Means x (value h.word.bytes.now)) (sym q) j.1), reached_word h.lent v value _ j.0 refl))
    go (Some u) (Err a) e j = cc
    go None (Ok a) e j = cc
    go None (Err a) e j = λ k. stuck_word h.lent v (λ b. k (value b)) a j (let q : a ≡ Unexpected h.word.byte h.word.place = cc in q)
