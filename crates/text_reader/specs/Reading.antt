-- What a reader's moves do.
use Rattle.std.specs.Prelude.{◌≡◌, ℕ, List, [], ◌∷◌, take, drop, Ok, Err, Some, None, Option, Result, ◌≢◌}
use Rattle.text_reader.specs.declared.place.Place.{Place}
use Rattle.text_reader.specs.declared.word.Word.{Word}
use Rattle.text_reader.specs.declared.reader.Reader.{Reader}
use Rattle.text_reader.specs.declared.fault.TextFault.{TextFault}
use Rattle.text_reader.specs.declared.fault.TextFault.TheVariants.{Unexpected}
use Rattle.text_reader.specs.Tokens.{first_word, past_word}
use Rattle.text_reader.specs.Places.{place_after}

-- the whole text, and what is left of it
unfoldable pub text_of : Reader → List ℕ
text_of s = s.text.now

unfoldable pub rest : Reader → List ℕ
rest s = drop s.pos s.text.now

-- the place where a reader stands
unfoldable pub standing : Reader → Place
standing s = place_after (take s.pos s.text.now)

-- the byte that a text begins with
abbrev pub first_byte : List ℕ → Option ℕ
first_byte [] = None
first_byte (b ∷ bs) = Some b

-- the fault of what stands where a reader is
abbrev pub unexpected_at : Reader → TextFault
unexpected_at s = Unexpected (first_byte (rest s)) (standing s)

-- from s on, the word w is lent, and the reader then is t
pub record Lent (s t : Reader) (w : Word) : Type 0 where
  pub same : text_of t ≡ text_of s
  pub bytes : w.bytes.now ≡ first_word (rest s)
  pub left : rest t ≡ past_word (rest s)
  pub byte : w.byte ≡ first_byte (rest s)
  pub place : w.place ≡ standing s

-- from s on, the byte is passed and the reader then is t; or it stays, and what stands there is not that byte
abbrev pub Passed : {U : Type 0} → ℕ → Reader → Reader → Result U TextFault → Type 0
Passed b s t (Ok u) = (text_of t ≡ text_of s) × (rest s ≡ b ∷ rest t)
Passed b s t (Err e) = (t ≡ s) × (e ≡ unexpected_at s) × ((more : List ℕ) → rest s ≢ b ∷ more)

-- nothing is left, or what is left is a fault
abbrev pub Ended : {U : Type 0} → Reader → Result U TextFault → Type 0
Ended s (Ok u) = rest s ≡ []
Ended s (Err e) = (e ≡ unexpected_at s) × (rest s ≢ [])
