-- How a reader goes on by a syntax, and what the values that it reads stand for.
use Rattle.std.specs.Prelude.{◌≡◌, ℕ, ◌-◌, Bool, List, ◌++◌, length, replicate, Ok, Err, Option, Result}
use Rattle.std.specs.Option.{ok_or}
use Rattle.text_reader.specs.declared.reader.Reader.{Reader}
use Rattle.text_reader.specs.declared.fault.TextFault.{TextFault}
use Rattle.text_reader.specs.declared.fault.TextFault.TheVariants.{Unexpected}
use Rattle.text_reader.specs.declared.word.Word.{Word}
use Rattle.text_reader.specs.Reading.{text_of, rest, Lent}
use Rattle.text_words.specs.declared.spelling.CountRange.{CountRange}
use Rattle.exact.specs.Indices.{number}
use Rattle.text_grammar.specs.Circuits as circuit
use Rattle.text_grammar.specs.Syntaxes.{Syntax, read}
use Rattle.text_grammar.specs.Syntaxes as syntax
use Rattle.text_grammar.specs.Verdicts.{located}

-- what is read by a syntax from where a reader stands, or the fault
unfoldable pub onward : Syntax → Reader → Result syntax.Reading TextFault
onward p s = located (text_of s) (read p (rest s))

-- the reader t stands after a phrase that gave a, from s on
pub record Reached {A : Type 0} (phrase : (A → Syntax) → Syntax) (a : A) (s t : Reader) : Type 0 where
  pub same : text_of t ≡ text_of s
  pub goes : (k : A → Syntax) → onward (phrase k) s ≡ onward (k a) t

-- a phrase is read from s on: the reader is then t, and what is answered stands for the phrase's value; or the answer is the fault, whatever is wanted after
abbrev pub Follows : {A U : Type 0} → ((A → Syntax) → Syntax) → (U → A → Type 0) → Reader → Reader → Result U TextFault → Type 0
Follows {A = A} phrase Means s t (Ok u) = (a : A) × (Means u a × Reached phrase a s t)
Follows {A = A} phrase Means s t (Err e) = (k : A → Syntax) → onward (phrase k) s ≡ Err e

-- from s on a word is lent, and the reader then is t; what is told of its bytes is answered, and where nothing is told, that the word is the fault
pub record Told {U : Type 0} (Tells : List ℕ → Option U → Type 0) (s t : Reader) (r : Result U TextFault) : Type 0 where
  pub word : Word
  pub lent : Lent s t word
  pub told : Option U
  pub tells : Tells word.bytes.now told
  pub answer : r ≡ ok_or told (Unexpected word.byte word.place)

-- what answers stand for
abbrev pub Is : {A : Type 0} → A → A → Type 0
Is u a = u ≡ a

abbrev pub IsNothing : {A U : Type 0} → U → A → Type 0
IsNothing u a = Unit {0}

abbrev pub Counts : CountRange → ℕ → ℕ → Type 0
Counts r u n = (u ≡ n) × circuit.Within r u

abbrev pub Many : {A U : Type 0} → ℕ → U → List A → Type 0
Many total u xs = length xs ≡ total

abbrev pub IsIndex : ℕ → List Bool → Type 0
IsIndex u bits = u ≡ number bits

-- four places, of which those after the numbers are 0
abbrev pub IsNumbers : List ℕ → List ℕ → Type 0
IsNumbers places ns = places ≡ ns ++ replicate (4 - length ns) 0
