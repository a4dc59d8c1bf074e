-- The circuit or the fault of a text, and what each says in the words of the grammar.
use Rattle.std.specs.Prelude.{◌≡◌, ℕ, ◌-◌, ◌<◌, ◌≤◌, cond, List, ◌++◌, length, take, Ok, Err, decimal, Option, Result, nat_lt}
use Rattle.text_reader.specs.declared.place.Place.{Place}
use Rattle.text_reader.specs.declared.fault.TextFault.{TextFault}
use Rattle.text_reader.specs.declared.fault.TextFault.TheVariants.{TooLong, Unexpected, OutOfRange}
use Rattle.text_reader.specs.Tokens.{token}
use Rattle.text_reader.specs.Places.{place_after}
use Rattle.text_reader.specs.Reading.{first_byte}
use Rattle.text_grammar.specs.Circuits.{Circuit, InRange, IsCircuitText, TextWithin, any_count, written}
use Rattle.text_grammar.specs.Syntaxes.{Reading, Stop, read, circuit}
use Rattle.text_grammar.specs.Syntaxes.Stop.{unexpected, out_of_range}

-- the place in a text where this is left of it
unfoldable pub place_at : List ℕ → List ℕ → Place
place_at text rest = place_after (take (length text - length rest) text)

unfoldable pub located : List ℕ → Result Reading Stop → Result Reading TextFault
located text (Ok r) = Ok r
located text (Err (unexpected rest)) = Err (Unexpected (first_byte rest) (place_at text rest))
located text (Err (out_of_range n rest)) = Err (OutOfRange n (place_at text rest))

abbrev pub circuit_read : Result Reading TextFault → Result Circuit TextFault
circuit_read (Ok r) = Ok r.0
circuit_read (Err e) = Err e

-- the circuit whose text this is, or the text's first fault
unfoldable pub parsed : List ℕ → Result Circuit TextFault
parsed text = cond (nat_lt 16384 (length text)) (Err (TooLong (length text))) (circuit_read (located text (read circuit text)))

-- at a place of a text: what stands before it can go on to a circuit text, and with the token that stands there it cannot
pub record Misfit (text : List ℕ) (place : Place) (rest : List ℕ) : Type 0 where
  pub before : List ℕ
  pub whole : text ≡ before ++ rest
  pub here : place ≡ place_after before
  pub can : (more : List ℕ) × IsCircuitText (before ++ more)
  pub cannot : (more : List ℕ) → token more ≡ token rest → IsCircuitText (before ++ more) → ⊥

-- the token at a place, which begins with this byte or is the end, fits in no text, whatever counts the sections may have
pub record NoSuchToken (text : List ℕ) (byte : Option ℕ) (place : Place) : Type 0 where
  pub rest : List ℕ
  pub begins : byte ≡ first_byte rest
  pub misfit : Misfit text place rest
  pub whatever_counts : (more : List ℕ) → token more ≡ token rest → TextWithin any_count (misfit.before ++ more) → ⊥

-- the token at a place is this count, and it would fit if sections might have any count
pub record CountOutOfRange (text : List ℕ) (count : ℕ) (place : Place) : Type 0 where
  pub rest : List ℕ
  pub there : token rest ≡ decimal count
  pub misfit : Misfit text place rest
  pub with_any_count : (more : List ℕ) × ((token more ≡ token rest) × TextWithin any_count (misfit.before ++ more))

-- what a fault says
abbrev pub FaultSays : List ℕ → TextFault → Type 0
FaultSays text (TooLong n) = (n ≡ length text) × (16384 < n)
FaultSays text (Unexpected b place) = NoSuchToken text b place
FaultSays text (OutOfRange n place) = CountOutOfRange text n place

-- a text is refused: no circuit text of at most 16,384 bytes is, and the fault is true of it
pub record Refused (text : List ℕ) (fault : TextFault) : Type 0 where
  pub no_text : IsCircuitText text → 16384 < length text
  pub says : FaultSays text fault

-- a text is accepted: it is short enough, and the text of this circuit in range and of no other
pub record Accepted (text : List ℕ) (c : Circuit) : Type 0 where
  pub short : length text ≤ 16384
  pub in_range : InRange c
  pub text_of_it : text ≡ written c
  pub only : (d : Circuit) → InRange d → text ≡ written d → d ≡ c

abbrev pub Right : List ℕ → Result Circuit TextFault → Type 0
Right text (Ok c) = Accepted text c
Right text (Err e) = Refused text e
