-- The number, value and place of each fault of a text.
use Rattle.std.specs.Prelude.{ℕ, List, ◌∷◌, ◌++◌, codes, decimal}
use Rattle.std.specs.Option.{unwrap_or}
use Rattle.text_reader.specs.declared.place.Place.{Place}
use Rattle.text_reader.specs.Places.{place_text}
use Rattle.text_reader.specs.declared.fault.TextFault.{TextFault}
use Rattle.text_reader.specs.declared.fault.TextFault.TheVariants.{TooLong, Unexpected, OutOfRange}

abbrev pub number_of : TextFault → ℕ
number_of (TooLong length) = 12
number_of (Unexpected byte place) = 13
number_of (OutOfRange count place) = 14

abbrev pub value_of : TextFault → ℕ
value_of (TooLong length) = length
value_of (Unexpected byte place) = unwrap_or byte 0
value_of (OutOfRange count place) = count

abbrev pub place_of : TextFault → Place
place_of (TooLong length) = record { line = 1; column = 1 }
place_of (Unexpected byte place) = place
place_of (OutOfRange count place) = place

-- a fault as it is printed: its number and its place
abbrev pub refusal_text : TextFault → List ℕ
refusal_text e = codes "refused " ++ (decimal (number_of e) ++ (32 ∷ place_text (place_of e)))
