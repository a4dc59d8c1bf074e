-- A text that has passed the form check, and its circuit.
use Rattle.std.specs.Prelude.{ℕ, ◌-◌, Bool, false, ◌&&◌, List, [], drop, Ok, Err, Result, ◌==◌}
use Rattle.text_reader.specs.declared.place.Place.{Place}
use Rattle.text_reader.specs.declared.fault.TextFault.{TextFault}
use Rattle.text_grammar.specs.Circuits.{Circuit, Line, lines_of}
use Rattle.text_grammar.specs.Verdicts.{parsed}
use Rattle.circuit_text.specs.declared.form.Form.{Form}
use Rattle.circuit_text.specs.Forms.{checked}

-- whether the form check answers this form
abbrev pub same_form : Form → Form → Bool
same_form f g = f.qubits == g.qubits && (f.opens == g.opens && (f.steps == g.steps && f.reads == g.reads))

abbrev pub answers : Form → Result Form TextFault → Bool
answers form (Ok f) = same_form f form
answers form (Err e) = false

unfoldable pub passes : List ℕ → Form → Bool
passes text form = answers form (checked text)

-- the circuit of a circuit text, and of any other text one of nothing
abbrev pub or_nothing : Result Circuit TextFault → Circuit
or_nothing (Ok c) = c
or_nothing (Err e) = record { qubits = 0; opens = []; steps = []; reads = [] }

unfoldable pub circuit_in : List ℕ → Circuit
circuit_in text = or_nothing (parsed text)

-- the lines of a circuit text from a place on
unfoldable pub lines_from : List ℕ → Place → List Line
lines_from text place = drop (place.line - 1) (lines_of (circuit_in text))
