-- The answer of the form check.
use Rattle.std.specs.Prelude.{◌≡◌, ℕ, List, length, Ok, Err, Result}
use Rattle.text_reader.specs.declared.fault.TextFault.{TextFault}
use Rattle.text_grammar.specs.Circuits.{Circuit}
use Rattle.text_grammar.specs.Syntaxes.{Reading}
use Rattle.text_grammar.specs.Verdicts.{circuit_read, parsed, Accepted, Refused}
use Rattle.circuit_text.specs.declared.form.Form.{Form}

-- the counts of a circuit
abbrev pub form_of : Circuit → Form
form_of c = record { qubits = c.qubits; opens = length c.opens; steps = length c.steps; reads = length c.reads }

abbrev pub with_form : Result Circuit TextFault → Result Form TextFault
with_form (Ok c) = Ok (form_of c)
with_form (Err e) = Err e

abbrev pub form_read : Result Reading TextFault → Result Form TextFault
form_read r = with_form (circuit_read r)

-- the form of a text, or its fault
unfoldable pub checked : List ℕ → Result Form TextFault
checked text = with_form (parsed text)

-- what the answer says: the form is that of the circuit whose text it is, or the text is refused
abbrev pub FormVerdict : List ℕ → Result Form TextFault → Type 0
FormVerdict text (Ok form) = (c : Circuit) × (Accepted text c × (form ≡ form_of c))
FormVerdict text (Err fault) = Refused text fault
