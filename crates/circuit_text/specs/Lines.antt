-- The lines of a circuit text, one after another.
use Rattle.std.specs.Prelude.{◌≡◌, ℕ, List, [], ◌∷◌, ◌++◌, Some, None, Ok, Err, vec_items, Option, Result}
use Rattle.text_reader.specs.declared.fault.TextFault.{TextFault}
use Rattle.text_reader.specs.declared.reader.Reader.{Reader}
use Rattle.text_reader.specs.Reading.{text_of, rest, standing}
use Rattle.text_words.specs.Spelling.{range_of}
use Rattle.text_grammar.specs.Circuits as circuit
use Rattle.text_grammar.specs.Circuits.Line.{section, opening, step, question}
use Rattle.text_grammar.specs.Verdicts.{Accepted}
use Rattle.text_phrases.specs.Values.{IsOpening, IsStep, IsQuestion}
use Rattle.circuit_text.specs.declared.line.Content.{Content}
use Rattle.circuit_text.specs.declared.line.Content.TheVariants.{Section as SectionLine, Opening as OpeningLine, Step as StepLine, Question as QuestionLine}
use Rattle.circuit_text.specs.declared.line.Line.{Line}
use Rattle.circuit_text.specs.declared.lines.Lines.{Lines}
use Rattle.circuit_text.specs.declared.text.CircuitText.{CircuitText}
use Rattle.circuit_text.specs.Forms.{checked}
use Rattle.circuit_text.specs.Texts.{circuit_in, lines_from}

-- what a line's content stands for
abbrev pub IsContent : Content → circuit.Line → Type 0
IsContent (SectionLine s n) x = x ≡ section s n
IsContent (OpeningLine u) x = (o : circuit.Opening) × ((x ≡ opening o) × IsOpening u o)
IsContent (StepLine u) x = (s : circuit.Step) × ((x ≡ step s) × IsStep u s)
IsContent (QuestionLine u) x = (q : circuit.Question) × ((x ≡ question q) × IsQuestion u q)

-- a line of a circuit of n qubits that is in range
unfoldable pub FitsLine : ℕ → circuit.Line → Type 0
FitsLine n (section s total) = circuit.Within (range_of s) total
FitsLine n (opening o) = circuit.FitsOpening n o
FitsLine n (step s) = circuit.FitsStep s
FitsLine n (question q) = circuit.FitsQuestion n q

-- a reader stands before such a line, and after it this is left
pub record BeforeLine (n : ℕ) (s : Reader) : Type 0 where
  pub line : circuit.Line
  pub more : List ℕ
  pub fits : FitsLine n line
  pub text : rest s ≡ circuit.line_bytes line ++ more

-- the content of the line before which the reader s stands is read, and the reader then is t
pub record ContentRead (s t : Reader) (before : circuit.Line) (more : List ℕ) (content : Content) : Type 0 where
  pub same : text_of t ≡ text_of s
  pub left : rest t ≡ more
  pub means : IsContent content before

-- the lines that are still to come
abbrev pub to_come : Lines → List circuit.Line
to_come s = lines_from (text_of s.reader) (standing s.reader)

-- the next line is given with its number and its bytes, or there is none
pub record LineGiven (s t : Lines) (given : Line) : Type 0 where
  pub same : text_of t.reader ≡ text_of s.reader
  pub line : circuit.Line
  pub next : to_come s ≡ line ∷ to_come t
  pub means : IsContent given.content line
  pub bytes : circuit.line_bytes line ≡ given.bytes.now ++ (10 ∷ [])
  pub number : given.number ≡ (standing s.reader).line

abbrev pub Next : Lines → Lines → Option Line → Type 0
Next s t (Some given) = LineGiven s t given
Next s t None = (to_come s ≡ []) × (t ≡ s)

-- all lines of the circuit whose text it is are still to come
pub record AllToCome (text : List ℕ) (s : Lines) : Type 0 where
  pub same : text_of s.reader ≡ text
  pub circuit_of_text : Accepted text (circuit_in text)
  pub all : to_come s ≡ circuit.lines_of (circuit_in text)

-- a text that passes the form check is kept with its form, and any other is answered by its fault
abbrev pub Kept : List ℕ → Result CircuitText TextFault → Type 0
Kept text (Ok t) = (vec_items t.bytes ≡ text) × (checked text ≡ Ok t.form)
Kept text (Err e) = checked text ≡ Err e
