-- A circuit as a value, its lines, its one text, and which circuits are in range.
use Rattle.std.specs.Prelude.{◌≡◌, ℕ, ◌≤◌, Bool, List, [], ◌∷◌, ◌++◌, map, length, decimal}
use Rattle.exact.specs.Indices.{Index}
use Rattle.std.specs.List.{flat_map, AllByRecursion}
use Rattle.text_words.specs.declared.spelling.Section.{Section}
use Rattle.text_words.specs.declared.spelling.Section.TheVariants.{Qubits, Opens, Steps, Reads}
use Rattle.text_words.specs.declared.spelling.CountRange.{CountRange}
use Rattle.text_words.specs.declared.spelling.StepWord.{StepWord}
use Rattle.text_words.specs.declared.spelling.QuestionWord.TheVariants.{Amp, Weight, Same}
use Rattle.text_words.specs.Spelling.{section_word, step_word, question_word, numbers_of, range_of}
use Rattle.text_numbers.specs.Numbers.{Small, bit_byte, index_word}

-- a register to be opened at a basis index, whose bits begin with qubit 0
pub record Opening : Type 0 where
  pub register : ℕ
  pub index : Index

-- a step, and the numbers after its word: a gate's register and qubits, controls first; a copy's source and target; a close's register
pub record Step : Type 0 where
  pub name : StepWord
  pub numbers : List ℕ

-- of a register: the amplitude at a basis index; the weight of a qubit's outcome; whether it is the same as another
pub data Question : Type 0 where
  amp : ℕ → Index → Question
  weight : ℕ → ℕ → Bool → Question
  same : ℕ → ℕ → Question

pub record Circuit : Type 0 where
  pub qubits : ℕ
  pub opens : List Opening
  pub steps : List Step
  pub reads : List Question

-- a line: its first word, each further word after one space, and the line end
unfoldable pub line_tail : List (List ℕ) → List ℕ
line_tail [] = 10 ∷ []
line_tail (w ∷ ws) = 32 ∷ (w ++ line_tail ws)

abbrev pub line_text : List ℕ → List (List ℕ) → List ℕ
line_text w ws = w ++ line_tail ws

unfoldable pub section_line : Section → ℕ → List ℕ
section_line s n = line_text (section_word s) (decimal n ∷ [])

unfoldable pub opening_line : Opening → List ℕ
opening_line o = line_text (decimal o.register) (index_word o.index ∷ [])

unfoldable pub step_line : Step → List ℕ
step_line s = line_text (step_word s.name) (map decimal s.numbers)

unfoldable pub question_line : Question → List ℕ
question_line (amp r bits) = line_text (question_word Amp) (decimal r ∷ index_word bits ∷ [])
question_line (weight r q b) = line_text (question_word Weight) (decimal r ∷ decimal q ∷ (bit_byte b ∷ []) ∷ [])
question_line (same r q) = line_text (question_word Same) (decimal r ∷ decimal q ∷ [])

-- the lines of a circuit: each section's word and count, and then what it has
pub data Line : Type 0 where
  section : Section → ℕ → Line
  opening : Opening → Line
  step : Step → Line
  question : Question → Line

unfoldable pub line_bytes : Line → List ℕ
line_bytes (section s n) = section_line s n
line_bytes (opening o) = opening_line o
line_bytes (step s) = step_line s
line_bytes (question q) = question_line q

unfoldable pub lines_of : Circuit → List Line
lines_of c =
    section Qubits c.qubits
    ∷ section Opens (length c.opens)
    ∷ (map opening c.opens
    ++ (section Steps (length c.steps)
    ∷ (map step c.steps
    ++ (section Reads (length c.reads)
    ∷ map question c.reads))))

-- the text of a circuit
unfoldable pub written : Circuit → List ℕ
written c = flat_map line_bytes (lines_of c)

-- which counts a grammar lets its sections have: those of circuit text, or any of at most five digits
abbrev pub Ranges : Type 0
Ranges = Section → CountRange

abbrev pub any_count : Ranges
any_count s = record { least = 0; most = 99999 }

abbrev pub Within : CountRange → ℕ → Type 0
Within r n = (r.least ≤ n) × (n ≤ r.most)

abbrev pub FitsOpening : ℕ → Opening → Type 0
FitsOpening n o = Small o.register × (length o.index ≡ n)

abbrev pub FitsStep : Step → Type 0
FitsStep s = (length s.numbers ≡ numbers_of s.name) × AllByRecursion Small s.numbers

unfoldable pub FitsQuestion : ℕ → Question → Type 0
FitsQuestion n (amp r bits) = Small r × (length bits ≡ n)
FitsQuestion n (weight r q b) = Small r × Small q
FitsQuestion n (same r q) = Small r × Small q

-- a circuit in range: numbers have at most five digits, and indices a bit for each qubit
pub record InRanges (ranges : Ranges) (c : Circuit) : Type 0 where
  pub qubits_within : Within (ranges Qubits) c.qubits
  pub opens_within : Within (ranges Opens) (length c.opens)
  pub steps_within : Within (ranges Steps) (length c.steps)
  pub reads_within : Within (ranges Reads) (length c.reads)
  pub opens_fit : AllByRecursion (FitsOpening c.qubits) c.opens
  pub steps_fit : AllByRecursion FitsStep c.steps
  pub reads_fit : AllByRecursion (FitsQuestion c.qubits) c.reads

abbrev pub InRange : Circuit → Type 0
InRange c = InRanges range_of c

-- a grammar has a text exactly if it is that of some circuit in its ranges
abbrev pub TextWithin : Ranges → List ℕ → Type 0
TextWithin ranges t = (c : Circuit) × InRanges ranges c × (t ≡ written c)

abbrev pub IsCircuitText : List ℕ → Type 0
IsCircuitText t = TextWithin range_of t
