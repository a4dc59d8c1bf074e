-- How sections, steps and questions are spelled, and what a word names.
use Rattle.std.specs.Prelude.{ℕ, suc, ◌+◌, Bool, cond, ◌&&◌, List, [], ◌∷◌, length, Some, None, codes, Option, ◌==◌, slice_index}
use Rattle.gates.specs.declared.Gate.{Gate as GateName}
use Rattle.gates.specs.declared.Gate.TheVariants.{X, Z, H, S, T, Rx, Ry, Cx, Cz, Ccx}
use Rattle.gates.specs.Arity.{qubits_of}
use Rattle.text_words.specs.declared.spelling.Section.{Section}
use Rattle.text_words.specs.declared.spelling.Section.TheVariants.{Qubits, Opens, Steps, Reads}
use Rattle.text_words.specs.declared.spelling.CountRange.{CountRange}
use Rattle.text_words.specs.declared.spelling.StepWord.{StepWord}
use Rattle.text_words.specs.declared.spelling.StepWord.TheVariants.{Gate, Copy, Close}
use Rattle.text_words.specs.declared.spelling.QuestionWord.{QuestionWord}
use Rattle.text_words.specs.declared.spelling.QuestionWord.TheVariants.{Amp, Weight, Same}

abbrev pub section_word : Section → List ℕ
section_word Qubits = codes "qubits"
section_word Opens = codes "opens"
section_word Steps = codes "steps"
section_word Reads = codes "reads"

abbrev pub gate_word : GateName → List ℕ
gate_word X = codes "x"
gate_word Z = codes "z"
gate_word H = codes "h"
gate_word S = codes "s"
gate_word T = codes "t"
gate_word Rx = codes "rx"
gate_word Ry = codes "ry"
gate_word Cx = codes "cx"
gate_word Cz = codes "cz"
gate_word Ccx = codes "ccx"

abbrev pub step_word : StepWord → List ℕ
step_word (Gate g) = gate_word g
step_word Copy = codes "copy"
step_word Close = codes "close"

abbrev pub question_word : QuestionWord → List ℕ
question_word Amp = codes "amp"
question_word Weight = codes "weight"
question_word Same = codes "same"

-- how many numbers follow: a gate's register and qubits, the two registers of a copy, the one of a close
abbrev pub numbers_of : StepWord → ℕ
numbers_of (Gate g) = 1 + qubits_of g
numbers_of Copy = 2
numbers_of Close = 1

-- the counts that a section may have
abbrev pub range_of : Section → CountRange
range_of Qubits = record { least = 1; most = 16 }
range_of Opens = record { least = 0; most = 4 }
range_of Steps = record { least = 0; most = 2000 }
range_of Reads = record { least = 0; most = 100 }

-- whether a word has exactly these bytes from its i-th on
abbrev pub has : List ℕ → ℕ → List ℕ → Bool
has w i [] = length w == i
has w i (b ∷ bs) = slice_index w i == b && has w (suc i) bs

-- the first of some names that a word spells
abbrev pub named : {A : Type 0} → (A → List ℕ) → List A → List ℕ → Option A
named spelling [] w = None
named spelling (a ∷ as') w = cond (has w 0 (spelling a)) (Some a) (named spelling as' w)

abbrev pub sections : List Section
sections = Qubits ∷ Opens ∷ Steps ∷ Reads ∷ []

abbrev pub steps : List StepWord
steps = Gate X ∷ Gate Z ∷ Gate H ∷ Gate S ∷ Gate T ∷ Gate Rx ∷ Gate Ry ∷ Gate Cx ∷ Gate Cz ∷ Gate Ccx ∷ Copy ∷ Close ∷ []

abbrev pub questions : List QuestionWord
questions = Amp ∷ Weight ∷ Same ∷ []

abbrev pub section_of : List ℕ → Option Section
section_of w = named section_word sections w

abbrev pub step_of : List ℕ → Option StepWord
step_of w = named step_word steps w

abbrev pub question_of : List ℕ → Option QuestionWord
question_of w = named question_word questions w
