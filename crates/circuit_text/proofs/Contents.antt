-- The kinds of lines, and what each says where it is read.
use Rattle.std.proofs.Common.{◌≡◌, ℕ, List, [], ◌∷◌, sym, refl, ap, ◌∙◌}
use Rattle.text_reader.specs.declared.reader.Reader.{Reader}
use Rattle.text_words.specs.declared.spelling.Section.{Section}
use Rattle.text_words.specs.Spelling.{range_of}
use Rattle.text_grammar.specs.Circuits as circuit
use Rattle.text_grammar.specs.Circuits.{Circuit, line_bytes}
use Rattle.text_grammar.specs.Circuits.Line.{section, opening, step, question}
use Rattle.text_grammar.proofs.Circuit.{ranges_writable}
use Rattle.text_grammar.proofs.Phrases.{section_reads, opening_reads, step_reads, question_reads}
use Rattle.text_phrases.specs.declared.values.Opening.{Opening}
use Rattle.text_phrases.specs.declared.values.Step.{Step}
use Rattle.text_phrases.specs.declared.values.Question.{Question}
use Rattle.text_fields.specs.Reading.{Counts}
use Rattle.text_phrases.specs.Values.{IsOpening, IsStep, IsQuestion}
use Rattle.circuit_text.specs.declared.line.Content.TheVariants.{Section as SectionLine, Opening as OpeningLine, Step as StepLine, Question as QuestionLine}
use Rattle.circuit_text.specs.Lines.{FitsLine, ContentRead}
use Rattle.circuit_text.proofs.Heads.{line_kind}
use Rattle.circuit_text.proofs.Heads.Kind.{SectionKind, StepKind, QuestionKind, OpeningKind}
use Rattle.circuit_text.proofs.Taken.{Kindred, Taken}

-- a line of each kind
pub section_line_is : (s : Section) (x : circuit.Line) → line_kind x ≡ SectionKind s → (n : ℕ) × (x ≡ section s n)
unfolding line_kind
section_line_is s (section named n) e = let q : named ≡ s = cc in (n, ap (λ y. section y n) q)
section_line_is s (opening o) e = cc
section_line_is s (step t) e = cc
section_line_is s (question q) e = cc

pub opening_line_is : (x : circuit.Line) → line_kind x ≡ OpeningKind → (o : circuit.Opening) × (x ≡ opening o)
unfolding line_kind
opening_line_is (section named n) e = cc
opening_line_is (opening o) e = (o, refl)
opening_line_is (step t) e = cc
opening_line_is (question q) e = cc

pub step_line_is : (x : circuit.Line) → line_kind x ≡ StepKind → (s : circuit.Step) × (x ≡ step s)
unfolding line_kind
step_line_is (section named n) e = cc
step_line_is (opening o) e = cc
step_line_is (step t) e = (t, refl)
step_line_is (question q) e = cc

pub question_line_is : (x : circuit.Line) → line_kind x ≡ QuestionKind → (q : circuit.Question) × (x ≡ question q)
unfolding line_kind
question_line_is (section named n) e = cc
question_line_is (opening o) e = cc
question_line_is (step t) e = cc
question_line_is (question q) e = (q, refl)

-- a circuit that holds one value
pub with_count : ℕ → Circuit
with_count n = record { qubits = n; opens = []; steps = []; reads = [] }

pub with_opening : circuit.Opening → Circuit
with_opening o = record { qubits = 0; opens = o ∷ []; steps = []; reads = [] }

pub with_step : circuit.Step → Circuit
with_step s = record { qubits = 0; opens = []; steps = s ∷ []; reads = [] }

pub with_question : circuit.Question → Circuit
with_question q = record { qubits = 0; opens = []; steps = []; reads = q ∷ [] }

pub told_count : (a b : ℕ) → with_count a ≡ with_count b → a ≡ b
unfolding with_count
told_count a b e = ap (λ (c : Circuit). c.qubits) e

pub told_opening : (a b : circuit.Opening) → with_opening a ≡ with_opening b → a ≡ b
unfolding with_opening
told_opening a b e = let l : a ∷ [] ≡ b ∷ [] = ap (λ (c : Circuit). c.opens) e in cc

pub told_step : (a b : circuit.Step) → with_step a ≡ with_step b → a ≡ b
unfolding with_step
told_step a b e = let l : a ∷ [] ≡ b ∷ [] = ap (λ (c : Circuit). c.steps) e in cc

pub told_question : (a b : circuit.Question) → with_question a ≡ with_question b → a ≡ b
unfolding with_question
told_question a b e = let l : a ∷ [] ≡ b ∷ [] = ap (λ (c : Circuit). c.reads) e in cc

-- the four kinds
unfoldable pub sections : (n : ℕ) (named : Section) → Kindred n (SectionKind named) ℕ ℕ
unfolding line_bytes FitsLine
sections n named = record {
  phrase = _;
  spell = _;
  Fine = _;
  faithful = section_reads (range_of named) named (ranges_writable named);
  Means = Counts (range_of named);
  line = section named;
  line_is = section_line_is named;
  bytes = λ a. refl;
  fine = λ a f. f;
  just = with_count;
  told = told_count;
}

unfoldable pub openings : (n : ℕ) → Kindred n OpeningKind circuit.Opening Opening
unfolding line_bytes FitsLine
openings n = record {
  phrase = _;
  spell = _;
  Fine = _;
  faithful = opening_reads n;
  Means = IsOpening;
  line = opening;
  line_is = opening_line_is;
  bytes = λ a. refl;
  fine = λ a f. f;
  just = with_opening;
  told = told_opening;
}

unfoldable pub steps : (n : ℕ) → Kindred n StepKind circuit.Step Step
unfolding line_bytes FitsLine
steps n = record {
  phrase = _;
  spell = _;
  Fine = _;
  faithful = step_reads;
  Means = IsStep;
  line = step;
  line_is = step_line_is;
  bytes = λ a. refl;
  fine = λ a f. f;
  just = with_step;
  told = told_step;
}

unfoldable pub questions : (n : ℕ) → Kindred n QuestionKind circuit.Question Question
unfolding line_bytes FitsLine
questions n = record {
  phrase = _;
  spell = _;
  Fine = _;
  faithful = question_reads n;
  Means = IsQuestion;
  line = question;
  line_is = question_line_is;
  bytes = λ a. refl;
  fine = λ a f. f;
  just = with_question;
  told = told_question;
}

-- what was read of each is its content
module _ {before : circuit.Line} {more : List ℕ} {s t : Reader} where
  pub section_content : (named : Section) (u : ℕ) → Taken (Counts (range_of named)) (section named) before more s t u → ContentRead s t before more (SectionLine named u)
  section_content named u r = record { same = r.same; left = r.left; means = r.is ∙ ap (section named) (sym r.means.0) }

  pub opening_content : (u : Opening) → Taken IsOpening opening before more s t u → ContentRead s t before more (OpeningLine u)
  opening_content u r = record { same = r.same; left = r.left; means = (r.value, (r.is, r.means)) }

  pub step_content : (u : Step) → Taken IsStep step before more s t u → ContentRead s t before more (StepLine u)
  step_content u r = record { same = r.same; left = r.left; means = (r.value, (r.is, r.means)) }

  pub question_content : (u : Question) → Taken IsQuestion question before more s t u → ContentRead s t before more (QuestionLine u)
  question_content u r = record { same = r.same; left = r.left; means = (r.value, (r.is, r.means)) }
