-- What the grammar wants in turn, and how a text is read by it.
use Rattle.std.specs.Prelude.{ℕ, zero, suc, Bool, cond, ◌&&◌, List, [], ◌∷◌, Some, None, Ok, Err, Option, Result, ◌==◌, nat_le, slice_index}
use Rattle.text_reader.specs.Tokens.{first_word, past_word}
use Rattle.text_words.specs.declared.spelling.Section.{Section}
use Rattle.text_words.specs.declared.spelling.Section.TheVariants.{Qubits, Opens, Steps, Reads}
use Rattle.text_words.specs.declared.spelling.CountRange.{CountRange}
use Rattle.text_words.specs.declared.spelling.StepWord.{StepWord}
use Rattle.text_words.specs.declared.spelling.StepWord.TheVariants.{Close}
use Rattle.text_words.specs.declared.spelling.QuestionWord.{QuestionWord}
use Rattle.text_words.specs.declared.spelling.QuestionWord.TheVariants.{Amp, Weight, Same}
use Rattle.text_words.specs.Spelling.{has, section_word, step_of, question_of, numbers_of, range_of}
use Rattle.text_numbers.specs.Numbers.{number_of, is_index, bits_of}
use Rattle.text_grammar.specs.Circuits.{Circuit, Opening, Step, Question, Ranges}
use Rattle.text_grammar.specs.Circuits.Question.{amp, weight, same}

-- of a word: it fits; the grammar has no such word there; it is a count out of range
pub data Verdict : Type 0 where
  fits : Verdict
  wrong : Verdict
  beyond : ℕ → Verdict

-- what is wanted next: nothing more, the end, a space or line end, or a word; after the last, what was read is a circuit
pub data Syntax : Type 0 where
  done : Circuit → Syntax
  finish : Circuit → Syntax
  byte : ℕ → Syntax → Syntax
  word : (List ℕ → Verdict) → (List ℕ → Syntax) → Syntax

-- where reading stops, with the text from there on
pub data Stop : Type 0 where
  unexpected : List ℕ → Stop
  out_of_range : ℕ → List ℕ → Stop

-- what was read, and what is left of the text
abbrev pub Reading : Type 0
Reading = Circuit × List ℕ

unfoldable pub judged : Verdict → List ℕ → Result Reading Stop → Result Reading Stop
judged fits t r = r
judged wrong t r = Err (unexpected t)
judged (beyond n) t r = Err (out_of_range n t)

unfoldable pub read : Syntax → List ℕ → Result Reading Stop
read (done c) t = Ok (c, t)
read (finish c) [] = Ok (c, [])
read (finish c) (b ∷ bs) = Err (unexpected (b ∷ bs))
read (byte x p) [] = Err (unexpected [])
read (byte x p) (b ∷ bs) = cond (b == x) (read p bs) (Err (unexpected (b ∷ bs)))
read (word v next) t = judged (v (first_word t)) t (read (next (first_word t)) (past_word t))

abbrev pub when : Bool → Verdict
when b = cond b fits wrong

abbrev pub fitting : {A : Type 0} → Option A → Verdict
fitting (Some a) = fits
fitting None = wrong

abbrev pub ranged : CountRange → Option ℕ → Verdict
ranged r (Some n) = cond (nat_le r.least n && nat_le n r.most) fits (beyond n)
ranged r None = wrong

abbrev pub otherwise : {A : Type 0} → A → Option A → A
otherwise d (Some a) = a
otherwise d None = d

-- phrases: each is given what is wanted after it, of the value that it reads
abbrev pub space : Syntax → Syntax
space k = byte 32 k

abbrev pub line_end : Syntax → Syntax
line_end k = byte 10 k

-- a word of which a value is told; any value stands for what is told of a wrong word, after which nothing is read
unfoldable pub telling : {A : Type 0} → (List ℕ → Option A) → A → (A → Syntax) → Syntax
telling told any k = word (λ w. fitting (told w)) (λ w. k (otherwise any (told w)))

unfoldable pub number : (ℕ → Syntax) → Syntax
number k = telling number_of 0 k

unfoldable pub count : CountRange → (ℕ → Syntax) → Syntax
count r k = word (λ w. ranged r (number_of w)) (λ w. k (otherwise 0 (number_of w)))

unfoldable pub section_name : Section → (Unit {0} → Syntax) → Syntax
section_name s k = word (λ w. when (has w 0 (section_word s))) (λ w. k tt)

unfoldable pub index : ℕ → (List Bool → Syntax) → Syntax
index n k = word (λ w. when (is_index n w)) (λ w. k (bits_of w))

unfoldable pub bit : (Bool → Syntax) → Syntax
bit k = word (λ w. when (is_index 1 w)) (λ w. k (slice_index w 0 == 49))

unfoldable pub step_name : (StepWord → Syntax) → Syntax
step_name k = telling step_of Close k

unfoldable pub question_name : (QuestionWord → Syntax) → Syntax
question_name k = telling question_of Same k

-- several of one kind
unfoldable pub several : {A : Type 0} → ((A → Syntax) → Syntax) → ℕ → (List A → Syntax) → Syntax
several phrase zero k = k []
several phrase (suc m) k = phrase (λ a. several phrase m (λ more. k (a ∷ more)))

unfoldable pub spaced_number : (ℕ → Syntax) → Syntax
spaced_number k = space (number k)

unfoldable pub opening : ℕ → (Opening → Syntax) → Syntax
opening n k = number (λ r. space (index n (λ bits. line_end (k (record { register = r; index = bits })))))

unfoldable pub step : (Step → Syntax) → Syntax
step k = step_name (λ s. several spaced_number (numbers_of s) (λ ns. line_end (k (record { name = s; numbers = ns }))))

unfoldable pub amp_tail : ℕ → (Question → Syntax) → Syntax
amp_tail n k = spaced_number (λ r. space (index n (λ bits. line_end (k (amp r bits)))))

unfoldable pub weight_tail : (Question → Syntax) → Syntax
weight_tail k = spaced_number (λ r. spaced_number (λ q. space (bit (λ b. line_end (k (weight r q b))))))

unfoldable pub same_tail : (Question → Syntax) → Syntax
same_tail k = spaced_number (λ r. spaced_number (λ q. line_end (k (same r q))))

unfoldable pub question_tail : ℕ → (Question → Syntax) → QuestionWord → Syntax
question_tail n k Amp = amp_tail n k
question_tail n k Weight = weight_tail k
question_tail n k Same = same_tail k

unfoldable pub question : ℕ → (Question → Syntax) → Syntax
question n k = question_name (question_tail n k)

unfoldable pub section : CountRange → Section → (ℕ → Syntax) → Syntax
section r s k = section_name s (λ u. space (count r (λ n. line_end (k n))))

-- a whole text
unfoldable pub circuit_within : Ranges → Syntax
circuit_within ranges =
    section (ranges Qubits) Qubits (λ n.
    section (ranges Opens) Opens (λ o. several (opening n) o (λ os.
    section (ranges Steps) Steps (λ s. several step s (λ ss.
    section (ranges Reads) Reads (λ r. several (question n) r (λ rs.
    finish (record { qubits = n; opens = os; steps = ss; reads = rs }))))))))

abbrev pub circuit : Syntax
circuit = circuit_within range_of
