-- What the grammar writes as a word is one: it has no space and no line end.
use Rattle.std.proofs.Common.{◌≡◌, ℕ, Bool, true, false, List, [], ◌∷◌, decimal, refl, arith}
use Rattle.std.proofs.lemmas.Bool.{and_parts, and_from}
use Rattle.std.proofs.lemmas.Bool.Decides.{nat_tests}
use Rattle.text_reader.specs.Tokens.{word_byte}
use Rattle.text_reader.proofs.Runs.{all_of, EndsRun}
use Rattle.gates.specs.declared.Gate.TheVariants.{X, Z, H, S, T, Rx, Ry, Cx, Cz, Ccx}
use Rattle.text_words.specs.declared.spelling.Section.{Section}
use Rattle.text_words.specs.declared.spelling.Section.TheVariants.{Qubits, Opens, Steps, Reads}
use Rattle.text_words.specs.declared.spelling.StepWord.{StepWord}
use Rattle.text_words.specs.declared.spelling.StepWord.TheVariants.{Gate, Copy, Close}
use Rattle.text_words.specs.declared.spelling.QuestionWord.{QuestionWord}
use Rattle.text_words.specs.declared.spelling.QuestionWord.TheVariants.{Amp, Weight, Same}
use Rattle.text_words.specs.Spelling.{has, section_word, step_word, question_word}
use Rattle.text_numbers.specs.Numbers.{Small, digit, index_word}
use Rattle.text_numbers.proofs.Decimal.{all_digits, decimal_digits}

-- nothing, or something that ends a word
abbrev pub Delimited : List ℕ → Type 0
Delimited t = EndsRun word_byte t

abbrev pub is_word : List ℕ → Type 0
is_word w = all_of word_byte w ≡ true

pub section_is_word : (s : Section) → is_word (section_word s)
section_is_word Qubits = refl
section_is_word Opens = refl
section_is_word Steps = refl
section_is_word Reads = refl

pub section_has : (s : Section) → has (section_word s) 0 (section_word s) ≡ true
section_has Qubits = refl
section_has Opens = refl
section_has Steps = refl
section_has Reads = refl

pub step_is_word : (s : StepWord) → is_word (step_word s)
step_is_word (Gate X) = refl
step_is_word (Gate Z) = refl
step_is_word (Gate H) = refl
step_is_word (Gate S) = refl
step_is_word (Gate T) = refl
step_is_word (Gate Rx) = refl
step_is_word (Gate Ry) = refl
step_is_word (Gate Cx) = refl
step_is_word (Gate Cz) = refl
step_is_word (Gate Ccx) = refl
step_is_word Copy = refl
step_is_word Close = refl

pub question_is_word : (q : QuestionWord) → is_word (question_word q)
question_is_word Amp = refl
question_is_word Weight = refl
question_is_word Same = refl

digits_word : (w : List ℕ) → all_digits w ≡ true → is_word w
digits_word [] h = refl
digits_word (b ∷ bs) h =
    let q = and_parts (digit b) (all_digits bs) h in
    let d : digit b ≡ true = q.0 in
    let p : word_byte b ≡ true = grind (arith, nat_tests) in
    and_from _ _ p (digits_word bs q.1)

pub decimal_is_word : (n : ℕ) → Small n → is_word (decimal n)
decimal_is_word n s = digits_word (decimal n) (decimal_digits n s)

pub index_is_word : (bits : List Bool) → is_word (index_word bits)
unfolding index_word
index_is_word [] = refl
index_is_word (true ∷ bs) = index_is_word bs
index_is_word (false ∷ bs) = index_is_word bs
