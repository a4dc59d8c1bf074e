-- The first word of a line tells its kind.
use Rattle.std.proofs.Common.{◌≡◌, ℕ, ◌<◌, ◌≤◌, true, false, ◌&&◌, eqb, List, [], ◌∷◌, ◌++◌, length, get_or, Some, None, Option, sym, decimal, refl, ap, ◌∙◌, append_assoc, arith, lit≤}
use Rattle.std.proofs.lemmas.Fmt.{decimal_nonempty}
use Rattle.std.proofs.lemmas.Bool.{and_parts, cond-false, ne_eqb}
use Rattle.std.proofs.lemmas.Bool.Decides.{nat_tests}
use Rattle.std.specs.List.{AllByRecursion as All}
use Rattle.text_reader.specs.Tokens.{word_byte, first_word}
use Rattle.text_reader.proofs.Runs.{EndsRun, run_whole}
use Rattle.gates.specs.declared.Gate.TheVariants.{X, Z, H, S, T, Rx, Ry, Cx, Cz, Ccx}
use Rattle.text_words.specs.declared.spelling.Section.TheVariants.{Qubits, Opens, Steps, Reads}
use Rattle.text_words.specs.declared.spelling.StepWord.{StepWord}
use Rattle.text_words.specs.declared.spelling.StepWord.TheVariants.{Gate, Copy, Close}
use Rattle.text_words.specs.declared.spelling.QuestionWord.TheVariants.{Amp, Weight, Same}
use Rattle.std.specs.Option.{is_some}
use Rattle.text_words.specs.declared.spelling.Section.{Section}
use Rattle.text_words.specs.declared.spelling.QuestionWord.{QuestionWord}
use Rattle.text_words.specs.Spelling.{section_of, step_of, question_of, section_word, step_word, question_word, sections, steps, questions, has, named}
use Rattle.text_numbers.specs.Numbers.{digit}
use Rattle.text_numbers.proofs.Decimal.{all_digits, decimal_digits}
use Rattle.text_grammar.specs.Circuits.{Line, line_tail, line_bytes, section_line, opening_line, step_line, question_line}
use Rattle.text_grammar.specs.Circuits.Question.{amp, weight, same}
use Rattle.text_grammar.specs.Circuits.Line.{section, opening, step, question}
use Rattle.text_grammar.proofs.Spelled.{is_word, section_is_word, step_is_word, question_is_word, decimal_is_word}
use Rattle.circuit_text.specs.Lines.{FitsLine}

pub data Kind : Type 0 where
  SectionKind : Section → Kind
  StepKind : Kind
  QuestionKind : Kind
  OpeningKind : Kind

-- the kind of line that begins with a word
abbrev pub by_question : {A : Type 0} → Option A → Kind
by_question (Some q) = QuestionKind
by_question None = OpeningKind

abbrev pub by_step : {A : Type 0} → Option A → Kind → Kind
by_step (Some s) other = StepKind
by_step None other = other

abbrev pub by_section : Option Section → Kind → Kind
by_section (Some s) other = SectionKind s
by_section None other = other

abbrev pub kind_of : List ℕ → Kind
kind_of w = by_section (section_of w) (by_step (step_of w) (by_question (question_of w)))

by_step_some : {A : Type 0} (o : Option A) (other : Kind) → is_some o ≡ true → by_step o other ≡ StepKind
by_step_some (Some a) other e = refl
by_step_some None other e = cc

by_step_none : {A : Type 0} (o : Option A) (other : Kind) → is_some o ≡ false → by_step o other ≡ other
by_step_none (Some a) other e = cc
by_step_none None other e = refl

by_question_some : {A : Type 0} (o : Option A) → is_some o ≡ true → by_question o ≡ QuestionKind
by_question_some (Some a) e = refl
by_question_some None e = cc

by_question_none : {A : Type 0} (o : Option A) → is_some o ≡ false → by_question o ≡ OpeningKind
by_question_none (Some a) e = cc
by_question_none None e = refl

-- what is told of a word tells the kind of line that it begins
module _ (w : List ℕ) (m : Option Section) (told : m ≡ section_of w) where
  pub is_section : (s : Section) → m ≡ Some s → kind_of w ≡ SectionKind s
  is_section s e = ap (λ x. by_section x (by_step (step_of w) (by_question (question_of w)))) (sym told ∙ e)

  module _ (none : m ≡ None) (n : Option StepWord) (step_told : n ≡ step_of w) where
    past_section : kind_of w ≡ by_step n (by_question (question_of w))
    past_section = ap (λ x. by_section x (by_step (step_of w) (by_question (question_of w)))) (sym told ∙ none) ∙ ap (λ x. by_step x (by_question (question_of w))) (sym step_told)

    pub is_step : is_some n ≡ true → kind_of w ≡ StepKind
    is_step e = past_section ∙ by_step_some n _ e

    module _ (no_step : is_some n ≡ false) (q : Option QuestionWord) (question_told : q ≡ question_of w) where
      pub is_question : is_some q ≡ true → kind_of w ≡ QuestionKind
      is_question e = past_section ∙ by_step_none n _ no_step ∙ ap by_question (sym question_told) ∙ by_question_some q e

      pub is_opening : is_some q ≡ false → kind_of w ≡ OpeningKind
      is_opening e = past_section ∙ by_step_none n _ no_step ∙ ap by_question (sym question_told) ∙ by_question_none q e

head_of : Line → List ℕ
head_of (section s n) = section_word s
head_of (opening o) = decimal o.register
head_of (step s) = step_word s.name
head_of (question (amp r bits)) = question_word Amp
head_of (question (weight r q b)) = question_word Weight
head_of (question (same r q)) = question_word Same

ends_word : (ws : List (List ℕ)) (more : List ℕ) → EndsRun word_byte (line_tail ws ++ more)
unfolding line_tail
ends_word [] more = refl
ends_word (w ∷ ws) more = refl

word_first : (w : List ℕ) (ws : List (List ℕ)) (more : List ℕ) → is_word w → first_word ((w ++ line_tail ws) ++ more) ≡ w
word_first w ws more h = ap first_word (append_assoc w (line_tail ws) more) ∙ run_whole word_byte w (line_tail ws ++ more) h (ends_word ws more)

head_first : (n : ℕ) (x : Line) (more : List ℕ) → FitsLine n x → first_word (line_bytes x ++ more) ≡ head_of x
unfolding head_of FitsLine line_bytes section_line opening_line step_line question_line
head_first n (section s total) more f = word_first _ _ more (section_is_word s)
head_first n (opening o) more f = word_first _ _ more (decimal_is_word o.register f.0)
head_first n (step s) more f = word_first _ _ more (step_is_word s.name)
head_first n (question (amp r bits)) more f = word_first _ _ more (question_is_word Amp)
head_first n (question (weight r q b)) more f = word_first _ _ more (question_is_word Weight)
head_first n (question (same r q)) more f = word_first _ _ more (question_is_word Same)

-- the kind of a line
unfoldable pub line_kind : Line → Kind
line_kind (section s n) = SectionKind s
line_kind (opening o) = OpeningKind
line_kind (step s) = StepKind
line_kind (question q) = QuestionKind

-- no name begins with a digit
abbrev Lettered : List ℕ → Type 0
Lettered w = 58 ≤ get_or w 0 0

no_name : {A : Type 0} (spelling : A → List ℕ) (names : List A) (b : ℕ) (bs : List ℕ) → digit b ≡ true → All (λ a. Lettered (spelling a)) names → named spelling names (b ∷ bs) ≡ None
no_name spelling [] b bs d h = refl
no_name spelling (a ∷ names) b bs d h = cond-false _ _ _ (other (spelling a) h.0) ∙ no_name spelling names b bs d h.1
  where
    other : (w : List ℕ) → Lettered w → has (b ∷ bs) 0 w ≡ false
    other [] l = absurd (let x : ⊥ = omega arith in x)
    other (c ∷ cs) l =
        let below : b ≤ 57 = grind (arith, nat_tests) in
        let e : eqb b c ≡ false = ne_eqb b c (λ q. omega arith) in
        ap (λ x. x && has (b ∷ bs) 1 cs) e

digit_kind : (b : ℕ) (bs : List ℕ) → digit b ≡ true → kind_of (b ∷ bs) ≡ OpeningKind
digit_kind b bs d =
    (λ i. by_section (no_name section_word sections b bs d (lit≤ tt, (lit≤ tt, (lit≤ tt, (lit≤ tt, tt)))) i)
    (by_step (no_name step_word steps b bs d (lit≤ tt, (lit≤ tt, (lit≤ tt, (lit≤ tt, (lit≤ tt, (lit≤ tt, (lit≤ tt, (lit≤ tt, (lit≤ tt, (lit≤ tt, (lit≤ tt, (lit≤ tt, tt)))))))))))) i)
    (by_question (no_name question_word questions b bs d (lit≤ tt, (lit≤ tt, (lit≤ tt, tt))) i))))

number_kind : (w : List ℕ) → 0 < length w → all_digits w ≡ true → kind_of w ≡ OpeningKind
number_kind [] l h = absurd (let b : ⊥ = omega arith in b)
number_kind (b ∷ bs) l h = digit_kind b bs (and_parts (digit b) (all_digits bs) h).0

step_kind : (s : StepWord) → kind_of (step_word s) ≡ StepKind
step_kind (Gate X) = refl
step_kind (Gate Z) = refl
step_kind (Gate H) = refl
step_kind (Gate S) = refl
step_kind (Gate T) = refl
step_kind (Gate Rx) = refl
step_kind (Gate Ry) = refl
step_kind (Gate Cx) = refl
step_kind (Gate Cz) = refl
step_kind (Gate Ccx) = refl
step_kind Copy = refl
step_kind Close = refl

head_kind : (n : ℕ) (x : Line) → FitsLine n x → kind_of (head_of x) ≡ line_kind x
unfolding head_of line_kind FitsLine
head_kind n (section Qubits total) f = refl
head_kind n (section Opens total) f = refl
head_kind n (section Steps total) f = refl
head_kind n (section Reads total) f = refl
head_kind n (opening o) f = number_kind (decimal o.register) (decimal_nonempty o.register (let h : o.register < 18446744073709551616 = omega (arith, f.0) in omega arith)) (decimal_digits o.register f.0)
head_kind n (step s) f = step_kind s.name
head_kind n (question (amp r bits)) f = refl
head_kind n (question (weight r q b)) f = refl
head_kind n (question (same r q)) f = refl

pub kind_told : (n : ℕ) (x : Line) (more : List ℕ) → FitsLine n x → kind_of (first_word (line_bytes x ++ more)) ≡ line_kind x
kind_told n x more f = ap kind_of (head_first n x more f) ∙ head_kind n x f
