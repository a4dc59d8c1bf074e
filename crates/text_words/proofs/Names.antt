-- A word that names something is its spelling, and each spelling names what it spells.
use Rattle.std.proofs.Common.{◌≡◌, ℕ, suc, ◌+◌, true, eqb, List, [], ◌∷◌, length, get_or, Some, sym, refl, ap, ◌∙◌, ⊎_elim, add-zero, arith}
use Rattle.std.proofs.lemmas.Slice.Eq.{HasBytesAt, text_from_reads}
use Rattle.std.proofs.lemmas.Bool.{and_parts, eqb-true, cond-true, cond-false, cases_Bool}
use Rattle.gates.specs.declared.Gate.TheVariants.{X, Z, H, S, T, Rx, Ry, Cx, Cz, Ccx}
use Rattle.std.proofs.lemmas.Option.{none-some}
use Rattle.text_words.specs.declared.spelling.Section.{Section}
use Rattle.text_words.specs.declared.spelling.Section.TheVariants.{Qubits, Opens, Steps, Reads}
use Rattle.text_words.specs.declared.spelling.StepWord.{StepWord}
use Rattle.text_words.specs.declared.spelling.StepWord.TheVariants.{Gate, Copy, Close}
use Rattle.text_words.specs.declared.spelling.QuestionWord.{QuestionWord}
use Rattle.text_words.specs.declared.spelling.QuestionWord.TheVariants.{Amp, Weight, Same}
use Rattle.text_words.specs.Spelling.{section_word, step_word, question_word, has, named, section_of, step_of, question_of}

has_reads : (w : List ℕ) (i : ℕ) (bs : List ℕ) → has w i bs ≡ true → (length w ≡ i + length bs) × HasBytesAt w i bs
has_reads w i [] h = (eqb-true _ _ h ∙ sym (add-zero i), tt)
has_reads w i (b ∷ bs) h =
    let q = and_parts (eqb (get_or w i 0) b) (has w (suc i) bs) h in
    let r = has_reads w (suc i) bs q.1 in
    (let n : length w ≡ i + suc (length bs) = omega (arith, r.0) in n, (eqb-true _ _ q.0, r.1))

pub has_is : (w bs : List ℕ) → has w 0 bs ≡ true → w ≡ bs
has_is w bs h = let r = has_reads w 0 bs h in text_from_reads w bs (let n : length w ≡ length bs = omega (arith, r.0) in n) r.1

pub named_is : {A : Type 0} (spelling : A → List ℕ) (names : List A) (w : List ℕ) (a : A) → named spelling names w ≡ Some a → w ≡ spelling a
named_is spelling [] w a e = absurd (none-some a e)
named_is spelling (b ∷ bs) w a e =
    ⊎_elim
    (λ h. let s : Some b ≡ Some a = sym (cond-true _ _ _ h) ∙ e in let q : b ≡ a = cc in has_is w (spelling b) h ∙ ap spelling q)
    (λ h. named_is spelling bs w a (sym (cond-false _ _ _ h) ∙ e))
    (cases_Bool (has w 0 (spelling b)))

pub section_named : (s : Section) → section_of (section_word s) ≡ Some s
section_named Qubits = refl
section_named Opens = refl
section_named Steps = refl
section_named Reads = refl

pub step_named : (s : StepWord) → step_of (step_word s) ≡ Some s
step_named (Gate X) = refl
step_named (Gate Z) = refl
step_named (Gate H) = refl
step_named (Gate S) = refl
step_named (Gate T) = refl
step_named (Gate Rx) = refl
step_named (Gate Ry) = refl
step_named (Gate Cx) = refl
step_named (Gate Cz) = refl
step_named (Gate Ccx) = refl
step_named Copy = refl
step_named Close = refl

pub question_named : (q : QuestionWord) → question_of (question_word q) ≡ Some q
question_named Amp = refl
question_named Weight = refl
question_named Same = refl
