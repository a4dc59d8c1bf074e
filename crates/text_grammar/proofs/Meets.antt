-- From everywhere in the syntax of a circuit text, some text goes on to the end.
use Rattle.std.proofs.Common.{◌≡◌, ℕ, zero, suc, Bool, true, false, cond, ◌&&◌, leb, List, [], ◌∷◌, replicate, Some, None, decimal, Option, refl, ap, ◌∙◌, arith}
use Rattle.std.proofs.lemmas.List.{length-replicate}
use Rattle.text_words.specs.declared.spelling.Section.{Section}
use Rattle.text_words.specs.declared.spelling.Section.TheVariants.{Qubits, Opens, Steps, Reads}
use Rattle.text_words.specs.declared.spelling.CountRange.{CountRange}
use Rattle.text_words.specs.declared.spelling.StepWord.{StepWord}
use Rattle.text_words.specs.declared.spelling.StepWord.TheVariants.{Close}
use Rattle.text_words.specs.declared.spelling.QuestionWord.{QuestionWord}
use Rattle.text_words.specs.declared.spelling.QuestionWord.TheVariants.{Amp, Weight, Same}
use Rattle.text_words.specs.Spelling.{section_word, step_word, question_word, numbers_of, range_of}
use Rattle.text_numbers.specs.Numbers.{Small, number_of, digits_value, index_word, all_bits}
use Rattle.text_numbers.proofs.Decimal.{number_says, number_decimal}
use Rattle.text_numbers.proofs.Indices.{word_index}
use Rattle.text_grammar.specs.Circuits.{Opening, Step, Question, Ranges, any_count}
use Rattle.text_grammar.specs.Syntaxes.{Syntax, when, fitting, ranged, number, count, section_name, index, bit, step_name, question_name, several, spaced_number, opening, step, amp_tail, weight_tail, same_tail, question_tail, question, section, circuit_within, telling}
use Rattle.text_grammar.specs.Syntaxes.Verdict.{fits, beyond}
use Rattle.text_grammar.proofs.Spelled.{section_is_word, section_has, decimal_is_word, index_is_word}
use Rattle.text_grammar.proofs.Faults.{Parted, Open}

-- no verdict of these says that a count is out of range
when_near : (b : Bool) (n : ℕ) → when b ≡ beyond n → ⊥
when_near true n e = let y : ◌≡◌ {A = ℕ} 0 1 = cc in let z : ⊥ = omega arith in z
when_near false n e = let y : ◌≡◌ {A = ℕ} 0 1 = cc in let z : ⊥ = omega arith in z

fitting_near : {A : Type 0} (o : Option A) (n : ℕ) → fitting o ≡ beyond n → ⊥
fitting_near (Some a) n e = let y : ◌≡◌ {A = ℕ} 0 1 = cc in let z : ⊥ = omega arith in z
fitting_near None n e = let y : ◌≡◌ {A = ℕ} 0 1 = cc in let z : ⊥ = omega arith in z

ranged_far : (r : CountRange) (w : List ℕ) (o : Option ℕ) (n : ℕ) → number_of w ≡ o → ranged r o ≡ beyond n → (w ≡ decimal n) × Small n
ranged_far r w None n h e = absurd (let y : ◌≡◌ {A = ℕ} 0 1 = cc in let z : ⊥ = omega arith in z)
ranged_far r w (Some m) n h e = go (leb r.least m && leb m r.most) e
  where
    go : (q : Bool) → cond q fits (beyond m) ≡ beyond n → (w ≡ decimal n) × Small n
    go true f = absurd (let y : ◌≡◌ {A = ℕ} 0 1 = cc in let z : ⊥ = omega arith in z)
    go false f = let q : m ≡ n = cc in (let said = number_says w n (h ∙ ap Some q) in (said.1, said.0))

-- every phrase can be met, if what is wanted after it can
abbrev Ready : {A : Type 0} → (A → Syntax) → Type 0
Ready {A = A} k = (a : A) → Parted (k a) × Open (k a)

open_number : (k : ℕ → Syntax) → Ready k → Open (number k)
unfolding Open number digits_value telling
open_number k o = ((48 ∷ [], (refl, refl)), λ w h. o _, λ w n e. absurd (fitting_near _ n e))

open_index : (n : ℕ) (k : List Bool → Syntax) → Ready k → Open (index n k)
unfolding Open index
open_index n k o =
    let bits : List Bool = replicate n false in
    ((index_word bits, (index_is_word bits, ap when (word_index n bits (length-replicate n false)))), λ w h. o _, λ w m e. absurd (when_near _ m e))

open_bit : (k : Bool → Syntax) → Ready k → Open (bit k)
unfolding Open bit all_bits
open_bit k o = ((48 ∷ [], (refl, refl)), λ w h. o _, λ w m e. absurd (when_near _ m e))

open_step_name : (k : StepWord → Syntax) → Ready k → Open (step_name k)
unfolding Open step_name telling
open_step_name k o = ((step_word Close, (refl, refl)), λ w h. o _, λ w m e. absurd (fitting_near _ m e))

open_question_name : (k : QuestionWord → Syntax) → Ready k → Open (question_name k)
unfolding Open question_name telling
open_question_name k o = ((question_word Same, (refl, refl)), λ w h. o _, λ w m e. absurd (fitting_near _ m e))

-- a section can be met if some count is in its range
open_section : (r : CountRange) (s : Section) → (n : ℕ) × (Small n × (ranged r (Some n) ≡ fits)) → (k : ℕ → Syntax) → ((n : ℕ) → Open (k n)) → Open (section r s k)
unfolding Open section section_name count
open_section r s example k o =
    let n = example.0 in
    let small = example.1.0 in (
      (section_word s, (section_is_word s, ap when (section_has s))),
      λ w h. (refl, ((decimal n, (decimal_is_word n small, ap (ranged r) (number_decimal n small) ∙ example.1.1)), λ w h. (refl, o _), λ w m e. ranged_far r w (number_of w) m refl e)),
      λ w m e. absurd (when_near _ m e),
    )

open_numbers : (m : ℕ) (k : List ℕ → Syntax) → Ready k → Parted (several spaced_number m k) × Open (several spaced_number m k)
unfolding several spaced_number Open
open_numbers zero k o = o []
open_numbers (suc m) k o = (refl, open_number _ (λ n. open_numbers m (λ ns. k (n ∷ ns)) (λ ns. o (n ∷ ns))))

open_several : {A : Type 0} (phrase : (A → Syntax) → Syntax) → ((k : A → Syntax) → ((a : A) → Open (k a)) → Open (phrase k)) → (m : ℕ) (k : List A → Syntax) → ((xs : List A) → Open (k xs)) → Open (several phrase m k)
unfolding several
open_several phrase h zero k o = o []
open_several phrase h (suc m) k o = h _ (λ a. open_several phrase h m (λ more. k (a ∷ more)) (λ more. o (a ∷ more)))

open_opening : (n : ℕ) (k : Opening → Syntax) → ((a : Opening) → Open (k a)) → Open (opening n k)
unfolding opening Open
open_opening n k o = open_number _ (λ r. (refl, open_index n _ (λ bits. (refl, o _))))

open_step : (k : Step → Syntax) → ((a : Step) → Open (k a)) → Open (step k)
unfolding step Open
open_step k o = open_step_name _ (λ x. open_numbers (numbers_of x) _ (λ ns. (refl, o _)))

open_rest : (n : ℕ) (k : Question → Syntax) → ((a : Question) → Open (k a)) → (x : QuestionWord) → Parted (question_tail n k x) × Open (question_tail n k x)
unfolding question_tail amp_tail weight_tail same_tail spaced_number Open
open_rest n k o Amp = (refl, open_number _ (λ r. (refl, open_index n _ (λ bits. (refl, o _)))))
open_rest n k o Weight = (refl, open_number _ (λ r. (refl, open_number _ (λ q. (refl, open_bit _ (λ b. (refl, o _)))))))
open_rest n k o Same = (refl, open_number _ (λ r. (refl, open_number _ (λ q. (refl, o _)))))

open_question : (n : ℕ) (k : Question → Syntax) → ((a : Question) → Open (k a)) → Open (question n k)
unfolding question
open_question n k o = open_question_name _ (open_rest n k o)

-- some count is in each range
abbrev pub Filled : Ranges → Type 0
Filled ranges = (s : Section) → (n : ℕ) × (Small n × (ranged (ranges s) (Some n) ≡ fits))

pub ranges_filled : Filled range_of
ranges_filled Qubits = (1, (omega arith, refl))
ranges_filled Opens = (0, (omega arith, refl))
ranges_filled Steps = (0, (omega arith, refl))
ranges_filled Reads = (0, (omega arith, refl))

pub any_filled : Filled any_count
any_filled s = (0, (omega arith, refl))

pub open_circuit : (ranges : Ranges) → Filled ranges → Open (circuit_within ranges)
unfolding circuit_within Open
open_circuit ranges f =
    open_section (ranges Qubits) Qubits (f Qubits) _ (λ n.
    open_section (ranges Opens) Opens (f Opens) _ (λ a. open_several _ (open_opening n) a _ (λ os.
    open_section (ranges Steps) Steps (f Steps) _ (λ b. open_several _ open_step b _ (λ ss.
    open_section (ranges Reads) Reads (f Reads) _ (λ d. open_several _ (open_question n) d _ (λ rs. tt)))))))
