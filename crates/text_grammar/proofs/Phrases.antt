-- Each phrase of the grammar reads just what is written of its value.
use Rattle.std.proofs.Common.{◌≡◌, ℕ, Bool, true, false, cond, ◌&&◌, eqb, leb, List, [], ◌∷◌, ◌++◌, map, length, get_or, Some, None, Ok, decimal, Option, sym, refl, ap, ◌∙◌, append_assoc, arith}
use Rattle.std.specs.List.{flat_map, AllByRecursion as All}
use Rattle.std.proofs.lemmas.Bool.{and_parts, and_from, eqb-true, leb-true, le-leb}
use Rattle.std.proofs.lemmas.Bool.Decides.{nat_tests}
use Rattle.text_reader.specs.Tokens.{word_byte, first_word, past_word}
use Rattle.text_reader.proofs.Runs.{split_run}
use Rattle.text_words.specs.declared.spelling.Section.{Section}
use Rattle.text_words.specs.declared.spelling.CountRange.{CountRange}
use Rattle.text_words.specs.declared.spelling.StepWord.TheVariants.{Close}
use Rattle.text_words.specs.declared.spelling.QuestionWord.{QuestionWord}
use Rattle.text_words.specs.declared.spelling.QuestionWord.TheVariants.{Amp, Weight, Same}
use Rattle.text_words.specs.Spelling.{has, section_word, step_word, question_word, steps, questions, step_of, question_of, numbers_of}
use Rattle.text_numbers.specs.Numbers.{Small, number_of, bit_byte, index_word, all_bits, is_index, bits_of}
use Rattle.text_words.proofs.Names.{has_is, named_is, step_named, question_named}
use Rattle.text_numbers.proofs.Decimal.{number_says, number_decimal}
use Rattle.text_numbers.proofs.Indices.{index_says, bits_long, bits_back, word_index}
use Rattle.text_grammar.specs.Circuits.{Opening, Step, Question, Within, FitsOpening, FitsStep, FitsQuestion, line_tail, section_line, opening_line, step_line, question_line}
use Rattle.text_grammar.specs.Circuits.Question.{amp, weight, same}
use Rattle.text_grammar.specs.Syntaxes.{Syntax, Reading, read, fitting, ranged, when, otherwise, number, count, section_name, index, bit, step_name, question_name, several, spaced_number, opening, step, amp_tail, weight_tail, same_tail, question_tail, question, section, telling}
use Rattle.text_grammar.specs.Syntaxes.Syntax.{byte}
use Rattle.text_grammar.specs.Syntaxes.Verdict.{fits, wrong, beyond}
use Rattle.text_grammar.proofs.Spelled.{Delimited, is_word, section_is_word, section_has, step_is_word, question_is_word, decimal_is_word, index_is_word}
use Rattle.text_grammar.proofs.Faithful.{Faithful, Found, Any, word_back, word_on, word_reads, before_reads, ended_reads, then_reads, same_reads, several_reads}

wrong_not_fits : wrong ≡ fits → ⊥
wrong_not_fits h = cc

beyond_not_fits : (n : ℕ) → beyond n ≡ fits → ⊥
beyond_not_fits n h = cc

when_fits : (b : Bool) → when b ≡ fits → b ≡ true
when_fits true e = refl
when_fits false e = absurd (wrong_not_fits e)

-- words
number_word : (w : List ℕ) (o : Option ℕ) → number_of w ≡ o → fitting o ≡ fits → (w ≡ decimal (otherwise 0 o)) × Small (otherwise 0 o)
number_word w (Some n) h e = let s = number_says w n h in (s.1, s.0)
number_word w None h e = absurd (wrong_not_fits e)

pub number_reads : Faithful number decimal Small Delimited
unfolding number telling
number_reads = word_reads _ _ decimal Small
    (λ w e. number_word w (number_of w) refl e)
    (λ n s. (ap fitting (number_decimal n s), ap (otherwise 0) (number_decimal n s), decimal_is_word n s))

count_word : (r : CountRange) (w : List ℕ) (o : Option ℕ) → number_of w ≡ o → ranged r o ≡ fits → (w ≡ decimal (otherwise 0 o)) × Within r (otherwise 0 o)
count_word r w None h e = absurd (wrong_not_fits e)
count_word r w (Some n) h e = go (leb r.least n && leb n r.most) refl e
  where
    go : (q : Bool) → (leb r.least n && leb n r.most) ≡ q → cond q fits (beyond n) ≡ fits → (w ≡ decimal n) × Within r n
    go false d f = absurd (beyond_not_fits n f)
    go true d f = let p = and_parts (leb r.least n) (leb n r.most) d in ((number_says w n h).1, (leb-true _ _ p.0, leb-true _ _ p.1))

pub count_reads : (r : CountRange) → Small r.most → Faithful (count r) decimal (Within r) Delimited
unfolding count
count_reads r few = word_reads _ _ decimal (Within r)
    (λ w e. count_word r w (number_of w) refl e)
    (λ n s.
    let small : Small n = omega (arith, s.1, few) in (
      ap (ranged r) (number_decimal n small) ∙ ap (λ q. cond q fits (beyond n)) (and_from _ _ (le-leb _ _ s.0) (le-leb _ _ s.1)),
      ap (otherwise 0) (number_decimal n small),
      decimal_is_word n small,
    ))

pub index_reads : (n : ℕ) → Faithful (index n) index_word (λ bits. length bits ≡ n) Delimited
unfolding index
index_reads n = word_reads _ bits_of index_word (λ bits. length bits ≡ n)
    (λ w e. let p = and_parts (eqb (length w) n) (all_bits w) (when_fits _ e) in (index_says w p.1, bits_long w ∙ eqb-true _ _ p.0))
    (λ bits s. (ap when (word_index n bits s), bits_back bits, index_is_word bits))

bit_word : (w : List ℕ) → is_index 1 w ≡ true → w ≡ bit_byte (eqb (get_or w 0 0) 49) ∷ []
unfolding all_bits
bit_word [] h = cc
bit_word (a ∷ []) h =
    let p = and_parts (leb 48 a && leb a 49) true (and_parts (eqb 1 1) ((leb 48 a && leb a 49) && true) h).1 in
    let d : (leb 48 a && leb a 49) ≡ true = p.0 in
    let e : a ≡ bit_byte (eqb a 49) = grind (arith, nat_tests) in
    ap (λ x. x ∷ []) e
bit_word (a ∷ (b ∷ w)) h =
    let l = eqb-true (length (a ∷ (b ∷ w))) 1 (and_parts (eqb (length (a ∷ (b ∷ w))) 1) (all_bits (a ∷ (b ∷ w))) h).0 in
    absurd (let x : ⊥ = omega (arith, l) in x)

bit_fine : (b : Bool) → (when (is_index 1 (bit_byte b ∷ [])) ≡ fits) × (eqb (get_or (bit_byte b ∷ []) 0 0) 49 ≡ b) × is_word (bit_byte b ∷ [])
unfolding all_bits
bit_fine true = (refl, refl, refl)
bit_fine false = (refl, refl, refl)

pub bit_reads : Faithful bit (λ b. bit_byte b ∷ []) (λ b. Unit {0}) Delimited
unfolding bit
bit_reads = word_reads _ _ _ _ (λ w e. (bit_word w (when_fits _ e), tt)) (λ b s. bit_fine b)

name_word : {A : Type 0} (spelling : A → List ℕ) (w : List ℕ) (d : A) (o : Option A) → ((a : A) → o ≡ Some a → w ≡ spelling a) → fitting o ≡ fits → w ≡ spelling (otherwise d o)
name_word spelling w d (Some a) h e = h a refl
name_word spelling w d None h e = absurd (wrong_not_fits e)

pub step_name_reads : Faithful step_name step_word (λ s. Unit {0}) Delimited
unfolding step_name telling
step_name_reads = word_reads _ _ step_word (λ s. Unit {0})
    (λ w e. (name_word step_word w Close (step_of w) (named_is step_word steps w) e, tt))
    (λ s f. (ap fitting (step_named s), ap (otherwise Close) (step_named s), step_is_word s))

pub question_name_reads : Faithful question_name question_word (λ q. Unit {0}) Delimited
unfolding question_name telling
question_name_reads = word_reads _ _ question_word (λ q. Unit {0})
    (λ w e. (name_word question_word w Same (question_of w) (named_is question_word questions w) e, tt))
    (λ q f. (ap fitting (question_named q), ap (otherwise Same) (question_named q), question_is_word q))

-- numbers, each after a space
abbrev after_space : ℕ → List ℕ
after_space n = 32 ∷ decimal n

pub spaced_reads : Faithful spaced_number after_space Small Delimited
unfolding spaced_number
spaced_reads = before_reads 32 number_reads

numbers_reads : (m : ℕ) → Faithful (several spaced_number m) (flat_map after_space) (λ ns. (length ns ≡ m) × All Small ns) Delimited
numbers_reads m = several_reads spaced_reads (λ n rest. refl) m

numbers_delimited : (ns rest : List ℕ) → Delimited rest → Delimited (flat_map after_space ns ++ rest)
numbers_delimited [] rest d = d
numbers_delimited (n ∷ ns) rest d = refl

numbers_tail : (ns : List ℕ) → flat_map after_space ns ++ (10 ∷ []) ≡ line_tail (map decimal ns)
unfolding line_tail
numbers_tail [] = refl
numbers_tail (n ∷ ns) = append_assoc (after_space n) (flat_map after_space ns) (10 ∷ []) ∙ ap (λ l. 32 ∷ (decimal n ++ l)) (numbers_tail ns)

-- lines
pub opening_reads : (n : ℕ) → Faithful (opening n) opening_line (FitsOpening n) Any
unfolding opening opening_line line_tail
opening_reads n =
    same_reads {B = Opening} (λ p. record { register = p.0; index = p.1 }) (λ o. (o.register, o.index)) opening_line (FitsOpening n)
    (ended_reads 10 refl (then_reads (λ r. λ k. byte 32 (index n k)) (λ r bits. 32 ∷ index_word bits) (λ r bits. length bits ≡ n) Delimited number_reads (λ r. before_reads 32 (index_reads n)) (λ r bits rest f d. refl)))
    (λ o. refl)
    (λ p. append_assoc (decimal p.0) (32 ∷ index_word p.1) (10 ∷ []))
    (λ p f. f)
    (λ o g. g)

pub step_reads : Faithful step step_line FitsStep Any
unfolding step step_line
step_reads =
    same_reads {B = Step} (λ p. record { name = p.0; numbers = p.1 }) (λ s. (s.name, s.numbers)) step_line FitsStep
    (ended_reads 10 refl (then_reads (λ s. several spaced_number (numbers_of s)) (λ s. flat_map after_space) (λ s ns. (length ns ≡ numbers_of s) × All Small ns) Delimited step_name_reads (λ s. numbers_reads (numbers_of s)) (λ s ns rest f d. numbers_delimited ns rest d)))
    (λ s. refl)
    (λ p. append_assoc (step_word p.0) (flat_map after_space p.1) (10 ∷ []) ∙ ap (λ l. step_word p.0 ++ l) (numbers_tail p.1))
    (λ p f. f.1)
    (λ s g. (tt, g))

pub section_reads : (r : CountRange) (s : Section) → Small r.most → Faithful (section r s) (section_line s) (Within r) Any
unfolding section section_name section_line line_tail
section_reads r s few =
    let body : Faithful (λ k. byte 32 (count r (λ n. byte 10 (k n)))) (λ n. (32 ∷ decimal n) ++ (10 ∷ [])) (Within r) Any = ended_reads 10 refl (before_reads 32 (count_reads r few)) in
    record {
      sound = λ k t c e.
          let b = word_back _ _ t c e in
          let h = has_is (first_word t) (section_word s) (when_fits _ b.0) in
          let f = body.sound k (past_word t) c b.1 in
          record {
            value = f.value;
            fine = f.fine;
            rest = f.rest;
            text = split_run word_byte t ∙ (λ i. h i ++ f.text i) ∙ sym (append_assoc (section_word s) ((32 ∷ decimal f.value) ++ (10 ∷ [])) f.rest);
            goes = f.goes;
          };
      complete = λ k n rest f d.
          ap (read (section r s k)) (append_assoc (section_word s) ((32 ∷ decimal n) ++ (10 ∷ [])) rest)
          ∙ word_on (λ w. when (has w 0 (section_word s))) (λ w. byte 32 (count r (λ n. byte 10 (k n)))) (section_word s) _ (section_is_word s) refl (ap when (section_has s))
          ∙ body.complete k n rest f d;
    }

-- questions, after their word
amp_reads : (n : ℕ) → Faithful (λ (k : ℕ × List Bool → Syntax). spaced_number (λ r. byte 32 (index n (λ bits. byte 10 (k (r, bits)))))) (λ p. ((32 ∷ decimal p.0) ++ (32 ∷ index_word p.1)) ++ (10 ∷ [])) (λ p. Small p.0 × (length p.1 ≡ n)) Any
amp_reads n = ended_reads 10 refl (then_reads (λ r. λ k. byte 32 (index n k)) (λ r bits. 32 ∷ index_word bits) (λ r bits. length bits ≡ n) Delimited spaced_reads (λ r. before_reads 32 (index_reads n)) (λ r bits rest f d. refl))

two_reads : Faithful (λ (k : ℕ × ℕ → Syntax). spaced_number (λ r. spaced_number (λ q. k (r, q)))) (λ p. (32 ∷ decimal p.0) ++ (32 ∷ decimal p.1)) (λ p. Small p.0 × Small p.1) Delimited
two_reads = then_reads (λ r. spaced_number) (λ r q. 32 ∷ decimal q) (λ r q. Small q) Delimited spaced_reads (λ r. spaced_reads) (λ r q rest f d. refl)

same_question : Faithful (λ (k : ℕ × ℕ → Syntax). spaced_number (λ r. spaced_number (λ q. byte 10 (k (r, q))))) (λ p. ((32 ∷ decimal p.0) ++ (32 ∷ decimal p.1)) ++ (10 ∷ [])) (λ p. Small p.0 × Small p.1) Any
same_question = ended_reads 10 refl two_reads

weight_question : Faithful (λ (k : (ℕ × ℕ) × Bool → Syntax). spaced_number (λ r. spaced_number (λ q. byte 32 (bit (λ b. byte 10 (k ((r, q), b))))))) (λ p. (((32 ∷ decimal p.0.0) ++ (32 ∷ decimal p.0.1)) ++ (32 ∷ bit_byte p.1 ∷ [])) ++ (10 ∷ [])) (λ p. (Small p.0.0 × Small p.0.1) × Unit {0}) Any
weight_question = ended_reads 10 refl (then_reads (λ rq. λ k. byte 32 (bit k)) (λ rq b. 32 ∷ bit_byte b ∷ []) (λ rq b. Unit {0}) Delimited two_reads (λ rq. before_reads 32 bit_reads) (λ rq b rest f d. refl))

-- their texts, as lines are written
amp_text : (r : ℕ) (bits : List Bool) → ((32 ∷ decimal r) ++ (32 ∷ index_word bits)) ++ (10 ∷ []) ≡ line_tail (decimal r ∷ index_word bits ∷ [])
unfolding line_tail
amp_text r bits = append_assoc (32 ∷ decimal r) (32 ∷ index_word bits) (10 ∷ [])

two_text : (r q : ℕ) (l : List ℕ) → ((32 ∷ decimal r) ++ (32 ∷ decimal q)) ++ l ≡ 32 ∷ (decimal r ++ (32 ∷ (decimal q ++ l)))
two_text r q l = append_assoc (32 ∷ decimal r) (32 ∷ decimal q) l

same_text : (r q : ℕ) → ((32 ∷ decimal r) ++ (32 ∷ decimal q)) ++ (10 ∷ []) ≡ line_tail (decimal r ∷ decimal q ∷ [])
unfolding line_tail
same_text r q = two_text r q (10 ∷ [])

weight_text : (r q : ℕ) (b : Bool) → (((32 ∷ decimal r) ++ (32 ∷ decimal q)) ++ (32 ∷ bit_byte b ∷ [])) ++ (10 ∷ []) ≡ line_tail (decimal r ∷ decimal q ∷ (bit_byte b ∷ []) ∷ [])
unfolding line_tail
weight_text r q b = append_assoc ((32 ∷ decimal r) ++ (32 ∷ decimal q)) (32 ∷ bit_byte b ∷ []) (10 ∷ []) ∙ two_text r q (32 ∷ bit_byte b ∷ 10 ∷ [])

-- a question's line, from its word and what was read after it
question_found : {A : Type 0} (name : QuestionWord) (tail : A → List (List ℕ)) (spell : A → List ℕ) (Fine : A → Type 0) (n : ℕ) (made : A → Question) (k : Question → Syntax) (t rest : List ℕ) (c : Reading)
    → ((a : A) → spell a ≡ line_tail (tail a)) → ((a : A) → question_word name ++ line_tail (tail a) ≡ question_line (made a)) → ((a : A) → Fine a → FitsQuestion n (made a))
    → t ≡ question_word name ++ rest → Found spell Fine (λ a. k (made a)) rest c → Found question_line (FitsQuestion n) k t c
question_found name tail spell Fine n made k t rest c texts line fine e f = record {
  value = made f.value;
  fine = fine f.value f.fine;
  rest = f.rest;
  text =
      e
      ∙ ap (λ l. question_word name ++ l) (f.text ∙ ap (λ l. l ++ f.rest) (texts f.value))
      ∙ sym (append_assoc (question_word name) (line_tail (tail f.value)) f.rest)
      ∙ ap (λ l. l ++ f.rest) (line f.value);
  goes = f.goes;
}

question_sound : (n : ℕ) (k : Question → Syntax) (t : List ℕ) (c : Reading) (name : QuestionWord) (rest : List ℕ) → t ≡ question_word name ++ rest → read (question_tail n k name) rest ≡ Ok c → Found question_line (FitsQuestion n) k t c
unfolding question_tail amp_tail weight_tail same_tail question_line FitsQuestion
question_sound n k t c Amp rest e h =
    question_found Amp (λ p. decimal p.0 ∷ index_word p.1 ∷ []) _ _ n (λ p. amp p.0 p.1) k t rest c (λ p. amp_text p.0 p.1) (λ p. refl) (λ p f. f) e ((amp_reads n).sound (λ p. k (amp p.0 p.1)) rest c h)
question_sound n k t c Weight rest e h =
    question_found Weight (λ p. decimal p.0.0 ∷ decimal p.0.1 ∷ (bit_byte p.1 ∷ []) ∷ []) _ _ n (λ p. weight p.0.0 p.0.1 p.1) k t rest c (λ p. weight_text p.0.0 p.0.1 p.1) (λ p. refl) (λ p f. f.0) e (weight_question.sound (λ p. k (weight p.0.0 p.0.1 p.1)) rest c h)
question_sound n k t c Same rest e h =
    question_found Same (λ p. decimal p.0 ∷ decimal p.1 ∷ []) _ _ n (λ p. same p.0 p.1) k t rest c (λ p. same_text p.0 p.1) (λ p. refl) (λ p f. f) e (same_question.sound (λ p. k (same p.0 p.1)) rest c h)

-- and back: the word, then what is written after it
question_on : (n : ℕ) (k : Question → Syntax) (name : QuestionWord) (tail : List (List ℕ)) (spelled rest : List ℕ) → spelled ≡ line_tail tail → Delimited (spelled ++ rest) → read (question n k) ((question_word name ++ line_tail tail) ++ rest) ≡ read (question_tail n k name) (spelled ++ rest)
unfolding question
question_on n k name tail spelled rest e d =
    ap (read (question n k)) (append_assoc (question_word name) (line_tail tail) rest ∙ ap (λ l. question_word name ++ (l ++ rest)) (sym e))
    ∙ question_name_reads.complete (question_tail n k) name (spelled ++ rest) tt d

question_complete : (n : ℕ) (k : Question → Syntax) (a : Question) (rest : List ℕ) → FitsQuestion n a → read (question n k) (question_line a ++ rest) ≡ read (k a) rest
unfolding question_tail amp_tail weight_tail same_tail question_line FitsQuestion
question_complete n k (amp r bits) rest g = question_on n k Amp _ _ rest (amp_text r bits) refl ∙ (amp_reads n).complete (λ p. k (amp p.0 p.1)) (r, bits) rest g tt
question_complete n k (weight r q b) rest g = question_on n k Weight _ _ rest (weight_text r q b) refl ∙ weight_question.complete (λ p. k (weight p.0.0 p.0.1 p.1)) ((r, q), b) rest (g, tt) tt
question_complete n k (same r q) rest g = question_on n k Same _ _ rest (same_text r q) refl ∙ same_question.complete (λ p. k (same p.0 p.1)) (r, q) rest g tt

pub question_reads : (n : ℕ) → Faithful (question n) question_line (FitsQuestion n) Any
unfolding question
question_reads n = record {
  sound = λ k t c e. let f = question_name_reads.sound (question_tail n k) t c e in question_sound n k t c f.value f.rest f.text f.goes;
  complete = λ k a rest g d. question_complete n k a rest g;
}
