-- The lines of a text that has passed the form check, from where a reader stands.
use Rattle.std.proofs.Common.{◌≡◌, ℕ, zero, suc, ◌+◌, ◌-◌, ◌≤◌, true, eqb, List, [], ◌∷◌, ◌++◌, map, length, drop, Ok, Err, decimal, Result, sym, refl, ap, ◌∙◌, subst, append_assoc, arith}
use Rattle.std.specs.List.{flat_map, AllByRecursion as All}
use Rattle.std.proofs.lemmas.List.{length-append, drop-drop}
use Rattle.std.proofs.lemmas.Bool.{and_parts, and_from, eqb-true, eq-eqb}
use Rattle.text_reader.specs.declared.place.Place.{Place}
use Rattle.text_reader.specs.declared.reader.Reader.{Reader}
use Rattle.text_reader.specs.declared.fault.TextFault.{TextFault}
use Rattle.text_reader.specs.Tokens.{line_byte, first_line}
use Rattle.text_reader.specs.Places.{moved_by, place_after}
use Rattle.text_reader.specs.Reading.{text_of, rest, standing}
use Rattle.text_reader.proofs.Runs.{all_of, all_append, run_whole}
use Rattle.text_reader.proofs.Spots.{word_on_line, line_passed}
use Rattle.text_reader.proofs.Standing.{standing_moved, standing_line}
use Rattle.text_numbers.specs.Numbers.{Small, index_word}
use Rattle.text_words.specs.declared.spelling.QuestionWord.TheVariants.{Amp, Weight, Same}
use Rattle.text_words.specs.Spelling.{section_word, step_word, question_word}
use Rattle.text_grammar.specs.Circuits.{Circuit, Line, InRange, line_tail, line_bytes, section_line, opening_line, step_line, question_line, lines_of, written, FitsQuestion}
use Rattle.text_grammar.specs.Circuits.Question.{amp, weight, same}
use Rattle.text_grammar.specs.Circuits.Line.{section, opening, step, question}
use Rattle.text_grammar.specs.Verdicts.{parsed, Accepted, Right}
use Rattle.text_grammar.proofs.Circuit.{ranges_writable}
use Rattle.text_grammar.proofs.Spelled.{is_word, section_is_word, step_is_word, question_is_word, decimal_is_word, index_is_word}
use Rattle.text_grammar.proofs.Verdict.{right}
use Rattle.circuit_text.specs.declared.form.Form.{Form}
use Rattle.circuit_text.specs.Forms.{form_of, with_form, checked}
use Rattle.circuit_text.specs.Texts.{same_form, answers, passes, or_nothing, circuit_in, lines_from}
use Rattle.circuit_text.specs.Lines.{FitsLine, BeforeLine}

-- the form check answers a form exactly where it passes
forms_same : (f g : Form) → same_form f g ≡ true → f ≡ g
forms_same f g h =
    let a = and_parts (eqb f.qubits g.qubits) _ h in
    let b = and_parts (eqb f.opens g.opens) _ a.1 in
    let c = and_parts (eqb f.steps g.steps) _ b.1 in
    (λ i. record { qubits = eqb-true _ _ a.0 i; opens = eqb-true _ _ b.0 i; steps = eqb-true _ _ c.0 i; reads = eqb-true _ _ c.1 i })

pub checked_passes : (text : List ℕ) (form : Form) → checked text ≡ Ok form → passes text form ≡ true
unfolding passes
checked_passes text form e = ap (answers form) e ∙ and_from _ _ (eq-eqb form.qubits _ refl) (and_from _ _ (eq-eqb form.opens _ refl) (and_from _ _ (eq-eqb form.steps _ refl) (eq-eqb form.reads _ refl)))

pub passes_checked : (text : List ℕ) (form : Form) → passes text form ≡ true → checked text ≡ Ok form
unfolding passes
passes_checked text form h = go (checked text) h
  where
    go : (r : Result Form TextFault) → answers form r ≡ true → r ≡ Ok form
    go (Ok f) g = ap Ok (forms_same f form g)
    go (Err e) g = cc

-- then the text is that of its circuit
pub record Passed (text : List ℕ) (form : Form) : Type 0 where
  pub accepted : Accepted text (circuit_in text)
  pub counts : form ≡ form_of (circuit_in text)

pub passed : (text : List ℕ) (form : Form) → passes text form ≡ true → Passed text form
unfolding checked circuit_in
passed text form h = go (parsed text) refl (passes_checked text form h)
  where
    go : (p : Result Circuit TextFault) → parsed text ≡ p → with_form (parsed text) ≡ Ok form → Passed text form
    go (Ok c) e f =
        let a : Accepted text c = subst (Right text) e (right text) in
        let q : c ≡ or_nothing (parsed text) = sym (ap or_nothing e) in
        let g : Ok (form_of c) ≡ Ok form = sym (ap with_form e) ∙ f in
        let same : form_of c ≡ form = cc in
        record { accepted = subst (Accepted text) q a; counts = sym same ∙ ap form_of q }
    go (Err x) e f = let g : Err x ≡ Ok form = sym (ap with_form e) ∙ f in cc

pub few_qubits : (text : List ℕ) (form : Form) → Passed text form → form.qubits ≤ 16
few_qubits text form p = omega (arith, ap (λ (f : Form). f.qubits) p.counts, p.accepted.in_range.qubits_within.1)

-- every line of a circuit in range fits
all_append_lists : {A : Type 0} (P : A → Type 0) (xs ys : List A) → All P xs → All P ys → All P (xs ++ ys)
all_append_lists P [] ys a b = b
all_append_lists P (x ∷ xs) ys a b = (a.0, all_append_lists P xs ys a.1 b)

all_kind : {A : Type 0} (n : ℕ) (kind : A → Line) (P : A → Type 0) → ((a : A) → P a → FitsLine n (kind a)) → (xs : List A) → All P xs → All (FitsLine n) (map kind xs)
all_kind n kind P f [] a = tt
all_kind n kind P f (x ∷ xs) a = (f x a.0, all_kind n kind P f xs a.1)

lines_fit : (c : Circuit) → InRange c → All (FitsLine c.qubits) (lines_of c)
unfolding lines_of FitsLine
lines_fit c g = (
  g.qubits_within,
  (
    g.opens_within,
    all_append_lists _ (map opening c.opens) _ (all_kind c.qubits opening _ (λ o f. f) c.opens g.opens_fit) (
      g.steps_within,
      all_append_lists _ (map step c.steps) _ (all_kind c.qubits step _ (λ s f. f) c.steps g.steps_fit)
          (g.reads_within, all_kind c.qubits question _ (λ q f. f) c.reads g.reads_fit),
    ),
  ),
)

all_drop : {A : Type 0} (P : A → Type 0) (i : ℕ) (xs : List A) → All P xs → All P (drop i xs)
all_drop P zero xs a = a
all_drop P (suc i) [] a = a
all_drop P (suc i) (x ∷ xs) a = all_drop P i xs a.1

-- a line is its body and the line end
record Body (line : List ℕ) : Type 0 where
  body : List ℕ
  ended : line ≡ body ++ (10 ∷ [])
  on_line : all_of line_byte body ≡ true

tail_body : (ws : List (List ℕ)) → All is_word ws → Body (line_tail ws)
unfolding line_tail
tail_body [] a = record { body = []; ended = refl; on_line = refl }
tail_body (w ∷ ws) a =
    let r = tail_body ws a.1 in
    record {
      body = 32 ∷ (w ++ r.body);
      ended = ap (λ l. 32 ∷ l) (ap (λ l. w ++ l) r.ended ∙ sym (append_assoc w r.body (10 ∷ [])));
      on_line = all_append line_byte w r.body (word_on_line w a.0) r.on_line;
    }

text_body : (w : List ℕ) (ws : List (List ℕ)) → is_word w → All is_word ws → Body (w ++ line_tail ws)
text_body w ws h a =
    let r = tail_body ws a in
    record {
      body = w ++ r.body;
      ended = ap (λ l. w ++ l) r.ended ∙ sym (append_assoc w r.body (10 ∷ []));
      on_line = all_append line_byte w r.body (word_on_line w h) r.on_line;
    }

number_words : (ns : List ℕ) → All Small ns → All is_word (map decimal ns)
number_words [] a = tt
number_words (n ∷ ns) a = (decimal_is_word n a.0, number_words ns a.1)

line_body : (n : ℕ) (x : Line) → FitsLine n x → Body (line_bytes x)
unfolding line_bytes section_line opening_line step_line question_line FitsLine FitsQuestion index_word
line_body n (section s total) f = let small : Small total = omega (arith, f.1, ranges_writable s) in text_body (section_word s) (decimal total ∷ []) (section_is_word s) (decimal_is_word total small, tt)
line_body n (opening o) f = text_body (decimal o.register) (index_word o.index ∷ []) (decimal_is_word o.register f.0) (index_is_word o.index, tt)
line_body n (step s) f = text_body (step_word s.name) (map decimal s.numbers) (step_is_word s.name) (number_words s.numbers f.1)
line_body n (question (amp r bits)) f = text_body (question_word Amp) (decimal r ∷ index_word bits ∷ []) (question_is_word Amp) (decimal_is_word r f.0, (index_is_word bits, tt))
line_body n (question (weight r q b)) f = text_body (question_word Weight) (decimal r ∷ decimal q ∷ index_word (b ∷ []) ∷ []) (question_is_word Weight) (decimal_is_word r f.0, (decimal_is_word q f.1, (index_is_word (b ∷ []), tt)))
line_body n (question (same r q)) f = text_body (question_word Same) (decimal r ∷ decimal q ∷ []) (question_is_word Same) (decimal_is_word r f.0, (decimal_is_word q f.1, tt))

-- what is lent of a line, with its end, is the line
pub line_lent : (n : ℕ) (x : Line) (more : List ℕ) → FitsLine n x → line_bytes x ≡ first_line (line_bytes x ++ more) ++ (10 ∷ [])
line_lent n x more f =
    let b = line_body n x f in
    let lent : first_line (line_bytes x ++ more) ≡ b.body =
    ap (λ l. first_line (l ++ more)) b.ended ∙ ap first_line (append_assoc b.body (10 ∷ []) more) ∙ run_whole line_byte b.body (10 ∷ more) b.on_line refl in
    b.ended ∙ ap (λ l. l ++ (10 ∷ [])) (sym lent)

not_empty : (n : ℕ) (x : Line) (more : List ℕ) → FitsLine n x → line_bytes x ++ more ≡ [] → ⊥
not_empty n x more f e =
    let b = line_body n x f in
    omega (arith, ap length e, length-append (line_bytes x) more, ap length b.ended, length-append b.body (10 ∷ []))

-- from where a reader stands
module _ (s : Reader) (form : Form) (p : Passed (text_of s) form) (ahead : rest s ≡ flat_map line_bytes (lines_from (text_of s) (standing s))) where
  fits_ahead : All (FitsLine form.qubits) (lines_from (text_of s) (standing s))
  unfolding lines_from
  fits_ahead = subst (λ n. All (FitsLine n) (drop ((standing s).line - 1) (lines_of (circuit_in (text_of s))))) (sym (ap (λ (f : Form). f.qubits) p.counts)) (all_drop _ ((standing s).line - 1) (lines_of (circuit_in (text_of s))) (lines_fit (circuit_in (text_of s)) p.accepted.in_range))

  pub none_ahead : rest s ≡ [] → lines_from (text_of s) (standing s) ≡ []
  none_ahead e = go (lines_from (text_of s) (standing s)) fits_ahead (sym ahead ∙ e)
    where
      go : (l : List Line) → All (FitsLine form.qubits) l → flat_map line_bytes l ≡ [] → l ≡ []
      go [] a h = refl
      go (x ∷ xs) a h = absurd (not_empty form.qubits x (flat_map line_bytes xs) a.0 h)

  -- the line that comes next, and the others
  pub record Coming : Type 0 where
    pub line : Line
    pub others : List Line
    pub next : lines_from (text_of s) (standing s) ≡ line ∷ others
    pub fits : FitsLine form.qubits line

  pub coming : (rest s ≡ [] → ⊥) → Coming
  coming e = go (lines_from (text_of s) (standing s)) refl fits_ahead
    where
      go : (l : List Line) → lines_from (text_of s) (standing s) ≡ l → All (FitsLine form.qubits) l → Coming
      go [] h a = absurd (e (ahead ∙ ap (flat_map line_bytes) h))
      go (x ∷ xs) h a = record { line = x; others = xs; next = h; fits = a.0 }

  abbrev pub before_line : Coming → BeforeLine form.qubits s
  before_line n = record { line = n.line; more = flat_map line_bytes n.others; fits = n.fits; text = ahead ∙ ap (flat_map line_bytes) n.next }

  -- once it is read, the others are to come
  module _ (n : Coming) (t : Reader) (same : text_of t ≡ text_of s) (left : rest t ≡ flat_map line_bytes n.others) where
    next_number : (standing t).line ≡ (standing s).line + 1
    next_number =
        let b = line_body form.qubits n.line n.fits in
        let text : rest s ≡ line_bytes n.line ++ rest t = ahead ∙ ap (flat_map line_bytes) n.next ∙ ap (λ l. line_bytes n.line ++ l) (sym left) in
        ap (λ (p : Place). p.line) (standing_moved s t (line_bytes n.line) same text)
        ∙ ap (λ l. (moved_by l (standing s)).line) b.ended
        ∙ line_passed b.body (standing s) b.on_line

    pub others_come : lines_from (text_of t) (standing t) ≡ n.others
    unfolding lines_from
    others_come =
        let i : (standing t).line - 1 ≡ (standing s).line - 1 + 1 = omega (arith, next_number, standing_line s) in
        (λ j. drop (i j) (lines_of (circuit_in (same j))))
        ∙ sym (drop-drop 1 ((standing s).line - 1) (lines_of (circuit_in (text_of s))))
        ∙ ap (drop 1) n.next

    pub others_ahead : rest t ≡ flat_map line_bytes (lines_from (text_of t) (standing t))
    others_ahead = left ∙ ap (flat_map line_bytes) (sym others_come)

-- at the start all lines are to come
pub all_come : (text : List ℕ) (s : Reader) → text_of s ≡ text → standing s ≡ place_after [] → lines_from (text_of s) (standing s) ≡ lines_of (circuit_in text)
unfolding lines_from place_after moved_by
all_come text s whole start = (λ i. drop ((start i).line - 1) (lines_of (circuit_in (whole i))))

pub all_ahead : (text : List ℕ) (form : Form) (s : Reader) → Passed text form → text_of s ≡ text → rest s ≡ text → standing s ≡ place_after [] → rest s ≡ flat_map line_bytes (lines_from (text_of s) (standing s))
unfolding written
all_ahead text form s p whole left start = left ∙ p.accepted.text_of_it ∙ ap (flat_map line_bytes) (sym (all_come text s whole start))
