-- A syntax and a looser one, which takes counts that are out of range: where they part.
use Rattle.std.proofs.Common.{◌≡◌, ℕ, zero, suc, Bool, true, false, cond, ◌&&◌, eqb, leb, List, [], ◌∷◌, ◌++◌, Some, None, Ok, Err, decimal, Option, sym, refl, ap, ◌∙◌, subst, append_assoc, arith}
use Rattle.std.proofs.lemmas.Bool.{eqb-true, and_from, le-leb}
use Rattle.text_reader.specs.Tokens.{word_byte, first_word, past_word, token}
use Rattle.text_reader.proofs.Runs.{run_whole, split_run, run_all, past_ends}
use Rattle.text_words.specs.declared.spelling.Section.{Section}
use Rattle.text_words.specs.declared.spelling.Section.TheVariants.{Qubits, Opens, Steps, Reads}
use Rattle.text_words.specs.declared.spelling.CountRange.{CountRange}
use Rattle.text_words.specs.declared.spelling.QuestionWord.{QuestionWord}
use Rattle.text_words.specs.declared.spelling.QuestionWord.TheVariants.{Amp, Weight, Same}
use Rattle.text_words.specs.Spelling.{step_of, question_of, range_of}
use Rattle.text_numbers.specs.Numbers.{Small, number_of}
use Rattle.text_numbers.proofs.Decimal.{number_says}
use Rattle.text_grammar.specs.Circuits.{Opening, Step, Question, any_count}
use Rattle.text_grammar.specs.Syntaxes.{Syntax, Verdict, Reading, read, judged, fitting, when, ranged, number, count, section_name, index, bit, step_name, question_name, several, spaced_number, opening, step, amp_tail, weight_tail, same_tail, question_tail, question, section, circuit_within, circuit, telling}
use Rattle.text_grammar.specs.Syntaxes.Syntax.{done, finish, byte, word}
use Rattle.text_grammar.specs.Syntaxes.Verdict.{fits, wrong, beyond}
use Rattle.text_grammar.specs.Syntaxes.Stop.{unexpected, out_of_range}
use Rattle.text_grammar.proofs.Spelled.{Delimited}
use Rattle.text_grammar.proofs.Faithful.{err_not_ok, byte_on, word_on}
use Rattle.text_grammar.proofs.Faults.{Open, possible, parted_text, apart, out_of, not_out, count_token}

-- what fits still fits, what is wrong stays wrong, and a count out of range fits
abbrev Eased : Verdict → Verdict → Type 0
Eased fits v = v ≡ fits
Eased wrong v = v ≡ wrong
Eased (beyond n) v = v ≡ fits

-- q wants what p does, but for eased words
unfoldable pub Looser : Syntax → Syntax → Type 0
Looser (done c) q = q ≡ done c
Looser (finish c) q = q ≡ finish c
Looser (byte x p) q = (p' : Syntax) × ((q ≡ byte x p') × Looser p p')
Looser (word v next) q =
    (v' : List ℕ → Verdict) × ((next' : List ℕ → Syntax) × ((q ≡ word v' next')
    × (((w : List ℕ) → Eased (v w) (v' w)) × ((w : List ℕ) → v w ≡ fits → Looser (next w) (next' w)))))

-- a token that fits nowhere in p fits nowhere in q either
pub same_stop : (p q : Syntax) (t rest : List ℕ) → Looser p q → read p t ≡ Err (unexpected rest) → read q t ≡ Err (unexpected rest)
unfolding Looser read judged
same_stop (done c) q t rest l e = absurd (err_not_ok (unexpected rest) (c, t) (sym e))
same_stop (finish c) q t rest l e = ap (λ s. read s t) l ∙ e
same_stop (byte x p) q [] rest l e = ap (λ s. read s []) l.1.0 ∙ e
same_stop (byte x p) q (b ∷ bs) rest l e = ap (λ s. read s (b ∷ bs)) l.1.0 ∙ go (eqb b x) e (same_stop p l.0 bs rest l.1.1)
  where
    go : (z : Bool) → cond z (read p bs) (Err (unexpected (b ∷ bs))) ≡ Err (unexpected rest) → (read p bs ≡ Err (unexpected rest) → read l.0 bs ≡ Err (unexpected rest)) → cond z (read l.0 bs) (Err (unexpected (b ∷ bs))) ≡ Err (unexpected rest)
    go true f ih = ih f
    go false f ih = f
same_stop (word v next) q t rest l e =
    ap (λ s. read s t) l.1.1.0 ∙ go (v (first_word t)) refl e (l.1.1.1.0 (first_word t)) (λ h. same_stop (next (first_word t)) (l.1.0 (first_word t)) (past_word t) rest (l.1.1.1.1 (first_word t) h))
  where
    go : (z : Verdict) → v (first_word t) ≡ z → judged z t (read (next (first_word t)) (past_word t)) ≡ Err (unexpected rest) → Eased (v (first_word t)) (l.0 (first_word t)) → (v (first_word t) ≡ fits → read (next (first_word t)) (past_word t) ≡ Err (unexpected rest) → read (l.1.0 (first_word t)) (past_word t) ≡ Err (unexpected rest)) → judged (l.0 (first_word t)) t (read (l.1.0 (first_word t)) (past_word t)) ≡ Err (unexpected rest)
    go fits h f ez ih = let g : l.0 (first_word t) ≡ fits = subst (λ z. Eased z (l.0 (first_word t))) h ez in ap (λ z. judged z t (read (l.1.0 (first_word t)) (past_word t))) g ∙ ih h f
    go wrong h f ez ih = let g : l.0 (first_word t) ≡ wrong = subst (λ z. Eased z (l.0 (first_word t))) h ez in ap (λ z. judged z t (read (l.1.0 (first_word t)) (past_word t))) g ∙ f
    go (beyond n) h f ez ih = absurd (not_out n rest t (sym f))

-- q takes the token at which p stops, and goes on from it
pub record Through (q : Syntax) (t rest : List ℕ) : Type 0 where
  pub before : List ℕ
  pub whole : t ≡ before ++ rest
  pub more : List ℕ
  pub there : token more ≡ token rest
  pub found : Reading
  pub goes : read q (before ++ more) ≡ Ok found

through_here : (v : List ℕ → Verdict) (next : List ℕ → Syntax) (t : List ℕ) (n : ℕ) → Open (word v next) → v (first_word t) ≡ fits → first_word t ≡ decimal n → Small n → Through (word v next) t t
unfolding Open
through_here v next t n o h d s =
    let w = first_word t in
    let k = o.1 w h in
    let r = possible (next w) k.1 in
    let del = parted_text (next w) r.0 r.1.0 k.0 r.1.1 in
    record {
      before = [];
      whole = refl;
      more = w ++ r.0;
      there = count_token (w ++ r.0) n (run_whole word_byte w r.0 (run_all word_byte t) del ∙ d) s ∙ sym (count_token t n d s);
      found = r.1.0;
      goes = word_on v next w r.0 (run_all word_byte t) del h ∙ r.1.1;
    }

through_word : (v : List ℕ → Verdict) (next : List ℕ → Syntax) (t rest : List ℕ) → v (first_word t) ≡ fits → Through (next (first_word t)) (past_word t) rest → Through (word v next) t rest
through_word v next t rest h r =
    let w = first_word t in
    let d : Delimited (r.before ++ rest) = subst Delimited r.whole (past_ends word_byte t) in
    record {
      before = w ++ r.before;
      whole = split_run word_byte t ∙ ap (λ l. w ++ l) r.whole ∙ sym (append_assoc w r.before rest);
      more = r.more;
      there = r.there;
      found = r.found;
      goes = ap (read (word v next)) (append_assoc w r.before r.more) ∙ word_on v next w (r.before ++ r.more) (run_all word_byte t) (apart r.before rest r.more d r.there) h ∙ r.goes;
    }

pub let_through : (p q : Syntax) (t : List ℕ) (n : ℕ) (rest : List ℕ) → Open p → Open q → Looser p q → read p t ≡ Err (out_of_range n rest) → Through q t rest
unfolding Looser read judged Open
let_through (done c) q t n rest o o' l e = absurd (err_not_ok (out_of_range n rest) (c, t) (sym e))
let_through (finish c) q [] n rest o o' l e = absurd (err_not_ok (out_of_range n rest) (c, []) (sym e))
let_through (finish c) q (b ∷ bs) n rest o o' l e = absurd (not_out n (b ∷ bs) rest e)
let_through (byte x p) q [] n rest o o' l e = absurd (not_out n [] rest e)
let_through (byte x p) q (b ∷ bs) n rest o o' l e =
    subst (λ s. Through s (b ∷ bs) rest) (sym l.1.0) (go (eqb b x) refl e (let_through p l.0 bs n rest o (subst Open l.1.0 o') l.1.1))
  where
    go : (z : Bool) → eqb b x ≡ z → cond z (read p bs) (Err (unexpected (b ∷ bs))) ≡ Err (out_of_range n rest) → (read p bs ≡ Err (out_of_range n rest) → Through l.0 bs rest) → Through (byte x l.0) (b ∷ bs) rest
    go false h f ih = absurd (not_out n (b ∷ bs) rest f)
    go true h f ih =
        let r = ih f in
        record {
          before = x ∷ r.before;
          whole = ap (λ z. z ∷ bs) (eqb-true b x h) ∙ ap (λ m. x ∷ m) r.whole;
          more = r.more;
          there = r.there;
          found = r.found;
          goes = byte_on x l.0 (r.before ++ r.more) ∙ r.goes;
        }
let_through (word v next) q t n rest o o' l e =
    subst (λ s. Through s t rest) (sym l.1.1.0)
    (go (v (first_word t)) refl e (l.1.1.1.0 (first_word t)) (subst Open l.1.1.0 o') (λ h g. let_through (next (first_word t)) (l.1.0 (first_word t)) (past_word t) n rest (o.1 (first_word t) h).1 ((subst Open l.1.1.0 o').1 (first_word t) g).1 (l.1.1.1.1 (first_word t) h)))
  where
    go : (z : Verdict) → v (first_word t) ≡ z → judged z t (read (next (first_word t)) (past_word t)) ≡ Err (out_of_range n rest) → Eased (v (first_word t)) (l.0 (first_word t)) → Open (word l.0 l.1.0) → (v (first_word t) ≡ fits → l.0 (first_word t) ≡ fits → read (next (first_word t)) (past_word t) ≡ Err (out_of_range n rest) → Through (l.1.0 (first_word t)) (past_word t) rest) → Through (word l.0 l.1.0) t rest
    go fits h f ez op ih = let g : l.0 (first_word t) ≡ fits = subst (λ z. Eased z (l.0 (first_word t))) h ez in through_word l.0 l.1.0 t rest g (ih h g f)
    go wrong h f ez op ih = absurd (not_out n t rest f)
    go (beyond m) h f ez op ih =
        let g : l.0 (first_word t) ≡ fits = subst (λ z. Eased z (l.0 (first_word t))) h ez in
        let q' = out_of m n t rest f in
        let d = o.2 (first_word t) m h in
        subst (Through (word l.0 l.1.0) t) q'.1 (through_here l.0 l.1.0 t m op g d.0 d.1)

-- circuit text, and the same with any counts
ranged_eased : (r : CountRange) (w : List ℕ) (o : Option ℕ) → number_of w ≡ o → Eased (ranged r o) (ranged (record { least = 0; most = 99999 }) o)
ranged_eased r w None h = refl
ranged_eased r w (Some n) h =
    let s = (number_says w n h).0 in
    let far : cond (leb 0 n && leb n 99999) fits (beyond n) ≡ fits = ap (λ q. cond q fits (beyond n)) (and_from _ _ (le-leb 0 n (omega arith)) (le-leb n 99999 (omega arith))) in
    elim (leb r.least n && leb n r.most) as (λ q. Eased (cond q fits (beyond n)) (cond (leb 0 n && leb n 99999) fits (beyond n))) [ true ↦ far | false ↦ far ]

fitting_eased : {A : Type 0} (o : Option A) → Eased (fitting o) (fitting o)
fitting_eased (Some a) = refl
fitting_eased None = refl

when_eased : (b : Bool) → Eased (when b) (when b)
when_eased true = refl
when_eased false = refl

abbrev Onto : {A : Type 0} → (A → Syntax) → (A → Syntax) → Type 0
Onto {A = A} k j = (a : A) → Looser (k a) (j a)

looser_byte : (x : ℕ) (p q : Syntax) → Looser p q → Looser (byte x p) (byte x q)
unfolding Looser
looser_byte x p q l = (q, (refl, l))

looser_word : (v v' : List ℕ → Verdict) (next next' : List ℕ → Syntax) → ((w : List ℕ) → Eased (v w) (v' w)) → ((w : List ℕ) → Looser (next w) (next' w)) → Looser (word v next) (word v' next')
unfolding Looser
looser_word v v' next next' e l = (v', (next', (refl, (e, λ w h. l w))))

looser_number : (k j : ℕ → Syntax) → Onto k j → Looser (number k) (number j)
unfolding number telling
looser_number k j l = looser_word _ _ _ _ (λ w. fitting_eased (number_of w)) (λ w. l _)

looser_index : (n : ℕ) (k j : List Bool → Syntax) → Onto k j → Looser (index n k) (index n j)
unfolding index
looser_index n k j l = looser_word _ _ _ _ (λ w. when_eased _) (λ w. l _)

looser_bit : (k j : Bool → Syntax) → Onto k j → Looser (bit k) (bit j)
unfolding bit
looser_bit k j l = looser_word _ _ _ _ (λ w. when_eased _) (λ w. l _)

looser_section : (r : CountRange) (s : Section) (k j : ℕ → Syntax) → Onto k j → Looser (section r s k) (section (any_count s) s j)
unfolding section section_name count
looser_section r s k j l =
    looser_word _ _ _ _ (λ w. when_eased _) (λ w. looser_byte 32 _ _
    (looser_word _ _ _ _ (λ w. ranged_eased r w (number_of w) refl) (λ w. looser_byte 10 _ _ (l _))))

looser_several : {A : Type 0} (phrase : (A → Syntax) → Syntax) → ((k j : A → Syntax) → Onto k j → Looser (phrase k) (phrase j)) → (m : ℕ) (k j : List A → Syntax) → Onto k j → Looser (several phrase m k) (several phrase m j)
unfolding several
looser_several phrase h zero k j l = l []
looser_several phrase h (suc m) k j l = h _ _ (λ a. looser_several phrase h m (λ more. k (a ∷ more)) (λ more. j (a ∷ more)) (λ more. l (a ∷ more)))

looser_spaced : (k j : ℕ → Syntax) → Onto k j → Looser (spaced_number k) (spaced_number j)
unfolding spaced_number
looser_spaced k j l = looser_byte 32 _ _ (looser_number k j l)

looser_opening : (n : ℕ) (k j : Opening → Syntax) → Onto k j → Looser (opening n k) (opening n j)
unfolding opening
looser_opening n k j l = looser_number _ _ (λ r. looser_byte 32 _ _ (looser_index n _ _ (λ bits. looser_byte 10 _ _ (l _))))

looser_step : (k j : Step → Syntax) → Onto k j → Looser (step k) (step j)
unfolding step step_name telling
looser_step k j l = looser_word _ _ _ _ (λ w. fitting_eased (step_of w)) (λ w. looser_several spaced_number looser_spaced _ _ _ (λ ns. looser_byte 10 _ _ (l _)))

looser_tail : (n : ℕ) (k j : Question → Syntax) → Onto k j → (q : QuestionWord) → Looser (question_tail n k q) (question_tail n j q)
unfolding question_tail amp_tail weight_tail same_tail
looser_tail n k j l Amp = looser_spaced _ _ (λ r. looser_byte 32 _ _ (looser_index n _ _ (λ bits. looser_byte 10 _ _ (l _))))
looser_tail n k j l Weight = looser_spaced _ _ (λ r. looser_spaced _ _ (λ q. looser_byte 32 _ _ (looser_bit _ _ (λ b. looser_byte 10 _ _ (l _)))))
looser_tail n k j l Same = looser_spaced _ _ (λ r. looser_spaced _ _ (λ q. looser_byte 10 _ _ (l _)))

looser_question : (n : ℕ) (k j : Question → Syntax) → Onto k j → Looser (question n k) (question n j)
unfolding question question_name telling
looser_question n k j l = looser_word _ _ _ _ (λ w. fitting_eased (question_of w)) (λ w. looser_tail n k j l _)

pub looser_circuit : Looser circuit (circuit_within any_count)
unfolding circuit_within Looser
looser_circuit =
    looser_section (range_of Qubits) Qubits _ _ (λ n.
    looser_section (range_of Opens) Opens _ _ (λ a. looser_several _ (looser_opening n) a _ _ (λ os.
    looser_section (range_of Steps) Steps _ _ (λ b. looser_several _ looser_step b _ _ (λ ss.
    looser_section (range_of Reads) Reads _ _ (λ d. looser_several _ (looser_question n) d _ _ (λ rs. refl)))))))
