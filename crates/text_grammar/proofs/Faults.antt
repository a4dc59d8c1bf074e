-- The place of a fault, for any syntax: what stands before it can go on, and with the token there it cannot.
use Rattle.std.proofs.Common.{◌≡◌, ℕ, Bool, true, false, cond, eqb, List, [], ◌∷◌, ◌++◌, length, Some, None, Ok, Err, decimal, Option, Result, sym, refl, ap, ◌∙◌, subst, append_assoc, append-nil, arith}
use Rattle.std.proofs.lemmas.Fmt.{decimal_nonempty}
use Rattle.std.proofs.lemmas.Bool.{cond-true, cond-false, eqb-true, eqb-false}
use Rattle.text_reader.specs.Tokens.{word_byte, run_of, first_word, past_word, token}
use Rattle.text_reader.proofs.Runs.{run_whole, split_run, run_all, past_ends}
use Rattle.text_numbers.specs.Numbers.{Small}
use Rattle.text_grammar.specs.Syntaxes.{Syntax, Verdict, Stop, Reading, read, judged}
use Rattle.text_grammar.specs.Syntaxes.Syntax.{done, finish, byte, word}
use Rattle.text_grammar.specs.Syntaxes.Verdict.{fits, wrong, beyond}
use Rattle.text_grammar.specs.Syntaxes.Stop.{unexpected, out_of_range}
use Rattle.text_grammar.proofs.Spelled.{Delimited, is_word}
use Rattle.text_grammar.proofs.Faithful.{err_not_ok, byte_back, byte_on, word_back, word_on, finish_back}

-- tokens
abbrev head : List ℕ → Option ℕ
head [] = None
head (b ∷ bs) = Some b

head_token : (t : List ℕ) → head (token t) ≡ head t
unfolding token run_of
head_token [] = refl
head_token (b ∷ bs) = go (word_byte b) refl
  where
    go : (q : Bool) → word_byte b ≡ q → head (cond q (cond q (b ∷ first_word bs) []) (b ∷ [])) ≡ Some b
    go true e = refl
    go false e = refl

same_head : (t u : List ℕ) → token u ≡ token t → head u ≡ head t
same_head t u e = sym (head_token u) ∙ ap head e ∙ head_token t

word_of_word : (t : List ℕ) → first_word (first_word t) ≡ first_word t
word_of_word t = ap first_word (sym (append-nil (first_word t))) ∙ run_whole word_byte (first_word t) [] (run_all word_byte t) tt

word_token : (t : List ℕ) → first_word (token t) ≡ first_word t
unfolding token run_of
word_token [] = refl
word_token (b ∷ bs) = go (word_byte b) refl (word_of_word bs)
  where
    go : (q : Bool) → word_byte b ≡ q → first_word (first_word bs) ≡ first_word bs → first_word (cond q (cond q (b ∷ first_word bs) []) (b ∷ [])) ≡ cond q (b ∷ first_word bs) []
    go true e h = cond-true _ _ _ e ∙ ap (λ l. b ∷ l) h
    go false e h = cond-false _ _ _ e

pub same_first_word : (t u : List ℕ) → token u ≡ token t → first_word u ≡ first_word t
same_first_word t u e = sym (word_token u) ∙ ap first_word e ∙ word_token t

-- a token of a text that begins with no word
pub same_delimited : (t u : List ℕ) → token u ≡ token t → Delimited t → Delimited u
same_delimited t [] e d = tt
same_delimited [] (b ∷ u) e d = let f : Some b ≡ None = same_head [] (b ∷ u) e in cc
same_delimited (a ∷ t) (b ∷ u) e d = let f : Some b ≡ Some a = same_head (a ∷ t) (b ∷ u) e in let q : b ≡ a = cc in ap word_byte q ∙ d

-- what ends a word comes next
abbrev pub Parted : Syntax → Type 0
Parted (done c) = ⊥
Parted (finish c) = ⊥
Parted (byte x p) = word_byte x ≡ false
Parted (word v next) = ⊥

-- a syntax that some text meets from everywhere: each word has an example, a space or line end follows it, and a count out of range is the number that stands there
unfoldable pub Open : Syntax → Type 0
Open (done c) = Unit {0}
Open (finish c) = Unit {0}
Open (byte x p) = Open p
Open (word v next) =
    ((w : List ℕ) × ((is_word w) × (v w ≡ fits)))
    × ((w : List ℕ) → v w ≡ fits → Parted (next w) × Open (next w))
    × ((w : List ℕ) (n : ℕ) → v w ≡ beyond n → (w ≡ decimal n) × Small n)

pub parted_text : (p : Syntax) (t : List ℕ) (c : Reading) → Parted p → read p t ≡ Ok c → Delimited t
parted_text (done d) t c h e = absurd h
parted_text (finish d) t c h e = absurd h
parted_text (byte x p) t c h e = let b = byte_back x p t c e in subst Delimited (sym b.1.0) h
parted_text (word v next) t c h e = absurd h

pub possible : (p : Syntax) → Open p → (u : List ℕ) × ((c : Reading) × (read p u ≡ Ok c))
unfolding Open read
possible (done c) o = ([], ((c, []), refl))
possible (finish c) o = ([], ((c, []), refl))
possible (byte x p) o = let r = possible p o in (x ∷ r.0, (r.1.0, byte_on x p r.0 ∙ r.1.1))
possible (word v next) o =
    let w = o.0.0 in
    let n = o.1 w o.0.1.1 in
    let r = possible (next w) n.1 in
    (w ++ r.0, (r.1.0, word_on v next w r.0 o.0.1.0 (parted_text (next w) r.0 r.1.0 n.0 r.1.1) o.0.1.1 ∙ r.1.1))

-- what is left where reading stops
abbrev pub left_at : Stop → List ℕ
left_at (unexpected t) = t
left_at (out_of_range n t) = t

pub record Breaks (p : Syntax) (t rest : List ℕ) : Type 0 where
  pub before : List ℕ
  pub whole : t ≡ before ++ rest
  pub can : (u : List ℕ) × ((c : Reading) × (read p (before ++ u) ≡ Ok c))
  pub cannot : (u : List ℕ) → token u ≡ token rest → (c : Reading) → read p (before ++ u) ≡ Ok c → ⊥

at_once : (p : Syntax) (t : List ℕ) → Open p → ((u : List ℕ) → token u ≡ token t → (c : Reading) → read p u ≡ Ok c → ⊥) → Breaks p t t
at_once p t o h = record { before = []; whole = refl; can = possible p o; cannot = h }

stop_is : (t : List ℕ) (s : Stop) (e : Stop) → ◌≡◌ {A = Result Reading Stop} (Err e) (Err s) → left_at e ≡ t → left_at s ≡ t
stop_is t s e h q = let x : e ≡ s = cc in sym (ap left_at x) ∙ q

-- past_word a word that fits
pub apart : (before rest : List ℕ) (u : List ℕ) → Delimited (before ++ rest) → token u ≡ token rest → Delimited (before ++ u)
apart [] rest u d q = same_delimited rest u q d
apart (b ∷ bs) rest u d q = d

word_breaks : (v : List ℕ → Verdict) (next : List ℕ → Syntax) (t rest : List ℕ) → Open (word v next) → v (first_word t) ≡ fits → Breaks (next (first_word t)) (past_word t) rest → Breaks (word v next) t rest
unfolding Open
word_breaks v next t rest o h r =
    let w = first_word t in
    let n = o.1 w h in
    let more : (u : List ℕ) → Delimited (r.before ++ u) → read (word v next) ((w ++ r.before) ++ u) ≡ read (next w) (r.before ++ u) = (λ u d. ap (read (word v next)) (append_assoc w r.before u) ∙ word_on v next w (r.before ++ u) (run_all word_byte t) d h) in
    let d : Delimited (r.before ++ rest) = subst Delimited r.whole (past_ends word_byte t) in
    record {
      before = w ++ r.before;
      whole = split_run word_byte t ∙ ap (λ l. w ++ l) r.whole ∙ sym (append_assoc w r.before rest);
      can = (r.can.0, (r.can.1.0, more r.can.0 (parted_text (next w) (r.before ++ r.can.0) r.can.1.0 n.0 r.can.1.1) ∙ r.can.1.1));
      cannot = λ u q c z. r.cannot u q c (sym (more u (apart r.before rest u d q)) ∙ z);
    }

pub breaks : (p : Syntax) (t : List ℕ) (s : Stop) → Open p → read p t ≡ Err s → Breaks p t (left_at s)
unfolding Open read judged
breaks (done d) t s o e = absurd (err_not_ok s (d, t) (sym e))
breaks (finish d) [] s o e = absurd (err_not_ok s (d, []) (sym e))
breaks (finish d) (b ∷ bs) s o e =
    subst (Breaks (finish d) (b ∷ bs)) (sym (stop_is (b ∷ bs) s _ e refl))
    (at_once (finish d) (b ∷ bs) tt (λ u q c h. let z = finish_back d u c h in
    let f : head [] ≡ Some b = ap head (sym z.0) ∙ same_head (b ∷ bs) u q in
    let x : ◌≡◌ {A = ℕ} 0 1 = cc in let y : ⊥ = omega arith in y))
breaks (byte x p) [] s o e =
    subst (Breaks (byte x p) []) (sym (stop_is [] s _ e refl))
    (at_once (byte x p) [] o (λ u q c h. let z = byte_back x p u c h in
    let f : Some x ≡ None = ap head (sym z.1.0) ∙ same_head [] u q in
    let y : ◌≡◌ {A = ℕ} 0 1 = cc in let w : ⊥ = omega arith in w))
breaks (byte x p) (b ∷ bs) s o e = go (eqb b x) refl e (breaks p bs s o)
  where
    go : (q : Bool) → eqb b x ≡ q → cond q (read p bs) (Err (unexpected (b ∷ bs))) ≡ Err s → (read p bs ≡ Err s → Breaks p bs (left_at s)) → Breaks (byte x p) (b ∷ bs) (left_at s)
    go false h f ih =
        subst (Breaks (byte x p) (b ∷ bs)) (sym (stop_is (b ∷ bs) s _ f refl))
        (at_once (byte x p) (b ∷ bs) o (λ u q c r. let z = byte_back x p u c r in
        let g : Some x ≡ Some b = ap head (sym z.1.0) ∙ same_head (b ∷ bs) u q in
        let y : x ≡ b = cc in eqb-false b x h (sym y)))
    go true h f ih =
        let r = ih f in
        record {
          before = x ∷ r.before;
          whole = ap (λ y. y ∷ bs) (eqb-true b x h) ∙ ap (λ l. x ∷ l) r.whole;
          can = (r.can.0, (r.can.1.0, byte_on x p (r.before ++ r.can.0) ∙ r.can.1.1));
          cannot = λ u q c z. r.cannot u q c (sym (byte_on x p (r.before ++ u)) ∙ z);
        }
breaks (word v next) t s o e = go (v (first_word t)) refl e (λ h. breaks (next (first_word t)) (past_word t) s (o.1 (first_word t) h).1)
  where
    not_here : ((v (first_word t) ≡ fits) → ⊥) → (u : List ℕ) → token u ≡ token t → (c : Reading) → read (word v next) u ≡ Ok c → ⊥
    not_here n u q c r = n (ap v (sym (same_first_word t u q)) ∙ (word_back v next u c r).0)

    go : (q : Verdict) → v (first_word t) ≡ q → judged q t (read (next (first_word t)) (past_word t)) ≡ Err s → (v (first_word t) ≡ fits → read (next (first_word t)) (past_word t) ≡ Err s → Breaks (next (first_word t)) (past_word t) (left_at s)) → Breaks (word v next) t (left_at s)
    go wrong h f ih =
        subst (Breaks (word v next) t) (sym (stop_is t s _ f refl))
        (at_once (word v next) t o (not_here (λ g. let k : wrong ≡ fits = sym h ∙ g in let y : ◌≡◌ {A = ℕ} 0 1 = cc in let z : ⊥ = omega arith in z)))
    go (beyond n) h f ih =
        subst (Breaks (word v next) t) (sym (stop_is t s _ f refl))
        (at_once (word v next) t o (not_here (λ g. let k : beyond n ≡ fits = sym h ∙ g in let y : ◌≡◌ {A = ℕ} 0 1 = cc in let z : ⊥ = omega arith in z)))
    go fits h f ih = word_breaks v next t (left_at s) o h (ih h f)

-- a count out of range is the number that stands there
pub out_of : (n m : ℕ) (rest rest' : List ℕ) → ◌≡◌ {A = Result Reading Stop} (Err (out_of_range n rest)) (Err (out_of_range m rest')) → (n ≡ m) × (rest ≡ rest')
out_of n m rest rest' h = (let q : n ≡ m = cc in q, let q : rest ≡ rest' = cc in q)

pub not_out : (n : ℕ) (t rest : List ℕ) → ◌≡◌ {A = Result Reading Stop} (Err (unexpected t)) (Err (out_of_range n rest)) → ⊥
not_out n t rest h = let y : ◌≡◌ {A = ℕ} 0 1 = cc in let z : ⊥ = omega arith in z

pub count_there : (p : Syntax) (t : List ℕ) (n : ℕ) (rest : List ℕ) → Open p → read p t ≡ Err (out_of_range n rest) → (first_word rest ≡ decimal n) × Small n
unfolding Open read judged
count_there (done d) t n rest o e = absurd (err_not_ok (out_of_range n rest) (d, t) (sym e))
count_there (finish d) [] n rest o e = absurd (err_not_ok (out_of_range n rest) (d, []) (sym e))
count_there (finish d) (b ∷ bs) n rest o e = absurd (not_out n (b ∷ bs) rest e)
count_there (byte x p) [] n rest o e = absurd (not_out n [] rest e)
count_there (byte x p) (b ∷ bs) n rest o e = go (eqb b x) e (count_there p bs n rest o)
  where
    go : (q : Bool) → cond q (read p bs) (Err (unexpected (b ∷ bs))) ≡ Err (out_of_range n rest) → (read p bs ≡ Err (out_of_range n rest) → (first_word rest ≡ decimal n) × Small n) → (first_word rest ≡ decimal n) × Small n
    go false f ih = absurd (not_out n (b ∷ bs) rest f)
    go true f ih = ih f
count_there (word v next) t n rest o e = go (v (first_word t)) refl e (λ h. count_there (next (first_word t)) (past_word t) n rest (o.1 (first_word t) h).1)
  where
    go : (q : Verdict) → v (first_word t) ≡ q → judged q t (read (next (first_word t)) (past_word t)) ≡ Err (out_of_range n rest) → (v (first_word t) ≡ fits → read (next (first_word t)) (past_word t) ≡ Err (out_of_range n rest) → (first_word rest ≡ decimal n) × Small n) → (first_word rest ≡ decimal n) × Small n
    go fits h f ih = ih h f
    go wrong h f ih = absurd (not_out n t rest f)
    go (beyond m) h f ih = let q = out_of m n t rest f in let r = o.2 (first_word t) n (h ∙ ap beyond q.0) in (ap first_word (sym q.1) ∙ r.0, r.1)

-- a token that is a number
pub count_token : (t : List ℕ) (n : ℕ) → first_word t ≡ decimal n → Small n → token t ≡ decimal n
unfolding token run_of
count_token [] n e s = e
count_token (b ∷ bs) n e s = go (word_byte b) refl e
  where
    go : (q : Bool) → word_byte b ≡ q → cond q (b ∷ first_word bs) [] ≡ decimal n → cond q (cond q (b ∷ first_word bs) []) (b ∷ []) ≡ decimal n
    go true h f = f
    go false h f = absurd (let l = decimal_nonempty n (omega arith) in let x : ⊥ = omega (arith, l, ap length f) in x)
