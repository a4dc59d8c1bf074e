-- A phrase reads just what is spelled, both ways: phrases built up from words.
use Rattle.std.proofs.Common.{◌≡◌, ℕ, zero, suc, Bool, true, false, cond, eqb, List, [], ◌∷◌, ◌++◌, length, Ok, Err, sym, refl, ap, ◌∙◌, subst, append_assoc, arith}
use Rattle.std.specs.List.{flat_map, AllByRecursion as All}
use Rattle.std.proofs.lemmas.Bool.{eqb-true, eq-eqb}
use Rattle.text_reader.specs.Tokens.{word_byte, first_word, past_word}
use Rattle.text_reader.proofs.Runs.{run_whole, past_whole, split_run}
use Rattle.text_grammar.specs.Circuits.{Circuit}
use Rattle.text_grammar.specs.Syntaxes.{Syntax, Verdict, Reading, read, judged, several}
use Rattle.text_grammar.specs.Syntaxes.Syntax.{finish, byte, word}
use Rattle.text_grammar.specs.Syntaxes.Verdict.{fits, wrong, beyond}
use Rattle.text_grammar.specs.Syntaxes.Stop.{unexpected}
use Rattle.text_grammar.proofs.Spelled.{Delimited, is_word}

pub err_not_ok : {X E : Type 0} (e : E) (x : X) → Err e ≡ Ok x → ⊥
err_not_ok e x h = cc

-- one step back
pub byte_back : (x : ℕ) (p : Syntax) (t : List ℕ) (c : Reading) → read (byte x p) t ≡ Ok c → (rest : List ℕ) × ((t ≡ x ∷ rest) × (read p rest ≡ Ok c))
unfolding read
byte_back x p [] c e = absurd (err_not_ok _ _ e)
byte_back x p (b ∷ bs) c e = go (eqb b x) refl e
  where
    go : (q : Bool) → eqb b x ≡ q → cond q (read p bs) (Err (unexpected (b ∷ bs))) ≡ Ok c → (rest : List ℕ) × ((b ∷ bs ≡ x ∷ rest) × (read p rest ≡ Ok c))
    go true h f = (bs, (ap (λ y. y ∷ bs) (eqb-true b x h), f))
    go false h f = absurd (err_not_ok _ _ f)

pub byte_on : (x : ℕ) (p : Syntax) (rest : List ℕ) → read (byte x p) (x ∷ rest) ≡ read p rest
unfolding read
byte_on x p rest = ap (λ q. cond q (read p rest) (Err (unexpected (x ∷ rest)))) (eq-eqb x x refl)

pub word_back : (v : List ℕ → Verdict) (next : List ℕ → Syntax) (t : List ℕ) (c : Reading) → read (word v next) t ≡ Ok c → (v (first_word t) ≡ fits) × (read (next (first_word t)) (past_word t) ≡ Ok c)
unfolding read judged
word_back v next t c e = go (v (first_word t)) refl e
  where
    go : (q : Verdict) → v (first_word t) ≡ q → judged q t (read (next (first_word t)) (past_word t)) ≡ Ok c → (v (first_word t) ≡ fits) × (read (next (first_word t)) (past_word t) ≡ Ok c)
    go fits h f = (h, f)
    go wrong h f = absurd (err_not_ok _ _ f)
    go (beyond n) h f = absurd (err_not_ok _ _ f)

pub word_on : (v : List ℕ → Verdict) (next : List ℕ → Syntax) (w rest : List ℕ) → is_word w → Delimited rest → v w ≡ fits → read (word v next) (w ++ rest) ≡ read (next w) rest
unfolding read judged
word_on v next w rest p d h =
    ap (λ f. judged (v f) (w ++ rest) (read (next f) (past_word (w ++ rest)))) (run_whole word_byte w rest p d)
    ∙ ap (λ q. judged q (w ++ rest) (read (next w) (past_word (w ++ rest)))) h
    ∙ ap (read (next w)) (past_whole word_byte w rest p d)

pub finish_back : (d : Circuit) (t : List ℕ) (c : Reading) → read (finish d) t ≡ Ok c → (t ≡ []) × ((d, []) ≡ c)
unfolding read
finish_back d [] c e = (refl, let q : (d, []) ≡ c = cc in q)
finish_back d (b ∷ bs) c e = absurd (err_not_ok _ _ e)

-- what a reading that passes found
pub record Found {A : Type 0} (spell : A → List ℕ) (Fine : A → Type 0) (k : A → Syntax) (t : List ℕ) (c : Reading) : Type 0 where
  pub value : A
  pub fine : Fine value
  pub rest : List ℕ
  pub text : t ≡ spell value ++ rest
  pub goes : read (k value) rest ≡ Ok c

pub record Faithful {A : Type 0} (phrase : (A → Syntax) → Syntax) (spell : A → List ℕ) (Fine : A → Type 0) (Tail : List ℕ → Type 0) : Type 0 where
  pub sound : (k : A → Syntax) (t : List ℕ) (c : Reading) → read (phrase k) t ≡ Ok c → Found spell Fine k t c
  pub complete : (k : A → Syntax) (a : A) (rest : List ℕ) → Fine a → Tail rest → read (phrase k) (spell a ++ rest) ≡ read (k a) rest

abbrev pub Any : List ℕ → Type 0
Any t = Unit {0}

pub word_reads : {A : Type 0} (v : List ℕ → Verdict) (value : List ℕ → A) (spell : A → List ℕ) (Fine : A → Type 0) → ((w : List ℕ) → v w ≡ fits → (w ≡ spell (value w)) × Fine (value w)) → ((a : A) → Fine a → (v (spell a) ≡ fits) × (value (spell a) ≡ a) × (is_word (spell a))) → Faithful (λ k. word v (λ w. k (value w))) spell Fine Delimited
word_reads v value spell Fine says back = record {
  sound = λ k t c e.
      let b = word_back v (λ w. k (value w)) t c e in
      let s = says (first_word t) b.0 in
      record { value = value (first_word t); fine = s.1; rest = past_word t; text = split_run word_byte t ∙ ap (λ w. w ++ past_word t) s.0; goes = b.1 };
  complete = λ k a rest f d. let b = back a f in word_on v (λ w. k (value w)) (spell a) rest b.2 d b.0 ∙ ap (λ x. read (k x) rest) b.1;
}

pub before_reads : {A : Type 0} {phrase : (A → Syntax) → Syntax} {spell : A → List ℕ} {Fine : A → Type 0} {Tail : List ℕ → Type 0} (x : ℕ) → Faithful phrase spell Fine Tail → Faithful (λ k. byte x (phrase k)) (λ a. x ∷ spell a) Fine Tail
before_reads {phrase = phrase} x r = record {
  sound = λ k t c e.
      let b = byte_back x (phrase k) t c e in
      let f = r.sound k b.0 c b.1.1 in
      record { value = f.value; fine = f.fine; rest = f.rest; text = b.1.0 ∙ ap (λ l. x ∷ l) f.text; goes = f.goes };
  complete = λ k a rest f d. byte_on x (phrase k) _ ∙ r.complete k a rest f d;
}

pub ended_reads : {A : Type 0} {phrase : (A → Syntax) → Syntax} {spell : A → List ℕ} {Fine : A → Type 0} (x : ℕ) → word_byte x ≡ false → Faithful phrase spell Fine Delimited → Faithful (λ k. phrase (λ a. byte x (k a))) (λ a. spell a ++ (x ∷ [])) Fine Any
ended_reads {spell = spell} x p r = record {
  sound = λ k t c e.
      let f = r.sound (λ a. byte x (k a)) t c e in
      let b = byte_back x (k f.value) f.rest c f.goes in
      record { value = f.value; fine = f.fine; rest = b.0; text = f.text ∙ ap (λ l. spell f.value ++ l) b.1.0 ∙ sym (append_assoc (spell f.value) (x ∷ []) b.0); goes = b.1.1 };
  complete = λ k a rest f d. ap (read _) (append_assoc (spell a) (x ∷ []) rest) ∙ r.complete (λ a. byte x (k a)) a (x ∷ rest) f p ∙ byte_on x (k a) rest;
}

pub then_reads : {A B : Type 0} {first : (A → Syntax) → Syntax} {spell₁ : A → List ℕ} {Fine₁ : A → Type 0} {Tail₁ : List ℕ → Type 0} (second : A → (B → Syntax) → Syntax) (spell₂ : A → B → List ℕ) (Fine₂ : A → B → Type 0) (Tail₂ : List ℕ → Type 0) → Faithful first spell₁ Fine₁ Tail₁ → ((a : A) → Faithful (second a) (spell₂ a) (Fine₂ a) Tail₂) → ((a : A) (b : B) (rest : List ℕ) → Fine₂ a b → Tail₂ rest → Tail₁ (spell₂ a b ++ rest)) → Faithful (λ (k : A × B → Syntax). first (λ a. second a (λ b. k (a, b)))) (λ p. spell₁ p.0 ++ spell₂ p.0 p.1) (λ p. Fine₁ p.0 × Fine₂ p.0 p.1) Tail₂
then_reads {spell₁ = spell₁} second spell₂ Fine₂ Tail₂ r s link = record {
  sound = λ k t c e.
      let f = r.sound (λ a. second a (λ b. k (a, b))) t c e in
      let g = (s f.value).sound (λ b. k (f.value, b)) f.rest c f.goes in
      record { value = (f.value, g.value); fine = (f.fine, g.fine); rest = g.rest; text = f.text ∙ ap (λ l. spell₁ f.value ++ l) g.text ∙ sym (append_assoc (spell₁ f.value) (spell₂ f.value g.value) g.rest); goes = g.goes };
  complete = λ k p rest f d.
      ap (read _) (append_assoc (spell₁ p.0) (spell₂ p.0 p.1) rest)
      ∙ r.complete (λ a. second a (λ b. k (a, b))) p.0 (spell₂ p.0 p.1 ++ rest) f.0 (link p.0 p.1 rest f.1 d)
      ∙ (s p.0).complete (λ b. k (p.0, b)) p.1 rest f.1 d;
}

-- the same under other names for its values and texts
pub same_reads : {A B : Type 0} {phrase : (A → Syntax) → Syntax} {spell : A → List ℕ} {Fine : A → Type 0} {Tail : List ℕ → Type 0} (to : A → B) (from : B → A) (spelled : B → List ℕ) (Good : B → Type 0) → Faithful phrase spell Fine Tail → ((b : B) → to (from b) ≡ b) → ((a : A) → spell a ≡ spelled (to a)) → ((a : A) → Fine a → Good (to a)) → ((b : B) → Good b → Fine (from b)) → Faithful (λ (k : B → Syntax). phrase (λ a. k (to a))) spelled Good Tail
same_reads {phrase = phrase} {spell = spell} to from spelled Good r round same good fine = record {
  sound = λ k t c e.
      let f = r.sound (λ a. k (to a)) t c e in
      record { value = to f.value; fine = good f.value f.fine; rest = f.rest; text = f.text ∙ ap (λ l. l ++ f.rest) (same f.value); goes = f.goes };
  complete = λ k b rest g d.
      let text : spelled b ≡ spell (from b) = ap spelled (sym (round b)) ∙ sym (same (from b)) in
      ap (λ l. read (phrase (λ a. k (to a))) (l ++ rest)) text ∙ r.complete (λ a. k (to a)) (from b) rest (fine b g) d ∙ ap (λ x. read (k x) rest) (round b);
}

-- several of one kind
module _ {A : Type 0} {phrase : (A → Syntax) → Syntax} {spell : A → List ℕ} {Fine : A → Type 0} {Tail : List ℕ → Type 0} (r : Faithful phrase spell Fine Tail) (link : (a : A) (rest : List ℕ) → Tail (spell a ++ rest)) where
  abbrev Fines : ℕ → List A → Type 0
  Fines m xs = (length xs ≡ m) × All Fine xs

  several_sound : (m : ℕ) (k : List A → Syntax) (t : List ℕ) (c : Reading) → read (several phrase m k) t ≡ Ok c → Found (flat_map spell) (Fines m) k t c
  unfolding several
  several_sound zero k t c e = record { value = []; fine = (refl, tt); rest = t; text = refl; goes = e }
  several_sound (suc m) k t c e =
      let f = r.sound (λ a. several phrase m (λ more. k (a ∷ more))) t c e in
      let g = several_sound m (λ more. k (f.value ∷ more)) f.rest c f.goes in
      record {
        value = f.value ∷ g.value;
        fine = (ap suc g.fine.0, (f.fine, g.fine.1));
        rest = g.rest;
        text = f.text ∙ ap (λ l. spell f.value ++ l) g.text ∙ sym (append_assoc (spell f.value) (flat_map spell g.value) g.rest);
        goes = g.goes;
      }

  tails : (xs : List A) (rest : List ℕ) → Tail rest → Tail (flat_map spell xs ++ rest)
  tails [] rest d = d
  tails (x ∷ xs) rest d = subst Tail (sym (append_assoc (spell x) (flat_map spell xs) rest)) (link x (flat_map spell xs ++ rest))

  several_complete : (m : ℕ) (k : List A → Syntax) (xs : List A) (rest : List ℕ) → Fines m xs → Tail rest → read (several phrase m k) (flat_map spell xs ++ rest) ≡ read (k xs) rest
  unfolding several
  several_complete zero k [] rest f d = refl
  several_complete zero k (x ∷ xs) rest f d = absurd (let b : ⊥ = omega (arith, f.0) in b)
  several_complete (suc m) k [] rest f d = absurd (let b : ⊥ = omega (arith, f.0) in b)
  several_complete (suc m) k (x ∷ xs) rest f d =
      let n : length xs ≡ m = omega (arith, f.0) in
      ap (read (several phrase (suc m) k)) (append_assoc (spell x) (flat_map spell xs) rest)
      ∙ r.complete (λ a. several phrase m (λ more. k (a ∷ more))) x (flat_map spell xs ++ rest) f.1.0 (tails xs rest d)
      ∙ several_complete m (λ more. k (x ∷ more)) xs rest (n, f.1.1) d

  pub several_reads : (m : ℕ) → Faithful (several phrase m) (flat_map spell) (Fines m) Tail
  several_reads m = record { sound = several_sound m; complete = several_complete m }
