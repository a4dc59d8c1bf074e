-- Places after bytes.
use Rattle.std.proofs.Common.{◌≡◌, ℕ, suc, ◌+◌, ◌^◌, ◌<◌, ◌≤◌, true, false, cond, eqb, List, [], ◌∷◌, ◌++◌, length, take, drop, sym, refl, ap, ◌∙◌, add-zero, arith, length-drop, take-add}
use Rattle.std.proofs.lemmas.List.{length-take-le}
use Rattle.std.proofs.lemmas.Bool.{and_parts}
use Rattle.std.proofs.lemmas.Bool.Decides.{nat_tests}
use Rattle.text_reader.specs.declared.place.Place.{Place}
use Rattle.text_reader.specs.Tokens.{line_byte, word_byte, first_word}
use Rattle.text_reader.specs.Places.{moved, moved_by, place_after}
use Rattle.text_reader.proofs.Runs.{all_of, take_run, run_within, run_all}

pub moved_append : (xs ys : List ℕ) (p : Place) → moved_by (xs ++ ys) p ≡ moved_by ys (moved_by xs p)
unfolding moved_by
moved_append [] ys p = refl
moved_append (x ∷ xs) ys p = moved_append xs ys (moved x p)

-- bytes of a line stay on it
pub moved_on_line : (w : List ℕ) (p : Place) → all_of line_byte w ≡ true → moved_by w p ≡ record { line = p.line; column = p.column + length w }
unfolding moved_by
moved_on_line [] p a = ap (λ n. record { line = p.line; column = n }) (sym (add-zero p.column))
moved_on_line (b ∷ bs) p a =
    let q = and_parts (line_byte b) (all_of line_byte bs) a in
    let h : line_byte b ≡ true = q.0 in
    let d : eqb b 10 ≡ false = grind (arith, nat_tests) in
    ap (λ x. moved_by bs (cond x (record { line = p.line + 1; column = 1 }) (record { line = p.line; column = p.column + 1 }))) d
    ∙ moved_on_line bs (record { line = p.line; column = p.column + 1 }) q.1
    ∙ ap (λ n. record { line = p.line; column = n }) (let r : p.column + 1 + length bs ≡ p.column + suc (length bs) = omega arith in r)

-- a word's bytes are bytes of a line
pub word_on_line : (w : List ℕ) → all_of word_byte w ≡ true → all_of line_byte w ≡ true
word_on_line [] a = refl
word_on_line (b ∷ bs) a =
    let q = and_parts (word_byte b) (all_of word_byte bs) a in
    let h : word_byte b ≡ true = q.0 in
    let more : all_of line_byte bs ≡ true = word_on_line bs q.1 in
    grind (arith, nat_tests)

line_bound : (bs : List ℕ) (p : Place) → (moved_by bs p).line ≤ p.line + length bs
unfolding moved_by
line_bound [] p = omega arith
line_bound (b ∷ bs) p = elim (eqb b 10) as (λ x. (moved_by bs (cond x (record { line = p.line + 1; column = 1 }) (record { line = p.line; column = p.column + 1 }))).line ≤ p.line + suc (length bs)) [ true ↦ omega (arith, line_bound bs (record { line = p.line + 1; column = 1 })) | false ↦ omega (arith, line_bound bs (record { line = p.line; column = p.column + 1 })) ]

column_bound : (bs : List ℕ) (p : Place) → 1 ≤ p.column → (moved_by bs p).column ≤ p.column + length bs
unfolding moved_by
column_bound [] p h = omega arith
column_bound (b ∷ bs) p h = elim (eqb b 10) as (λ x. (moved_by bs (cond x (record { line = p.line + 1; column = 1 }) (record { line = p.line; column = p.column + 1 }))).column ≤ p.column + suc (length bs)) [ true ↦ omega (arith, column_bound bs (record { line = p.line + 1; column = 1 }) (omega arith)) | false ↦ omega (arith, column_bound bs (record { line = p.line; column = p.column + 1 }) (omega arith)) ]

-- lines are counted up
pub line_least : (bs : List ℕ) (p : Place) → p.line ≤ (moved_by bs p).line
unfolding moved_by
line_least [] p = omega arith
line_least (b ∷ bs) p = elim (eqb b 10) as (λ x. p.line ≤ (moved_by bs (cond x (record { line = p.line + 1; column = 1 }) (record { line = p.line; column = p.column + 1 }))).line) [ true ↦ omega (arith, line_least bs (record { line = p.line + 1; column = 1 })) | false ↦ omega (arith, line_least bs (record { line = p.line; column = p.column + 1 })) ]

-- bytes of a line and its end lead to the next
pub line_passed : (body : List ℕ) (p : Place) → all_of line_byte body ≡ true → (moved_by (body ++ (10 ∷ [])) p).line ≡ p.line + 1
unfolding moved_by
line_passed body p a = ap (λ (q : Place). q.line) (moved_append body (10 ∷ []) p ∙ ap (moved 10) (moved_on_line body p a))

-- a reader's place, as its ghost fields say it
pub record Stands (text : List ℕ) (pos : ℕ) (place : Place) : Type 0 where
  pub sized : length text < 2 ^ 63
  pub within : pos ≤ length text
  pub lines : place.line ≡ (place_after (take pos text)).line
  pub columns : place.column ≡ (place_after (take pos text)).column

pub stands_place : {text : List ℕ} {pos : ℕ} {place : Place} → Stands text pos place → place ≡ place_after (take pos text)
stands_place {text = text} {pos = pos} s =
    let q : Place = place_after (take pos text) in
    let h : _ ≡ q = (λ i. record { line = s.lines i; column = s.columns i }) in
    h

pub stands_room : {text : List ℕ} {pos : ℕ} {place : Place} → Stands text pos place → (place.line ≤ 1 + length text) × (place.column ≤ 1 + pos)
unfolding place_after
stands_room {text = text} {pos = pos} s =
    let one : Place = record { line = 1; column = 1 } in
    let l = line_bound (take pos text) one in
    let d = column_bound (take pos text) one (omega arith) in
    let n = length-take-le pos text s.within in
    (omega (arith, l, n, s.lines, s.within), omega (arith, d, n, s.columns))

pub stands_start : (text : List ℕ) → length text < 2 ^ 63 → Stands text 0 (record { line = 1; column = 1 })
unfolding place_after moved_by
stands_start text h = record { sized = h; within = omega arith; lines = refl; columns = refl }

pub stands_word : (text : List ℕ) (pos n : ℕ) (place : Place) → Stands text pos place → n ≡ length (first_word (drop pos text)) → Stands text (pos + n) (record { line = place.line; column = place.column + n })
unfolding place_after
stands_word text pos n place s e =
    let one : Place = record { line = 1; column = 1 } in
    let w = first_word (drop pos text) in
    let cut : take (pos + n) text ≡ take pos text ++ w =
    take-add pos n text ∙ ap (λ k. take pos text ++ take k (drop pos text)) e ∙ ap (λ l. take pos text ++ l) (take_run word_byte (drop pos text)) in
    let q = ap (λ l. moved_by l one) cut ∙ moved_append (take pos text) w one ∙ moved_on_line w _ (word_on_line w (run_all word_byte (drop pos text))) in
    let f = run_within word_byte (drop pos text) in
    record {
      sized = s.sized;
      within = omega (arith, e, f, length-drop pos text, s.within);
      lines = s.lines ∙ sym (ap (λ (p : Place). p.line) q);
      columns = ap (λ k. k + n) s.columns ∙ ap (λ k. (moved_by (take pos text) one).column + k) e ∙ sym (ap (λ (p : Place). p.column) q);
    }

pub stands_byte : (text : List ℕ) (pos b : ℕ) (place : Place) → Stands text pos place → drop pos text ≡ b ∷ drop (pos + 1) text → Stands text (pos + 1) (moved b place)
unfolding place_after moved_by
stands_byte text pos b place s e =
    let one : Place = record { line = 1; column = 1 } in
    let before : take (pos + 1) text ≡ take pos text ++ (b ∷ []) = take-add pos 1 text ∙ ap (λ l. take pos text ++ take 1 l) e in
    let r : moved b place ≡ moved_by (take (pos + 1) text) one = ap (moved b) (stands_place s) ∙ sym (ap (λ l. moved_by l one) before ∙ moved_append (take pos text) (b ∷ []) one) in
    record {
      sized = s.sized;
      within = omega (arith, length-drop pos text, ap length e);
      lines = ap (λ (p : Place). p.line) r;
      columns = ap (λ (p : Place). p.column) r;
    }
