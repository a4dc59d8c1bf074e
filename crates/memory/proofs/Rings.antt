-- A ring of 64 entries, of which the oldest gives way.
use Rattle.std.proofs.Common.{◌≡◌, ℕ, suc, ◌+◌, ◌%◌, ◌<◌, ◌≤◌, ◌⊎◌, List, [], ◌∷◌, ◌++◌, length, take, drop, set, get_or, sym, refl, ap, ap₂, ◌∙◌, append_assoc, arith, inl, inr}
use Rattle.std.specs.Prelude.{reverse, Some, None, Option, option_map}
use Rattle.std.specs.Option.{option_or}
use Rattle.std.specs.List.{refill, find}
use Rattle.std.proofs.lemmas.List.Folds.{find-append}
use Rattle.std.proofs.Math.Seq.{drop-cons, take-append_seam}
use Rattle.std.proofs.lemmas.List.{append-nil, take_all, drop_all, take_more_set, drop-set-lt, reverse-append, length-reverse, length-append, length-take-le, length-drop, length-set}
use Rattle.std.proofs.lemmas.Bool.{cases_lt}
use Rattle.functions.specs.declared.combination.Combination.{Combination}
use Rattle.memory.specs.declared.entry.Remembered.{Remembered}
use Rattle.memory.specs.Recalling.{is_for, recalled}

-- ---- what is recalled of two parts, the newer first
module _ (newer older : List Remembered) (c : Combination) where
  pub recalled_newer : (a : ℕ) → recalled newer c ≡ Some a → recalled (newer ++ older) c ≡ Some a
  recalled_newer a e = ap (option_map (λ (r : Remembered). r.answer)) (find-append (is_for c) newer older) ∙ go (find (is_for c) newer) e
    where
      go : (o : Option Remembered) → option_map (λ (r : Remembered). r.answer) o ≡ Some a → option_map (λ (r : Remembered). r.answer) (option_or o (find (is_for c) older)) ≡ Some a
      go (Some r) e = e
      go None e = absurd (cc)

  pub recalled_older : recalled newer c ≡ None → recalled (newer ++ older) c ≡ recalled older c
  recalled_older e = ap (option_map (λ (r : Remembered). r.answer)) (find-append (is_for c) newer older) ∙ go (find (is_for c) newer) e
    where
      go : (o : Option Remembered) → option_map (λ (r : Remembered). r.answer) o ≡ None → option_map (λ (r : Remembered). r.answer) (option_or o (find (is_for c) older)) ≡ recalled older c
      go (Some r) e = absurd (cc)
      go None e = refl

-- ---- the ring
module _ {A : Type 0} where
  -- all entries, the newest first, where the oldest stands at a place
  abbrev pub round : ℕ → List A → List A
  round oldest es = reverse (take oldest es) ++ reverse (drop oldest es)

  -- a slice of full length written back
  pub refilled : (n : ℕ) (es ws : List A) → length ws ≡ n → refill n es ws ≡ ws
  refilled n es ws l = ap (λ (k : ℕ). take k (ws ++ drop (length ws) es)) (sym l) ∙ take-append_seam ws (drop (length ws) es)

  -- one more where there is room
  pub written_more : (es : List A) (oldest : ℕ) (e : A) → length es < 64 → oldest ≡ 0 → round oldest (es ++ e ∷ []) ≡ take 64 (e ∷ round oldest es)
  written_more es oldest e l z =
      ap (λ (o : ℕ). round o (es ++ e ∷ [])) z
      ∙ reverse-append es (e ∷ [])
      ∙ sym (take_all 64 (e ∷ reverse es) (let r = length-reverse es in omega arith))
      ∙ ap (λ (o : ℕ). take 64 (e ∷ round o es)) (sym z)

  -- past the last place comes the first
  wraps : (es : List A) (next : ℕ) → length es ≡ 64 → next ≤ 64 → round (next % 64) es ≡ round next es
  wraps es next l h = go (cases_lt next 64)
    where
      whole : round 64 es ≡ reverse es
      whole =
          ap₂ (λ (x y : List A). reverse x ++ reverse y) (take_all 64 es (omega arith)) (drop_all 64 es (omega arith)) ∙ append-nil (reverse es)

      go : (next < 64) ⊎ (64 ≤ next) → round (next % 64) es ≡ round next es
      go (inl m) = ap (λ (o : ℕ). round o es) (let z : next % 64 ≡ next = omega arith in z)
      go (inr m) =
          let z : next ≡ 64 = omega arith in
          ap (λ (o : ℕ). round (o % 64) es) z ∙ sym whole ∙ ap (λ (o : ℕ). round o es) (sym z)

  -- the oldest gives way
  gives_way : (es : List A) (oldest : ℕ) (e : A) → length es ≡ 64 → oldest < 64 → e ∷ reverse (take oldest es) ++ reverse (drop (oldest + 1) es) ≡ take 64 (e ∷ round oldest es)
  gives_way es oldest e l h =
      let x = get_or es oldest e in
      let front = reverse (take oldest es) in
      let back = reverse (drop (oldest + 1) es) in
      let next : suc oldest ≡ oldest + 1 = omega arith in
      let parts : reverse (drop oldest es) ≡ back ++ x ∷ [] = ap reverse (drop-cons es oldest e (omega arith) ∙ ap (λ (o : ℕ). x ∷ drop o es) next) ∙ reverse-append (x ∷ []) (drop (oldest + 1) es) in
      let a = length-reverse (take oldest es) in
      let b = length-take-le oldest es (omega arith) in
      let c = length-reverse (drop (oldest + 1) es) in
      let d = length-drop (oldest + 1) es in
      let s = length-append front back in
      let size : length (e ∷ front ++ back) ≡ 64 = omega arith in
      sym (take-append_seam (e ∷ front ++ back) (x ∷ []))
      ∙ ap (λ (n : ℕ). take n ((e ∷ front ++ back) ++ x ∷ [])) size
      ∙ ap (λ (t : List A). take 64 (e ∷ t)) (append_assoc front back (x ∷ []) ∙ ap (λ (t : List A). front ++ t) (sym parts))

  -- one more in the place of the oldest
  pub written_over : (es : List A) (oldest : ℕ) (e : A) → length es ≡ 64 → oldest < 64 → round ((oldest + 1) % 64) (set es oldest e) ≡ take 64 (e ∷ round oldest es)
  written_over es oldest e l h =
      wraps (set es oldest e) (oldest + 1) (length-set es oldest e ∙ l) (omega arith)
      ∙ ap₂ (λ (x y : List A). reverse x ++ reverse y) (take_more_set es oldest e (omega arith)) (drop-set-lt (oldest + 1) es oldest e (omega arith))
      ∙ ap (λ (t : List A). t ++ reverse (drop (oldest + 1) es)) (reverse-append (take oldest es) (e ∷ []))
      ∙ gives_way es oldest e l h
