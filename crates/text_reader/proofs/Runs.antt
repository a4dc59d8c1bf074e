-- Runs of bytes of a kind: the steps of a loop over one, and how it parts a text.
use Rattle.std.proofs.Common.{◌≡◌, ℕ, suc, ◌+◌, ◌≤◌, Bool, true, false, cond, ◌&&◌, List, [], ◌∷◌, ◌++◌, length, take, drop, Option, not, refl, ap, ◌∙◌, arith}
use Rattle.std.proofs.lemmas.Bool.Decides.{nat_tests}
use Rattle.std.proofs.lemmas.Bool.{cond-true, cond-false, and_parts, and_from}
use Rattle.std.specs.List.{position_or_len, position}
use Rattle.std.proofs.lemmas.List.Recursion.{is_position_or_len}
use Rattle.std.specs.Option.{unwrap_or}
use Rattle.text_reader.specs.Tokens.{run_of, past_run}

-- all bytes are of a kind
abbrev pub all_of : (ℕ → Bool) → List ℕ → Bool
all_of kind [] = true
all_of kind (b ∷ bs) = kind b && all_of kind bs

-- nothing, or something that ends a run
abbrev pub EndsRun : (ℕ → Bool) → List ℕ → Type 0
EndsRun kind [] = Unit {0}
EndsRun kind (b ∷ bs) = kind b ≡ false

module _ (kind : ℕ → Bool) where
  pub take_run : (t : List ℕ) → take (length (run_of kind t)) t ≡ run_of kind t
  unfolding run_of
  take_run [] = refl
  take_run (b ∷ bs) = elim (kind b) as (λ p. take (length (cond p (b ∷ run_of kind bs) [])) (b ∷ bs) ≡ cond p (b ∷ run_of kind bs) []) [ true ↦ ap (λ l. b ∷ l) (take_run bs) | false ↦ refl ]

  pub drop_run : (t : List ℕ) → drop (length (run_of kind t)) t ≡ past_run kind t
  unfolding run_of past_run
  drop_run [] = refl
  drop_run (b ∷ bs) = elim (kind b) as (λ p. drop (length (cond p (b ∷ run_of kind bs) [])) (b ∷ bs) ≡ cond p (past_run kind bs) (b ∷ bs)) [ true ↦ drop_run bs | false ↦ refl ]

  pub run_within : (t : List ℕ) → length (run_of kind t) ≤ length t
  unfolding run_of
  run_within [] = omega arith
  run_within (b ∷ bs) = elim (kind b) as (λ p. length (cond p (b ∷ run_of kind bs) []) ≤ suc (length bs)) [ true ↦ omega (arith, run_within bs) | false ↦ omega arith ]

  -- the first byte of another kind ends the run, and where there is none it is the whole text
  length_run : (t : List ℕ) → length (run_of kind t) ≡ position_or_len (λ b. not (kind b)) t
  unfolding run_of
  length_run t = is_position_or_len (λ l. length (run_of kind l)) (λ b. not (kind b)) refl (λ b bs. elim (kind b) as (λ p. length (cond p (b ∷ run_of kind bs) []) ≡ cond (not p) 0 (1 + length (run_of kind bs))) [ true ↦ omega arith | false ↦ refl ]) t

  pub run_found : (t : List ℕ) (o : Option ℕ) (n : ℕ) → o ≡ position (λ b. not (kind b)) t → n ≡ unwrap_or o (length t) → take n t ≡ run_of kind t
  run_found t o n e u =
      let long = length_run t in
      let within = run_within t in
      let h : n ≡ length (run_of kind t) = grind (arith, nat_tests) in
      ap (λ k. take k t) h ∙ take_run t

  pub split_run : (t : List ℕ) → t ≡ run_of kind t ++ past_run kind t
  unfolding run_of past_run
  split_run [] = refl
  split_run (b ∷ bs) = elim (kind b) as (λ p. b ∷ bs ≡ cond p (b ∷ run_of kind bs) [] ++ cond p (past_run kind bs) (b ∷ bs)) [ true ↦ ap (λ l. b ∷ l) (split_run bs) | false ↦ refl ]

  pub run_all : (t : List ℕ) → all_of kind (run_of kind t) ≡ true
  unfolding run_of
  run_all [] = refl
  run_all (b ∷ bs) = go (kind b) refl (run_all bs)
    where
      go : (p : Bool) → kind b ≡ p → all_of kind (run_of kind bs) ≡ true → all_of kind (cond p (b ∷ run_of kind bs) []) ≡ true
      go true e h = and_from _ _ e h
      go false e h = refl

  pub past_ends : (t : List ℕ) → EndsRun kind (past_run kind t)
  unfolding past_run
  past_ends [] = tt
  past_ends (b ∷ bs) = go (kind b) refl (past_ends bs)
    where
      go : (p : Bool) → kind b ≡ p → EndsRun kind (past_run kind bs) → EndsRun kind (cond p (past_run kind bs) (b ∷ bs))
      go true e h = h
      go false e h = e

  pub run_whole : (w more : List ℕ) → all_of kind w ≡ true → EndsRun kind more → run_of kind (w ++ more) ≡ w
  unfolding run_of
  run_whole [] [] a d = refl
  run_whole [] (b ∷ bs) a d = cond-false _ _ _ d
  run_whole (b ∷ w) more a d = let q = and_parts (kind b) (all_of kind w) a in cond-true _ _ _ q.0 ∙ ap (λ l. b ∷ l) (run_whole w more q.1 d)

  pub past_whole : (w more : List ℕ) → all_of kind w ≡ true → EndsRun kind more → past_run kind (w ++ more) ≡ more
  unfolding past_run
  past_whole [] [] a d = refl
  past_whole [] (b ∷ bs) a d = cond-false _ _ _ d
  past_whole (b ∷ w) more a d = let q = and_parts (kind b) (all_of kind w) a in cond-true _ _ _ q.0 ∙ past_whole w more q.1 d

  pub all_append : (xs ys : List ℕ) → all_of kind xs ≡ true → all_of kind ys ≡ true → all_of kind (xs ++ ys) ≡ true
  all_append [] ys a b = b
  all_append (x ∷ xs) ys a b = let q = and_parts (kind x) (all_of kind xs) a in and_from _ _ q.0 (all_append xs ys q.1 b)
