-- The places of a column: those past the last slice are 0.
use Rattle.std.proofs.Common.{◌≡◌, ℕ, zero, suc, ◌+◌, ◌-◌, ◌<◌, ◌≤◌, List, [], ◌∷◌, ◌++◌, length, get_or, drop, set, replicate, sym, refl, ap, ◌∙◌, arith, length-append, length-drop}
use Rattle.std.proofs.lemmas.List.{drop-set-lt, drop_more, drop-replicate, length-replicate}
use Rattle.std.proofs.Math.Seq.{drop-append_seam}
use Rattle.slicing.specs.TwosComplement.{repeated}

-- one place more is used
pub unused_less : (n len : ℕ) (places : List ℕ) (x : ℕ) → len < n → length places ≡ n → drop len places ≡ replicate (n - len) 0 → drop (len + 1) (set places len x) ≡ replicate (n - (len + 1)) 0
unused_less n len places x room full unused =
    drop-set-lt (len + 1) places len x (omega arith)
    ∙ ap (drop 1) (sym (drop_more places len 0 (omega arith)) ∙ unused)
    ∙ drop-replicate 1 (n - len) 0 ∙ ap (λ (k : ℕ). replicate k 0) (omega arith)

-- the first places are written, of which all were 0
pub all_places : (n len : ℕ) (handles : List ℕ) → length handles ≡ len → len ≤ n → length (handles ++ drop len (replicate n 0)) ≡ n
all_places n len handles e fits = simp (length-append, length-drop, length-replicate) (omega arith)

pub unused_rest : (n len : ℕ) (handles : List ℕ) → length handles ≡ len → drop len (handles ++ drop len (replicate n 0)) ≡ replicate (n - len) 0
unused_rest n len handles e =
    ap (λ (k : ℕ). drop k (handles ++ drop len (replicate n 0))) (sym e) ∙ drop-append_seam handles (drop len (replicate n 0)) ∙ drop-replicate len n 0

-- a list with its last element once more
pub repeated_push : {X : Type 0} (l : List X) (d : X) (k : ℕ) → length l ≡ suc k → repeated l ≡ l ++ (get_or l k d ∷ [])
unfolding repeated
repeated_push [] d k e = absurd (let b : ⊥ = omega arith in b)
repeated_push (x ∷ []) d zero e = refl
repeated_push (x ∷ []) d (suc k) e = absurd (let b : ⊥ = omega arith in b)
repeated_push (x ∷ (y ∷ l)) d zero e = absurd (let b : ⊥ = omega arith in b)
repeated_push {X = X} (x ∷ (y ∷ l)) d (suc k) e = ap (λ (t : List X). x ∷ t) (repeated_push (y ∷ l) d k (omega arith))
