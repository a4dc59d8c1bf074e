-- Bits at several qubits, no two of them equal; and equal indices.
use Rattle.std.proofs.Common.{◌≡◌, ℕ, suc, ◌+◌, ◌^◌, ◌<◌, Bool, true, false, List, [], ◌∷◌, length, get_or, set, sym, refl, ap, ◌∙◌, subst, ap₂, arith, length-set, get_or-set_other, get_or-set_same, set-set}
use mathlib.Core.Bool.{false≢true}
use lib.Seq.{set_comm}
use Rattle.exact.specs.Indices.{Index, number, bits_at, with_setting, same_index, Below, NotAmong, Apart}

pub length_setting : (x : Index) (qs : List ℕ) (s : Index) → length (with_setting x qs s) ≡ length x
unfolding with_setting
length_setting x [] s = refl
length_setting x (q ∷ qs) [] = refl
length_setting x (q ∷ qs) (b ∷ s) = length_setting (set x q b) qs s ∙ length-set x q b

pub setting_elsewhere : (x : Index) (p : ℕ) (qs : List ℕ) (s : Index) → NotAmong p qs → get_or (with_setting x qs s) p false ≡ get_or x p false
unfolding with_setting
setting_elsewhere x p [] s h = refl
setting_elsewhere x p (q ∷ qs) [] h = refl
setting_elsewhere x p (q ∷ qs) (b ∷ s) h = setting_elsewhere (set x q b) p qs s h.1 ∙ get_or-set_other x q p b false h.0

pub set_setting : (x : Index) (p : ℕ) (c : Bool) (qs : List ℕ) (s : Index) → NotAmong p qs → set (with_setting x qs s) p c ≡ with_setting (set x p c) qs s
unfolding with_setting
set_setting x p c [] s h = refl
set_setting x p c (q ∷ qs) [] h = refl
set_setting x p c (q ∷ qs) (b ∷ s) h = set_setting (set x q b) p c qs s h.1 ∙ ap (λ (y : Index). with_setting y qs s) (set_comm x q p b c (λ e. h.0 (sym e)))

-- the bits at the qubits of a setting are the setting
pub read_setting : (x : Index) (qs : List ℕ) (s : Index) → Below (length x) qs → Apart qs → length s ≡ length qs → bits_at (with_setting x qs s) qs ≡ s
unfolding bits_at with_setting
read_setting x [] [] h k e = refl
read_setting x [] (b ∷ s) h k e = absurd (omega arith)
read_setting x (q ∷ qs) [] h k e = absurd (omega arith)
read_setting x (q ∷ qs) (b ∷ s) h k e =
    let l : length x ≡ length (set x q b) = sym (length-set x q b) in
    ap₂ (λ (c : Bool) (t : Index). c ∷ t)
    (setting_elsewhere (set x q b) q qs s k.0 ∙ get_or-set_same x q b false h.0)
    (read_setting (set x q b) qs s (subst (λ (m : ℕ). Below m qs) l h.1) k.1 (omega arith))

-- of two settings of the same qubits the later one stays
pub setting_twice : (x : Index) (qs : List ℕ) (r s : Index) → Apart qs → length r ≡ length qs → length s ≡ length qs → with_setting (with_setting x qs r) qs s ≡ with_setting x qs s
unfolding with_setting
setting_twice x [] r s k e f = refl
setting_twice x (q ∷ qs) [] s k e f = absurd (omega arith)
setting_twice x (q ∷ qs) (b ∷ r) [] k e f = absurd (omega arith)
setting_twice x (q ∷ qs) (b ∷ r) (c ∷ s) k e f =
    ap (λ (y : Index). with_setting y qs s) (set_setting (set x q b) q c qs r k.0 ∙ ap (λ (y : Index). with_setting y qs r) (set-set x q b c))
    ∙ setting_twice (set x q c) qs r s k.1 (omega arith) (omega arith)

pub length_bits_at : (x : Index) (qs : List ℕ) → length (bits_at x qs) ≡ length qs
unfolding bits_at
length_bits_at x [] = refl
length_bits_at x (q ∷ qs) = ap suc (length_bits_at x qs)

-- ---- equal indices
pub same_self : (x : Index) → same_index x x ≡ true
unfolding same_index
same_self [] = refl
same_self (false ∷ x) = same_self x
same_self (true ∷ x) = same_self x

pub same_equal : (x y : Index) → same_index x y ≡ true → x ≡ y
unfolding same_index
same_equal [] [] e = refl
same_equal [] (c ∷ y) e = absurd (false≢true e)
same_equal (b ∷ x) [] e = absurd (false≢true e)
same_equal (false ∷ x) (false ∷ y) e = ap (λ (z : Index). false ∷ z) (same_equal x y e)
same_equal (false ∷ x) (true ∷ y) e = absurd (false≢true e)
same_equal (true ∷ x) (false ∷ y) e = absurd (false≢true e)
same_equal (true ∷ x) (true ∷ y) e = ap (λ (z : Index). true ∷ z) (same_equal x y e)

pub same_swap : (x y : Index) → same_index x y ≡ same_index y x
unfolding same_index
same_swap [] [] = refl
same_swap [] (c ∷ y) = refl
same_swap (b ∷ x) [] = refl
same_swap (false ∷ x) (false ∷ y) = same_swap x y
same_swap (false ∷ x) (true ∷ y) = refl
same_swap (true ∷ x) (false ∷ y) = refl
same_swap (true ∷ x) (true ∷ y) = same_swap x y

-- ---- numbers
pub double : (n : ℕ) → 2 ^ n + 2 ^ n ≡ 2 ^ suc n
double n = omega arith

pub number_below : (x : Index) → number x < 2 ^ length x
unfolding number
number_below [] = omega arith
number_below (false ∷ x) = let h = number_below x in let d = double (length x) in omega arith
number_below (true ∷ x) = let h = number_below x in let d = double (length x) in omega arith

pub number_injective : (x y : Index) → length x ≡ length y → number x ≡ number y → x ≡ y
unfolding number
number_injective [] [] l e = refl
number_injective [] (c ∷ y) l e = absurd (omega arith)
number_injective (b ∷ x) [] l e = absurd (omega arith)
number_injective (false ∷ x) (false ∷ y) l e = ap (λ (z : Index). false ∷ z) (number_injective x y (omega arith) (omega arith))
number_injective (false ∷ x) (true ∷ y) l e = absurd (apart (length x) (length y) (number x) (number y) l (number_below x) e)
  where
    apart : (m k i j : ℕ) → suc m ≡ suc k → i < 2 ^ m → 0 + i ≡ 2 ^ k + j → ⊥
    apart m k i j l h e = let f : 2 ^ m ≡ 2 ^ k = ap (λ (t : ℕ). 2 ^ t) (let g : m ≡ k = omega arith in g) in omega arith
number_injective (true ∷ x) (false ∷ y) l e = absurd (apart (length x) (length y) (number x) (number y) l (number_below y) e)
  where
    apart : (m k i j : ℕ) → suc m ≡ suc k → j < 2 ^ k → 2 ^ m + i ≡ 0 + j → ⊥
    apart m k i j l h e = let f : 2 ^ m ≡ 2 ^ k = ap (λ (t : ℕ). 2 ^ t) (let g : m ≡ k = omega arith in g) in omega arith
number_injective (true ∷ x) (true ∷ y) l e = ap (λ (z : Index). true ∷ z) (number_injective x y (omega arith) (cancel (length x) (length y) (number x) (number y) l e))
  where
    cancel : (m k i j : ℕ) → suc m ≡ suc k → 2 ^ m + i ≡ 2 ^ k + j → i ≡ j
    cancel m k i j l e = let f : 2 ^ m ≡ 2 ^ k = ap (λ (t : ℕ). 2 ^ t) (let g : m ≡ k = omega arith in g) in omega arith
