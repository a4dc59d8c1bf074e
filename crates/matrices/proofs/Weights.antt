-- The squares of every register add up to 2^k and 0.
use Rattle.std.proofs.Common.{◌≡◌, ℕ, zero, suc, ◌+◌, ◌^◌, Bool, true, false, cond, List, [], ◌∷◌, map, length, ℤ, pos, ◌+ℤ◌, sym, refl, ap, ◌∙◌, arith, pow-add}
use lib.IntN.{*ℤ-zero}
use borrow.Author.Differences.{ints}
use Rattle.std.proofs.lemmas.Bool.{cond_both}
use Rattle.exact.specs.declared.Quadruple.{Quadruple}
use Rattle.exact.specs.Indices.{Index, same_index}
use Rattle.exact.specs.Quadruples.{zero_quadruple, one_quadruple, over-√2}
use Rattle.exact.specs.States.{State, state, some_odd_sum, reduced, normal_form}
use Rattle.exact.specs.Squares.{Square, square, no_square, add_squares, power_of_squares, times_power_of_2, sum_of_squares, everywhere, outcome}
use Rattle.exact.proofs.Sums.{total_same, total_picked}
use Rattle.exact.proofs.Indices.{same_swap}
use Rattle.exact.proofs.Roots.{square_path}
use Rattle.exact.proofs.Squares.{squares, halved}
use Rattle.exact.proofs.Squares as exact-squares
use Rattle.matrices.specs.Gates.{power_of}
use Rattle.matrices.specs.Registers.{Move, moved, opened, led, register, MovePlaced, AllPlaced}
use Rattle.matrices.specs.Laws.{unit_total}
use Rattle.matrices.proofs.Multiplied.{squares_listing, multiplies}

-- the sum of the squares of a state is 2^k and 0
abbrev Whole : ℕ → State → Type 0
Whole n s = sum_of_squares n everywhere s.quadruples ≡ unit_total s

abbrev one_square : Square
one_square = record { whole = 1; root = pos 0 }

-- ---- an opening
chosen_square : (b : Bool) → square (cond b one_quadruple zero_quadruple) ≡ cond b one_square no_square
chosen_square true = refl
chosen_square false = refl

opened_whole : (n : ℕ) (x : Index) → length x ≡ n → Whole n (opened n x)
unfolding opened
opened_whole n x e =
    squares_listing n (λ y. cond (same_index y x) one_quadruple zero_quadruple)
    ∙ total_same add_squares n (λ y. square (cond (same_index y x) one_quadruple zero_quadruple)) (λ y. cond (same_index x y) one_square no_square)
    (λ y l. ap (λ (b : Bool). square (cond b one_quadruple zero_quadruple)) (same_swap y x) ∙ chosen_square (same_index x y))
    ∙ total_picked add_squares no_square squares n x (λ y. one_square) e

-- ---- a gate, and the normal form
moved_whole : (n : ℕ) (m : Move) (s : State) → MovePlaced n m → Whole n s → Whole n (moved n m s)
unfolding moved
moved_whole n m s p h =
    multiplies n m s.quadruples p
    ∙ ap (times_power_of_2 (power_of_squares (power_of m.gate))) h
    ∙ square_path (sym (pow-add 2 (power_of m.gate).0 s.power.0)) (*ℤ-zero (pos (2 ^ (power_of m.gate).0)))

half_whole : (k : ℕ) (t : Square) → record { whole = 2 ^ suc k; root = pos 0 } ≡ add_squares t t → t ≡ record { whole = 2 ^ k; root = pos 0 }
half_whole k t e = square_path (half_of (2 ^ suc k) (2 ^ k) t.whole (let d : 2 ^ suc k ≡ 2 ^ k + 2 ^ k = omega arith in d) (ap (λ (s : Square). s.whole) e)) (none t.root (ap (λ (s : Square). s.root) e))
  where
    half_of : (p q w : ℕ) → p ≡ q + q → p ≡ w + w → w ≡ q
    half_of p q w d e = omega arith

    none : (r : ℤ) → pos 0 ≡ r +ℤ r → r ≡ pos 0
    none r e = omega (arith, ints)

reduced_whole : (n k : ℕ) (v : List Quadruple) → Whole n (state k v) → Whole n (reduced k v)
unfolding reduced
reduced_whole n zero v h = h
reduced_whole n (suc k) v h = cond_both (some_odd_sum v) (state (suc k) v) (reduced k (map over-√2 v)) (Whole n) (λ e. h)
    (λ e. reduced_whole n k (map over-√2 v) (half_whole k (sum_of_squares n everywhere (map over-√2 v)) (sym h ∙ halved n everywhere v e)))

led_whole : (n : ℕ) (l : List Move) (s : State) → AllPlaced n l → Whole n s → Whole n (led n s l)
unfolding led
led_whole n [] s p h = h
led_whole n (m ∷ l) s p h = led_whole n l (normal_form (moved n m s)) p.1 (reduced_whole n (moved n m s).power.0 (moved n m s).quadruples (moved_whole n m s p.0 h))

pub everything : (n : ℕ) (x : Index) (l : List Move) → length x ≡ n → AllPlaced n l → sum_of_squares n everywhere (register n x l).quadruples ≡ unit_total (register n x l)
everything n x l e p = led_whole n l (opened n x) p (opened_whole n x e)

pub outcomes : (n q : ℕ) (x : Index) (l : List Move) → length x ≡ n → AllPlaced n l
    → add_squares (sum_of_squares n (outcome q false) (register n x l).quadruples) (sum_of_squares n (outcome q true) (register n x l).quadruples) ≡ unit_total (register n x l)
outcomes n q x l e p = exact-squares.outcomes n q (register n x l).quadruples ∙ everything n x l e p
