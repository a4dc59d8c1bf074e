-- From the gate's own qubits to the whole register: the sum of squares.
use Rattle.std.proofs.Common.{◌≡◌, ℕ, zero, suc, ◌+◌, ◌^◌, List, length, ℤ, pos, ◌+ℤ◌, ◌*ℤ◌, nat_abs, sym, refl, ap, ◌∙◌, subst, ap₂, arith}
use borrow.Author.Differences.{ints}
use Rattle.exact.specs.declared.Quadruple.{Quadruple}
use Rattle.exact.specs.Indices.{Index, total, listing, bits_at, with_setting, Below}
use Rattle.exact.specs.Quadruples.{zero_quadruple, add}
use Rattle.exact.specs.Squares.{square, add_squares, power_of_squares, times_power_of_2, quadruple_at, sum_of_squares, everywhere}
use Rattle.exact.proofs.Integers.{distrib_right}
use Rattle.exact.proofs.Sums.{doubled, total_same, total_map, total_doubled, doubled_swap, all_settings, integers}
use Rattle.exact.proofs.Indices.{read_setting, setting_twice}
use Rattle.exact.proofs.Listings.{at_listing}
use Rattle.exact.proofs.Roots.{square_path}
use Rattle.gates.specs.Arity.{qubits_of}
use Rattle.matrices.specs.Gates.{entry, times_entry, power_of}
use Rattle.matrices.specs.Registers.{Move, new_at, applied, MovePlaced}
use Rattle.matrices.proofs.Small.{whole_part, root_part, small, MultipliesPart}
use Rattle.matrices.proofs.Table.{kept}

twice_injective : (x y : ℤ) → x +ℤ x ≡ y +ℤ y → x ≡ y
twice_injective x y e = omega (arith, ints)

doubled_injective : (m : ℕ) (x y : ℤ) → doubled ◌+ℤ◌ m x ≡ doubled ◌+ℤ◌ m y → x ≡ y
unfolding doubled
doubled_injective zero x y e = e
doubled_injective (suc m) x y e = doubled_injective m x y (twice_injective (doubled ◌+ℤ◌ m x) (doubled ◌+ℤ◌ m y) e)

doubled_power : (m : ℕ) (x : ℤ) → doubled ◌+ℤ◌ m x ≡ pos (2 ^ m) *ℤ x
unfolding doubled
doubled_power zero x = one x
  where
    one : (x : ℤ) → x ≡ pos 1 *ℤ x
    one x = omega (arith, ints)
doubled_power (suc m) x = ap₂ (λ (s t : ℤ). s +ℤ t) (doubled_power m x) (doubled_power m x) ∙ sym (distrib_right (pos (2 ^ m)) (pos (2 ^ m)) x) ∙ ap (λ (k : ℕ). pos k *ℤ x) e
  where
    e : 2 ^ m + 2 ^ m ≡ 2 ^ suc m
    e = omega arith

-- at an index with setting r, the gate is the small one on the quadruples of all settings
new_small : (n : ℕ) (m : Move) (f : Index → Quadruple) (x r : Index) → MovePlaced n m → length x ≡ n → length r ≡ qubits_of m.gate
    → new_at m f (with_setting x m.qubits r) ≡ small m.gate (λ s. f (with_setting x m.qubits s)) r
unfolding new_at small
new_small n m f x r p l e =
    let qs : List ℕ = m.qubits in
    let b : Below (length x) qs = subst (λ (k : ℕ). Below k qs) (sym l) p.below in
    total_same add (qubits_of m.gate) (λ s. times_entry (entry m.gate (bits_at (with_setting x qs r) qs) s) (f (with_setting (with_setting x qs r) qs s))) (λ s. times_entry (entry m.gate r s) (f (with_setting x qs s)))
    (λ s k. ap₂ (λ (t y : Index). times_entry (entry m.gate t s) (f y)) (read_setting x qs r b p.apart (e ∙ sym p.as_many)) (setting_twice x qs r s p.apart (e ∙ sym p.as_many) (k ∙ sym p.as_many)))

-- Both sides 2^m times over: every index is then counted once for each setting of the gate's qubits.
module _ (part : Quadruple → ℤ) (m : Move) (keeps : MultipliesPart m.gate part) where
  part_multiplied : (n : ℕ) (f : Index → Quadruple) → MovePlaced n m
      → total ◌+ℤ◌ n (λ x. part (new_at m f x)) ≡ pos (2 ^ (power_of m.gate).0) *ℤ total ◌+ℤ◌ n (λ x. part (f x))
  part_multiplied n f p =
      let qs : List ℕ = m.qubits in
      let k : ℕ = qubits_of m.gate in
      let e : ℕ = (power_of m.gate).0 in
      let sum : (ℕ → (Index → ℤ) → ℤ) = total ◌+ℤ◌ in
      doubled_injective k (sum n (λ x. part (new_at m f x))) (doubled ◌+ℤ◌ e (sum n (λ x. part (f x))))
      (sym (settings (λ x. part (new_at m f x)))
      ∙ total_same ◌+ℤ◌ n (λ x. sum k (λ r. part (new_at m f (with_setting x qs r)))) (λ x. doubled ◌+ℤ◌ e (sum k (λ s. part (f (with_setting x qs s)))))
      (λ x l. total_same ◌+ℤ◌ k (λ r. part (new_at m f (with_setting x qs r))) (λ r. part (small m.gate (λ s. f (with_setting x qs s)) r)) (λ r h. ap part (new_small n m f x r p l h))
      ∙ keeps (λ s. f (with_setting x qs s)))
      ∙ total_doubled ◌+ℤ◌ (pos 0) integers n e (λ x. sum k (λ s. part (f (with_setting x qs s))))
      ∙ ap (doubled ◌+ℤ◌ e) (settings (λ x. part (f x)))
      ∙ doubled_swap ◌+ℤ◌ (pos 0) integers e k (sum n (λ x. part (f x))))
      ∙ doubled_power e (sum n (λ x. part (f x)))
    where
      settings : (F : Index → ℤ) → total ◌+ℤ◌ n (λ x. total ◌+ℤ◌ (qubits_of m.gate) (λ s. F (with_setting x m.qubits s))) ≡ doubled ◌+ℤ◌ (qubits_of m.gate) (total ◌+ℤ◌ n F)
      settings F = subst (λ (k : ℕ). total ◌+ℤ◌ n (λ x. total ◌+ℤ◌ k (λ s. F (with_setting x m.qubits s))) ≡ doubled ◌+ℤ◌ k (total ◌+ℤ◌ n F)) p.as_many (all_settings ◌+ℤ◌ (pos 0) integers n m.qubits F p.below)

-- the parts of a sum of squares
pub whole_sum : (n : ℕ) (f : Index → Quadruple) → pos (total add_squares n (λ x. square (f x))).whole ≡ total ◌+ℤ◌ n (λ x. whole_part (f x))
whole_sum n f = total_map add_squares ◌+ℤ◌ (λ s. pos s.whole) (λ s t. refl) n (λ x. square (f x))

pub root_sum : (n : ℕ) (f : Index → Quadruple) → (total add_squares n (λ x. square (f x))).root ≡ total ◌+ℤ◌ n (λ x. root_part (f x))
root_sum n f = total_map add_squares ◌+ℤ◌ (λ s. s.root) (λ s t. refl) n (λ x. square (f x))

squares_multiplied : (n : ℕ) (m : Move) (f : Index → Quadruple) → MovePlaced n m
    → total add_squares n (λ x. square (new_at m f x)) ≡ times_power_of_2 (power_of_squares (power_of m.gate)) (total add_squares n (λ x. square (f x)))
squares_multiplied n m f p =
    let e : ℤ = pos (2 ^ (power_of m.gate).0) in
    square_path
    (ap nat_abs (whole_sum n (new_at m f) ∙ part_multiplied whole_part m (kept m.gate).whole n f p ∙ ap (λ (t : ℤ). e *ℤ t) (sym (whole_sum n f))))
    (root_sum n (new_at m f) ∙ part_multiplied root_part m (kept m.gate).root n f p ∙ ap (λ (t : ℤ). e *ℤ t) (sym (root_sum n f)))

-- a list made by a function has the function's squares
pub squares_listing : (n : ℕ) (f : Index → Quadruple) → sum_of_squares n everywhere (listing n f) ≡ total add_squares n (λ x. square (f x))
unfolding sum_of_squares
squares_listing n f = total_same add_squares n (λ x. square (quadruple_at (listing n f) x)) (λ x. square (f x)) (λ x l. ap square (at_listing zero_quadruple n f x l))

pub multiplies : (n : ℕ) (m : Move) (v : List Quadruple) → MovePlaced n m
    → sum_of_squares n everywhere (applied n m v) ≡ times_power_of_2 (power_of_squares (power_of m.gate)) (sum_of_squares n everywhere v)
unfolding sum_of_squares applied
multiplies n m v p = squares_listing n (new_at m (quadruple_at v)) ∙ squares_multiplied n m (quadruple_at v) p
