-- One lemma for every gate: if the normal forms of its two polynomials are equal, which `refl` shows from the table's row, it
-- multiplies the sum of squares.
use Rattle.std.proofs.Common.{◌≡◌, ℕ, zero, suc, ◌+◌, ◌*◌, List, [], ◌∷◌, length, get_or, ℤ, pos, ◌+ℤ◌, neg_ℤ, sym, refl, ap, ◌∙◌, ap₂, arith}
use Rattle.exact.specs.declared.Quadruple.{Quadruple}
use Rattle.exact.specs.Indices.{Index, number, listing, total, at_index}
use Rattle.exact.specs.Quadruples.{quadruple, zero_quadruple, add, times_power_of_ω}
use Rattle.exact.proofs.Ring.{Expr, plus, eval, normal, solve}
use Rattle.exact.proofs.Expressions.{quadruple_path, QuadrupleExpr, vars, add_expr, whole_expr, root_expr, eval_quadruple, parts, whole_is, root_is}
use Rattle.exact.proofs.Sums.{doubled, total_same, total_map}
use Rattle.exact.proofs.Listings.{at_listing}
use Rattle.gates.specs.declared.Gate.{Gate}
use Rattle.gates.specs.Arity.{qubits_of}
use Rattle.matrices.specs.Gates.{Entry, nought, ω_to, times_entry, entry, power_of}
use Rattle.matrices.proofs.Small.{whole_part, root_part, small, Multiplies, times_power_expr, times_entry_expr, small_expr, after, before}

eval_power : (ρ : List ℤ) (k : ℕ) (e : QuadrupleExpr) → eval_quadruple ρ (times_power_expr k e) ≡ times_power_of_ω k (eval_quadruple ρ e)
unfolding eval_quadruple eval
eval_power ρ zero e = refl
eval_power ρ (suc k) e = let h = eval_power ρ k e in λ i. quadruple (h i).b (h i).c (h i).d (neg_ℤ (h i).a)

eval_entry : (ρ : List ℤ) (t : Entry) (e : QuadrupleExpr) → eval_quadruple ρ (times_entry_expr t e) ≡ times_entry t (eval_quadruple ρ e)
unfolding eval_quadruple eval
eval_entry ρ nought e = refl
eval_entry ρ (ω_to k) e = eval_power ρ k e

eval_total : (ρ : List ℤ) (m : ℕ) (f : Index → Expr) → eval ρ (total plus m f) ≡ total ◌+ℤ◌ m (λ s. eval ρ (f s))
unfolding eval
eval_total ρ m f = total_map plus ◌+ℤ◌ (eval ρ) (λ x y. refl) m f

eval_quadruples : (ρ : List ℤ) (m : ℕ) (f : Index → QuadrupleExpr) → eval_quadruple ρ (total add_expr m f) ≡ total add m (λ s. eval_quadruple ρ (f s))
unfolding eval_quadruple eval
eval_quadruples ρ m f = total_map add_expr add (eval_quadruple ρ) (λ x y. refl) m f

eval_doubled : (ρ : List ℤ) (k : ℕ) (e : Expr) → eval ρ (doubled plus k e) ≡ doubled ◌+ℤ◌ k (eval ρ e)
unfolding eval doubled
eval_doubled ρ zero e = refl
eval_doubled ρ (suc k) e = ap₂ (λ (x y : ℤ). x +ℤ y) (eval_doubled ρ k e) (eval_doubled ρ k e)

-- the variables of quadruple number i are its parts
part_step : (q : Quadruple) (v : List Quadruple) (i : ℕ) → eval_quadruple (parts v) (vars (4 * i)) ≡ get_or v i zero_quadruple → eval_quadruple (parts (q ∷ v)) (vars (4 * suc i)) ≡ get_or v i zero_quadruple
unfolding eval_quadruple eval
part_step q v i h =
    quadruple_path (ap at e₀ ∙ ap (λ (t : Quadruple). t.a) h) (ap at e₁ ∙ ap (λ (t : Quadruple). t.b) h) (ap at e₂ ∙ ap (λ (t : Quadruple). t.c) h) (ap at e₃ ∙ ap (λ (t : Quadruple). t.d) h)
  where
    at : ℕ → ℤ
    at j = get_or (parts (q ∷ v)) j (pos 0)

    e₀ : 4 * suc i ≡ suc (suc (suc (suc (4 * i))))
    e₀ = omega arith

    e₁ : 4 * suc i + 1 ≡ suc (suc (suc (suc (4 * i + 1))))
    e₁ = omega arith

    e₂ : 4 * suc i + 2 ≡ suc (suc (suc (suc (4 * i + 2))))
    e₂ = omega arith

    e₃ : 4 * suc i + 3 ≡ suc (suc (suc (suc (4 * i + 3))))
    e₃ = omega arith

part_at : (v : List Quadruple) (i : ℕ) → eval_quadruple (parts v) (vars (4 * i)) ≡ get_or v i zero_quadruple
unfolding eval_quadruple eval
part_at [] i = refl
part_at (q ∷ v) zero = refl
part_at (q ∷ v) (suc i) = part_step q v i (part_at v i)

module _ (g : Gate) (u : Index → Quadruple) where
  pub vars_at : (s : Index) → length s ≡ qubits_of g → eval_quadruple (parts (listing (qubits_of g) u)) (vars (4 * number s)) ≡ u s
  unfolding at_index
  vars_at s l = part_at (listing (qubits_of g) u) (number s) ∙ at_listing zero_quadruple (qubits_of g) u s l

  pub small_at : (r : Index) → eval_quadruple (parts (listing (qubits_of g) u)) (small_expr g r) ≡ small g u r
  unfolding small
  small_at r =
      let ρ : List ℤ = parts (listing (qubits_of g) u) in
      eval_quadruples ρ (qubits_of g) (λ s. times_entry_expr (entry g r s) (vars (4 * number s)))
      ∙ total_same add (qubits_of g) (λ s. eval_quadruple ρ (times_entry_expr (entry g r s) (vars (4 * number s)))) (λ s. times_entry (entry g r s) (u s))
      (λ s l. eval_entry ρ (entry g r s) (vars (4 * number s)) ∙ ap (times_entry (entry g r s)) (vars_at s l))

  -- for a part of the square: its formula over integers and over expressions
  module _ (part : Quadruple → ℤ) (expr : QuadrupleExpr → Expr) (is : (ρ : List ℤ) (e : QuadrupleExpr) → eval ρ (expr e) ≡ part (eval_quadruple ρ e)) where
    part_computed : normal (after expr g) ≡ normal (before expr g) → total ◌+ℤ◌ (qubits_of g) (λ r. part (small g u r)) ≡ doubled ◌+ℤ◌ (power_of g).0 (total ◌+ℤ◌ (qubits_of g) (λ s. part (u s)))
    part_computed h =
        let ρ : List ℤ = parts (listing (qubits_of g) u) in
        sym (eval_total ρ (qubits_of g) (λ r. expr (small_expr g r))
        ∙ total_same ◌+ℤ◌ (qubits_of g) (λ r. eval ρ (expr (small_expr g r))) (λ r. part (small g u r)) (λ r l. is ρ (small_expr g r) ∙ ap part (small_at r)))
        ∙ solve ρ (after expr g) (before expr g) h
        ∙ eval_doubled ρ (power_of g).0 (total plus (qubits_of g) (λ s. expr (vars (4 * number s))))
        ∙ ap (doubled ◌+ℤ◌ (power_of g).0) (eval_total ρ (qubits_of g) (λ s. expr (vars (4 * number s)))
        ∙ total_same ◌+ℤ◌ (qubits_of g) (λ s. eval ρ (expr (vars (4 * number s)))) (λ s. part (u s)) (λ s l. is ρ (vars (4 * number s)) ∙ ap part (vars_at s l)))

pub computed : (g : Gate) → normal (after whole_expr g) ≡ normal (before whole_expr g) → normal (after root_expr g) ≡ normal (before root_expr g) → Multiplies g
computed g h k = record { whole = λ u. part_computed g u whole_part whole_expr whole_is h; root = λ u. part_computed g u root_part root_expr root_is k }
