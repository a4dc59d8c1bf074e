-- Sums over all indices of n qubits, over any addition that is commutative and associative.
use Rattle.std.proofs.Common.{◌≡◌, ℕ, zero, suc, ◌<◌, true, false, cond, List, [], ◌∷◌, length, set, pos, ◌+ℤ◌, sym, refl, ap, ◌∙◌, ap₂, arith}
use lib.IntN.{+ℤ_idl, +ℤ_assoc, +ℤ_comm}
use Rattle.exact.specs.Indices.{Index, where_0, where_1, total, with_setting, Below, same_index}
use Rattle.exact.specs.Quadruples.{add, zero_quadruple}
use Rattle.exact.proofs.Expressions.{quadruple_path}

-- x added to itself, m times over: 2^m times x
unfoldable pub doubled : {A : Type 0} → (A → A → A) → ℕ → A → A
doubled add zero x = x
doubled add (suc m) x = add (doubled add m x) (doubled add m x)

pub record Adds {A : Type 0} (add : A → A → A) (none : A) : Type 0 where
  pub comm : (x y : A) → add x y ≡ add y x
  pub assoc : (x y z : A) → add (add x y) z ≡ add x (add y z)
  pub idl : (x : A) → add none x ≡ x

-- equal at every index of n qubits
pub total_same : {A : Type 0} (add : A → A → A) (n : ℕ) (f g : Index → A) → ((x : Index) → length x ≡ n → f x ≡ g x) → total add n f ≡ total add n g
unfolding total
total_same add zero f g h = h [] refl
total_same add (suc n) f g h = ap₂ add (total_same add n (where_0 f) (where_0 g) (λ x l. h (false ∷ x) (ap suc l))) (total_same add n (where_1 f) (where_1 g) (λ x l. h (true ∷ x) (ap suc l)))

-- a function that respects the sums goes inside
pub total_map : {A B : Type 0} (add : A → A → A) (plus : B → B → B) (f : A → B) → ((x y : A) → f (add x y) ≡ plus (f x) (f y)) → (n : ℕ) (u : Index → A) → f (total add n u) ≡ total plus n (λ x. f (u x))
unfolding total
total_map add plus f h zero u = refl
total_map add plus f h (suc n) u = h (total add n (where_0 u)) (total add n (where_1 u)) ∙ ap₂ plus (total_map add plus f h n (where_0 u)) (total_map add plus f h n (where_1 u))

module _ {A : Type 0} (add : A → A → A) (none : A) (L : Adds add none) where
  pub four_way : (x y z t : A) → add (add x y) (add z t) ≡ add (add x z) (add y t)
  four_way x y z t = L.assoc x y (add z t) ∙ ap (add x) (sym (L.assoc y z t) ∙ ap (λ (u : A). add u t) (L.comm y z) ∙ L.assoc z y t) ∙ sym (L.assoc x z (add y t))

  pub total_add : (n : ℕ) (f g : Index → A) → total add n (λ x. add (f x) (g x)) ≡ add (total add n f) (total add n g)
  unfolding total
  total_add zero f g = refl
  total_add (suc n) f g =
      ap₂ add (total_add n (where_0 f) (where_0 g)) (total_add n (where_1 f) (where_1 g))
      ∙ four_way (total add n (where_0 f)) (total add n (where_0 g)) (total add n (where_1 f)) (total add n (where_1 g))

  pub total_none : (n : ℕ) → total add n (λ x. none) ≡ none
  unfolding total
  total_none zero = refl
  total_none (suc n) = ap₂ add (total_none n) (total_none n) ∙ L.idl none

  -- the order of two sums
  pub total_swap : (n m : ℕ) (f : Index → Index → A) → total add n (λ x. total add m (λ s. f x s)) ≡ total add m (λ s. total add n (λ x. f x s))
  unfolding total
  total_swap zero m f = refl
  total_swap (suc n) m f =
      ap₂ add (total_swap n m (where_0 f)) (total_swap n m (where_1 f))
      ∙ sym (total_add m (λ s. total add n (λ x. f (false ∷ x) s)) (λ s. total add n (λ x. f (true ∷ x) s)))

  pub doubled_add : (m : ℕ) (x y : A) → doubled add m (add x y) ≡ add (doubled add m x) (doubled add m y)
  unfolding doubled
  doubled_add zero x y = refl
  doubled_add (suc m) x y = ap₂ add (doubled_add m x y) (doubled_add m x y) ∙ four_way (doubled add m x) (doubled add m y) (doubled add m x) (doubled add m y)

  pub total_doubled : (n m : ℕ) (f : Index → A) → total add n (λ x. doubled add m (f x)) ≡ doubled add m (total add n f)
  total_doubled n m f = sym (total_map add add (doubled add m) (doubled_add m) n f)

  pub doubled_swap : (m k : ℕ) (x : A) → doubled add m (doubled add k x) ≡ doubled add k (doubled add m x)
  unfolding doubled
  doubled_swap zero k x = refl
  doubled_swap (suc m) k x = ap₂ add (doubled_swap m k x) (doubled_swap m k x) ∙ sym (doubled_add k (doubled add m x) (doubled add m x))

  -- both settings of one qubit: everything twice
  pub both_settings : (n q : ℕ) (f : Index → A) → q < n → add (total add n (λ x. f (set x q false))) (total add n (λ x. f (set x q true))) ≡ add (total add n f) (total add n f)
  unfolding total
  both_settings zero q f h = absurd (omega arith)
  both_settings (suc n) zero f h = four_way (total add n (where_0 f)) (total add n (where_0 f)) (total add n (where_1 f)) (total add n (where_1 f))
  both_settings (suc n) (suc q) f h =
      four_way (total add n (λ x. f (false ∷ set x q false))) (total add n (λ x. f (true ∷ set x q false))) (total add n (λ x. f (false ∷ set x q true))) (total add n (λ x. f (true ∷ set x q true)))
      ∙ ap₂ add (both_settings n q (where_0 f) (omega arith)) (both_settings n q (where_1 f) (omega arith))
      ∙ four_way (total add n (where_0 f)) (total add n (where_0 f)) (total add n (where_1 f)) (total add n (where_1 f))

  -- all settings of m qubits: everything 2^m times
  pub all_settings : (n : ℕ) (qs : List ℕ) (f : Index → A) → Below n qs → total add n (λ x. total add (length qs) (λ s. f (with_setting x qs s))) ≡ doubled add (length qs) (total add n f)
  unfolding total with_setting doubled
  all_settings n [] f h = refl
  all_settings n (q ∷ qs) f h =
      let F : Index → A = λ y. total add (length qs) (λ s. f (with_setting y qs s)) in
      total_add n (λ x. F (set x q false)) (λ x. F (set x q true))
      ∙ both_settings n q F h.0
      ∙ ap₂ add (all_settings n qs f h.1) (all_settings n qs f h.1)

  -- a sum with one term
  pub total_pick : (x : Index) (f : Index → A) → total add (length x) (λ k. cond (same_index x k) (f k) none) ≡ f x
  unfolding total same_index
  total_pick [] f = refl
  total_pick (false ∷ x) f = ap₂ add (total_pick x (where_0 f)) (total_none (length x)) ∙ L.comm (f (false ∷ x)) none ∙ L.idl (f (false ∷ x))
  total_pick (true ∷ x) f = ap₂ add (total_none (length x)) (total_pick x (where_1 f)) ∙ L.idl (f (true ∷ x))

  pub total_picked : (n : ℕ) (x : Index) (f : Index → A) → length x ≡ n → total add n (λ k. cond (same_index x k) (f k) none) ≡ f x
  total_picked n x f l = ap (λ (m : ℕ). total add m (λ k. cond (same_index x k) (f k) none)) (sym l) ∙ total_pick x f

pub integers : Adds ◌+ℤ◌ (pos 0)
integers = record { comm = +ℤ_comm; assoc = +ℤ_assoc; idl = +ℤ_idl }

pub quadruples : Adds add zero_quadruple
quadruples = record {
  comm = λ p q. quadruple_path (+ℤ_comm p.a q.a) (+ℤ_comm p.b q.b) (+ℤ_comm p.c q.c) (+ℤ_comm p.d q.d);
  assoc = λ p q r. quadruple_path (+ℤ_assoc p.a q.a r.a) (+ℤ_assoc p.b q.b r.b) (+ℤ_assoc p.c q.c r.c) (+ℤ_assoc p.d q.d r.d);
  idl = λ p. quadruple_path (+ℤ_idl p.a) (+ℤ_idl p.b) (+ℤ_idl p.c) (+ℤ_idl p.d);
}
