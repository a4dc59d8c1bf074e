-- A column of a product of gates' matrices is the gates applied one after the other to a basis state.
use Rattle.std.proofs.Common.{◌≡◌, ℕ, zero, suc, Bool, true, false, cond, List, [], ◌∷◌, length, sym, refl, ap, ◌∙◌, subst}
use Rattle.exact.specs.declared.Quadruple.{Quadruple}
use Rattle.exact.specs.Indices.{Index, total, listing, bits_at, with_setting, same_index, Below, Placed}
use Rattle.exact.specs.Quadruples.{zero_quadruple, one_quadruple, add, multiply, times_ω, times_power_of_ω}
use Rattle.exact.specs.States.{add_powers, State}
use Rattle.exact.specs.Squares.{quadruple_at}
use Rattle.exact.proofs.Expressions.{one_times, zero_times, ω_times}
use Rattle.exact.proofs.Sums.{Adds, total_same, total_swap, total_picked, quadruples}
use Rattle.exact.proofs.Indices.{length_setting, length_bits_at, read_setting, same_self, same_equal}
use Rattle.exact.proofs.Listings.{at_listing, listing_same}
use Rattle.gates.specs.Arity.{qubits_of}
use Rattle.matrices.specs.Gates.{Entry, nought, ω_to, entry, times_entry, power_of}
use Rattle.matrices.specs.Registers.{Move, new_at, applied, moved, opened, carried, MovePlaced, AllPlaced}
use Rattle.matrices.specs.Products.{Matrix, identity, matrix_of, product, product_after, product_of, column}

-- ---- of the sum over all indices, only the settings' terms are left
module _ {A : Type 0} (plus : A → A → A) (none : A) (L : Adds plus none) where
  -- of all settings, only k's own can make r into k
  once : (n m : ℕ) (qs : List ℕ) (r k : Index) (f : Index → A) → Placed n m qs → length r ≡ n
      → cond (same_index (with_setting r qs (bits_at k qs)) k) (f (bits_at k qs)) none ≡ total plus m (λ s. cond (same_index (with_setting r qs s) k) (f s) none)
  once n m qs r k f p l =
      sym (total_picked plus none L m (bits_at k qs) (λ s. cond (same_index (with_setting r qs s) k) (f s) none) (length_bits_at k qs ∙ p.as_many))
      ∙ total_same plus m (λ s. cond (same_index (bits_at k qs) s) (cond (same_index (with_setting r qs s) k) (f s) none) none) (λ s. cond (same_index (with_setting r qs s) k) (f s) none) each
    where
      go : (s : Index) (b : Bool) → same_index (with_setting r qs s) k ≡ b → length s ≡ m → cond (same_index (bits_at k qs) s) (cond b (f s) none) none ≡ cond b (f s) none
      go s true e h =
          let i : s ≡ bits_at k qs = sym (read_setting r qs s (subst (λ (j : ℕ). Below j qs) (sym l) p.below) p.apart (h ∙ sym p.as_many)) ∙ ap (λ (y : Index). bits_at y qs) (same_equal (with_setting r qs s) k e) in
          let j : same_index (bits_at k qs) s ≡ true = ap (λ (t : Index). same_index t s) (sym i) ∙ same_self s in
          ap (λ (c : Bool). cond c (f s) none) j
      go s false e h = either (same_index (bits_at k qs) s)
        where
          either : (c : Bool) → cond c none none ≡ none
          either true = refl
          either false = refl

      each : (s : Index) → length s ≡ m → cond (same_index (bits_at k qs) s) (cond (same_index (with_setting r qs s) k) (f s) none) none ≡ cond (same_index (with_setting r qs s) k) (f s) none
      each s h = go s (same_index (with_setting r qs s) k) refl h

  only_settings : (n m : ℕ) (qs : List ℕ) (r : Index) (F : Index → Index → A) → Placed n m qs → length r ≡ n
      → total plus n (λ k. cond (same_index (with_setting r qs (bits_at k qs)) k) (F k (bits_at k qs)) none) ≡ total plus m (λ s. F (with_setting r qs s) s)
  only_settings n m qs r F p l =
      total_same plus n (λ k. cond (same_index (with_setting r qs (bits_at k qs)) k) (F k (bits_at k qs)) none) (λ k. total plus m (λ s. cond (same_index (with_setting r qs s) k) (F k s) none)) (λ k h. once n m qs r k (F k) p l)
      ∙ total_swap plus none L n m (λ k s. cond (same_index (with_setting r qs s) k) (F k s) none)
      ∙ total_same plus m (λ s. total plus n (λ k. cond (same_index (with_setting r qs s) k) (F k s) none)) (λ s. F (with_setting r qs s) s) (λ s h. total_picked plus none L n (with_setting r qs s) (λ k. F k s) (length_setting r qs s ∙ l))

-- ---- an entry as a quadruple
power_times : (k : ℕ) (q : Quadruple) → multiply (times_power_of_ω k one_quadruple) q ≡ times_power_of_ω k q
power_times zero q = one_times q
power_times (suc k) q = ω_times (times_power_of_ω k one_quadruple) q ∙ ap times_ω (power_times k q)

entry_times : (e : Entry) (q : Quadruple) → multiply (times_entry e one_quadruple) q ≡ times_entry e q
entry_times nought q = zero_times q
entry_times (ω_to k) q = power_times k q

chosen_times : (b : Bool) (e : Entry) (q : Quadruple) → multiply (cond b (times_entry e one_quadruple) zero_quadruple) q ≡ cond b (times_entry e q) zero_quadruple
chosen_times true e q = entry_times e q
chosen_times false e q = zero_times q

-- ---- one gate
full_sum : (n : ℕ) (m : Move) (f : Index → Quadruple) (r : Index) → MovePlaced n m → length r ≡ n
    → total add n (λ k. multiply ((matrix_of m).entry r k) (f k)) ≡ new_at m f r
unfolding matrix_of new_at
full_sum n m f r p l =
    let qs : List ℕ = m.qubits in
    total_same add n (λ k. multiply ((matrix_of m).entry r k) (f k)) (λ k. cond (same_index (with_setting r qs (bits_at k qs)) k) (times_entry (entry m.gate (bits_at r qs) (bits_at k qs)) (f k)) zero_quadruple)
    (λ k h. chosen_times (same_index (with_setting r qs (bits_at k qs)) k) (entry m.gate (bits_at r qs) (bits_at k qs)) (f k))
    ∙ only_settings add zero_quadruple quadruples n (qubits_of m.gate) qs r (λ k s. times_entry (entry m.gate (bits_at r qs) s) (f k)) p l

-- the new amplitude looks only at the amplitudes of indices of n qubits
pub new_same : (n : ℕ) (m : Move) (f h : Index → Quadruple) (r : Index) → length r ≡ n → ((x : Index) → length x ≡ n → f x ≡ h x) → new_at m f r ≡ new_at m h r
unfolding new_at
new_same n m f h r l e =
    let qs : List ℕ = m.qubits in
    total_same add (qubits_of m.gate) (λ s. times_entry (entry m.gate (bits_at r qs) s) (f (with_setting r qs s))) (λ s. times_entry (entry m.gate (bits_at r qs) s) (h (with_setting r qs s)))
    (λ s k. ap (times_entry (entry m.gate (bits_at r qs) s)) (e (with_setting r qs s) (length_setting r qs s ∙ l)))

column_step : (n : ℕ) (m : Move) (B : Matrix) (c : Index) → MovePlaced n m → column n (product n (matrix_of m) B) c ≡ moved n m (column n B c)
unfolding column product moved applied matrix_of
column_step n m B c p =
    ap (λ (v : List Quadruple). record { power = add_powers (power_of m.gate) B.power; quadruples = v })
    (listing_same n (λ r. total add n (λ k. multiply ((matrix_of m).entry r k) (B.entry k c))) (new_at m (quadruple_at (listing n (λ r. B.entry r c))))
    (λ r l. full_sum n m (λ k. B.entry k c) r p l
    ∙ new_same n m (λ k. B.entry k c) (quadruple_at (listing n (λ k. B.entry k c))) r l (λ x h. sym (at_listing zero_quadruple n (λ k. B.entry k c) x h))))

-- ---- all of them
columns_after : (n : ℕ) (A : Matrix) (c : Index) (l : List Move) → AllPlaced n l → column n (product_after n A l) c ≡ carried n (column n A c) l
unfolding product_after carried
columns_after n A c [] p = refl
columns_after n A c (m ∷ l) p = columns_after n (product n (matrix_of m) A) c l p.1 ∙ ap (λ (s : State). carried n s l) (column_step n m A c p.0)

identity_column : (n : ℕ) (c : Index) → column n identity c ≡ opened n c
unfolding column identity opened
identity_column n c = refl

pub columns : (n : ℕ) (x : Index) (l : List Move) → AllPlaced n l → column n (product_of n l) x ≡ carried n (opened n x) l
columns n x l p = columns_after n identity x l p ∙ ap (λ (s : State). carried n s l) (identity_column n x)
