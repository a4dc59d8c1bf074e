-- Registers have the amplitudes of a column of the product, and equal products give equal registers.
use Rattle.std.proofs.Common.{◌≡◌, ℕ, zero, suc, ◌^◌, ◌<◌, cond, List, [], ◌∷◌, length, sym, refl, ap, ◌∙◌, subst, subst₂, inl}
use Rattle.exact.specs.declared.Quadruple.{Quadruple}
use Rattle.exact.specs.Indices.{Index, number, bits, listing, at_index, bits_at, with_setting, same_index}
use Rattle.exact.specs.Quadruples.{zero_quadruple, one_quadruple, add, times_ω, times_power_of_ω, times-√2, times_power_of_√2}
use Rattle.exact.specs.States.{amplitude, SameAmplitude, State, amplitude_at, SameAmplitudes, InNormalForm, normal_form}
use Rattle.exact.specs.Squares.{quadruple_at}
use Rattle.exact.proofs.Expressions.{√2_add, √2_ω}
use Rattle.exact.proofs.Sums.{total_same, total_map}
use Rattle.exact.proofs.Indices.{number_below}
use Rattle.exact.proofs.Listings.{length_listing, at_listing}
use Rattle.exact.proofs.Tables.{length_bits, number_of_bits}
use Rattle.exact.proofs.Roots.{crossed, uncrossed}
use Rattle.exact.proofs.NormalForms.{reached, same, unique, states_transitive, states_symmetric, states_reflexive}
use Rattle.gates.specs.Arity.{qubits_of}
use Rattle.matrices.specs.Gates.{Entry, nought, ω_to, entry, times_entry, power_of}
use Rattle.matrices.specs.Registers.{Move, new_at, applied, moved, opened, carried, led, register, AllPlaced}
use Rattle.matrices.specs.Products.{product_of, column, SameMatrix}
use Rattle.matrices.proofs.Columns.{new_same, columns}

-- ---- a gate commutes with √2
power-√2 : (k : ℕ) (q : Quadruple) → times_power_of_ω k (times-√2 q) ≡ times-√2 (times_power_of_ω k q)
power-√2 zero q = refl
power-√2 (suc k) q = ap times_ω (power-√2 k q) ∙ √2_ω (times_power_of_ω k q)

entry-√2 : (e : Entry) (q : Quadruple) → times_entry e (times-√2 q) ≡ times-√2 (times_entry e q)
entry-√2 nought q = refl
entry-√2 (ω_to k) q = power-√2 k q

entry_powers : (j : ℕ) (e : Entry) (q : Quadruple) → times_entry e (times_power_of_√2 j q) ≡ times_power_of_√2 j (times_entry e q)
unfolding times_power_of_√2
entry_powers zero e q = refl
entry_powers (suc j) e q = entry-√2 e (times_power_of_√2 j q) ∙ ap times-√2 (entry_powers j e q)

add_powers : (j : ℕ) (p q : Quadruple) → times_power_of_√2 j (add p q) ≡ add (times_power_of_√2 j p) (times_power_of_√2 j q)
unfolding times_power_of_√2
add_powers zero p q = refl
add_powers (suc j) p q = ap times-√2 (add_powers j p q) ∙ √2_add (times_power_of_√2 j p) (times_power_of_√2 j q)

new_powers : (j : ℕ) (m : Move) (f : Index → Quadruple) (r : Index) → times_power_of_√2 j (new_at m f r) ≡ new_at m (λ x. times_power_of_√2 j (f x)) r
unfolding new_at
new_powers j m f r =
    let qs : List ℕ = m.qubits in
    total_map add add (times_power_of_√2 j) (add_powers j) (qubits_of m.gate) (λ s. times_entry (entry m.gate (bits_at r qs) s) (f (with_setting r qs s)))
    ∙ total_same add (qubits_of m.gate) (λ s. times_power_of_√2 j (times_entry (entry m.gate (bits_at r qs) s) (f (with_setting r qs s)))) (λ s. times_entry (entry m.gate (bits_at r qs) s) (times_power_of_√2 j (f (with_setting r qs s))))
    (λ s k. sym (entry_powers j (entry m.gate (bits_at r qs) s) (f (with_setting r qs s))))

-- ---- the same amplitudes, by indices and by numbers
abbrev SameAt : State → State → Index → Type 0
SameAt s t x = SameAmplitude (amplitude (quadruple_at s.quadruples x) s.power.0) (amplitude (quadruple_at t.quadruples x) t.power.0)

by_indices : (n : ℕ) (s t : State) → length s.quadruples ≡ 2 ^ n → SameAmplitudes s t → (x : Index) → length x ≡ n → SameAt s t x
unfolding at_index
by_indices n s t l h x e = h.at_each (number x) (subst (λ (m : ℕ). number x < m) (ap (λ (k : ℕ). 2 ^ k) e ∙ sym l) (number_below x))

by_numbers : (n : ℕ) (s t : State) → length s.quadruples ≡ 2 ^ n → length t.quadruples ≡ 2 ^ n → ((x : Index) → length x ≡ n → SameAt s t x) → SameAmplitudes s t
unfolding at_index
by_numbers n s t l m h = record {
  as_long = l ∙ sym m;
  at_each = λ i b. subst (λ (j : ℕ). SameAmplitude (amplitude_at s j) (amplitude_at t j)) (number_of_bits n i (subst (λ (k : ℕ). i < k) l b)) (h (bits n i) (length_bits n i));
}

-- ---- a gate respects the same amplitudes
pub length_moved : (n : ℕ) (m : Move) (s : State) → length (moved n m s).quadruples ≡ 2 ^ n
unfolding moved applied
length_moved n m s = length_listing n (new_at m (quadruple_at s.quadruples))

moved_same : (n : ℕ) (m : Move) (s t : State) → length s.quadruples ≡ 2 ^ n → SameAmplitudes s t → SameAmplitudes (moved n m s) (moved n m t)
unfolding moved applied
moved_same n m s t l h = by_numbers n (moved n m s) (moved n m t) (length_moved n m s) (length_moved n m t) each
  where
    f : Index → Quadruple
    f = quadruple_at s.quadruples

    g : Index → Quadruple
    g = quadruple_at t.quadruples

    new : (x : Index) → length x ≡ n → times_power_of_√2 t.power.0 (new_at m f x) ≡ times_power_of_√2 s.power.0 (new_at m g x)
    new x e =
        new_powers t.power.0 m f x
        ∙ new_same n m (λ y. times_power_of_√2 t.power.0 (f y)) (λ y. times_power_of_√2 s.power.0 (g y)) x e (λ y k. crossed (f y) (g y) s.power.0 t.power.0 (by_indices n s t l h y k))
        ∙ sym (new_powers s.power.0 m g x)

    each : (x : Index) → length x ≡ n → SameAt (moved n m s) (moved n m t) x
    each x e = uncrossed (quadruple_at (listing n (new_at m f)) x) (quadruple_at (listing n (new_at m g)) x) (power_of m.gate).0 s.power.0 t.power.0
        (ap (times_power_of_√2 t.power.0) (at_listing zero_quadruple n (new_at m f) x e) ∙ new x e ∙ ap (times_power_of_√2 s.power.0) (sym (at_listing zero_quadruple n (new_at m g) x e)))

-- ---- registers
pub length_led : (n : ℕ) (m : Move) (s : State) → length (normal_form (moved n m s)).quadruples ≡ 2 ^ n
length_led n m s = (same (moved n m s)).as_long ∙ length_moved n m s

led_carried : (n : ℕ) (l : List Move) (s t : State) → length s.quadruples ≡ 2 ^ n → SameAmplitudes s t → SameAmplitudes (led n s l) (carried n t l)
unfolding led carried
led_carried n [] s t e h = h
led_carried n (m ∷ l) s t e h =
    led_carried n l (normal_form (moved n m s)) (moved n m t) (length_led n m s)
    (states_transitive (normal_form (moved n m s)) (moved n m s) (moved n m t) (same (moved n m s)) (moved_same n m s t e h))

pub length_opened : (n : ℕ) (x : Index) → length (opened n x).quadruples ≡ 2 ^ n
unfolding opened
length_opened n x = length_listing n (λ y. cond (same_index y x) one_quadruple zero_quadruple)

pub amplitudes : (n : ℕ) (x : Index) (l : List Move) → AllPlaced n l → SameAmplitudes (register n x l) (column n (product_of n l) x)
amplitudes n x l p = subst (λ (s : State). SameAmplitudes (register n x l) s) (sym (columns n x l p)) (led_carried n l (opened n x) (opened n x) (length_opened n x) (states_reflexive (opened n x)))

led_normal : (n : ℕ) (l : List Move) (s : State) → InNormalForm s → InNormalForm (led n s l)
unfolding led
led_normal n [] s h = h
led_normal n (m ∷ l) s h = led_normal n l (normal_form (moved n m s)) (reached (moved n m s))

opened_normal : (n : ℕ) (x : Index) → InNormalForm (opened n x)
unfolding InNormalForm opened
opened_normal n x = inl refl

pub normal : (n : ℕ) (x : Index) (l : List Move) → InNormalForm (register n x l)
normal n x l = led_normal n l (opened n x) (opened_normal n x)

-- ---- equal products
columns_same : (n : ℕ) (x : Index) (l m : List Move) → length x ≡ n → SameMatrix n (product_of n l) (product_of n m) → SameAmplitudes (column n (product_of n l) x) (column n (product_of n m) x)
unfolding column
columns_same n x l m e h = by_numbers n (column n (product_of n l) x) (column n (product_of n m) x) (length_listing n (λ r. (product_of n l).entry r x)) (length_listing n (λ r. (product_of n m).entry r x))
    (λ r k. subst₂ (λ (p q : Quadruple). SameAmplitude (amplitude p (product_of n l).power.0) (amplitude q (product_of n m).power.0)) (sym (at_listing zero_quadruple n (λ y. (product_of n l).entry y x) r k)) (sym (at_listing zero_quadruple n (λ y. (product_of n m).entry y x) r k)) (h r x k e))

pub equal : (n : ℕ) (x : Index) (l m : List Move) → length x ≡ n → AllPlaced n l → AllPlaced n m → SameMatrix n (product_of n l) (product_of n m) → register n x l ≡ register n x m
equal n x l m e p q h =
    unique (register n x l) (register n x m) (normal n x l) (normal n x m)
    (states_transitive (register n x l) (column n (product_of n l) x) (register n x m) (amplitudes n x l p)
    (states_transitive (column n (product_of n l) x) (column n (product_of n m) x) (register n x m) (columns_same n x l m e h) (states_symmetric (register n x m) (column n (product_of n m) x) (amplitudes n x m q))))
