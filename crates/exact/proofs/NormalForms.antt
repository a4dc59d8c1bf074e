-- The normal form is reached, keeps the amplitudes, and is the only one.
use Rattle.std.proofs.Common.{◌≡◌, ℕ, zero, suc, ◌-◌, ◌<◌, ◌≤◌, true, false, ◌⊎◌, List, [], ◌∷◌, map, length, get_or, sym, refl, ap, ◌∙◌, subst, inl, inr, true≢false, arith, ext_get_or}
use lib.ListN.{length-map, get_or-map}
use Rattle.std.proofs.lemmas.Bool.{or_parts, or_from, cases_order, cond_both}
use Rattle.exact.specs.declared.Amplitude.{Amplitude}
use Rattle.exact.specs.declared.Quadruple.{Quadruple}
use Rattle.exact.specs.Quadruples.{zero_quadruple, times-√2, times_power_of_√2, odd_sum, over-√2}
use Rattle.exact.specs.States.{SameAmplitude, State, state, amplitude_at, SameAmplitudes, some_odd_sum, InNormalForm, reduced, normal_form}
use Rattle.exact.proofs.Roots.{transitive, symmetric, reflexive}
use Rattle.exact.proofs.Division.{no_odd_sum, divided}

pub odd_at : (v : List Quadruple) (i : ℕ) → some_odd_sum v ≡ false → odd_sum (get_or v i zero_quadruple) ≡ false
unfolding some_odd_sum
odd_at [] i e = refl
odd_at (q ∷ v) zero e = (or_parts (odd_sum q) (some_odd_sum v) e).0
odd_at (q ∷ v) (suc i) e = odd_at v i (or_parts (odd_sum q) (some_odd_sum v) e).1

pub none_odd : (v : List Quadruple) → ((i : ℕ) → i < length v → odd_sum (get_or v i zero_quadruple) ≡ false) → some_odd_sum v ≡ false
unfolding some_odd_sum
none_odd [] h = refl
none_odd (q ∷ v) h = or_from (odd_sum q) (some_odd_sum v) (h 0 (omega arith)) (none_odd v (λ i l. h (suc i) (omega arith)))

-- ---- the same amplitudes at every index: an equivalence
pub states_transitive : (s t u : State) → SameAmplitudes s t → SameAmplitudes t u → SameAmplitudes s u
states_transitive s t u h k = record {
  as_long = h.as_long ∙ k.as_long;
  at_each = λ i l. transitive (amplitude_at s i) (amplitude_at t i) (amplitude_at u i) (h.at_each i l) (k.at_each i (subst (λ (m : ℕ). i < m) h.as_long l));
}

pub states_symmetric : (s t : State) → SameAmplitudes s t → SameAmplitudes t s
states_symmetric s t h = record {
  as_long = sym h.as_long;
  at_each = λ i l. symmetric (amplitude_at s i) (amplitude_at t i) (h.at_each i (subst (λ (m : ℕ). i < m) (sym h.as_long) l));
}

pub states_reflexive : (s : State) → SameAmplitudes s s
states_reflexive s = record { as_long = refl; at_each = λ i l. reflexive (amplitude_at s i) }

-- ---- reaching the normal form
reduced_normal : (k : ℕ) (v : List Quadruple) → InNormalForm (reduced k v)
unfolding reduced InNormalForm
reduced_normal zero v = inl refl
reduced_normal (suc k) v = cond_both (some_odd_sum v) (state (suc k) v) (reduced k (map over-√2 v)) InNormalForm (λ e. inr e) (λ e. reduced_normal k (map over-√2 v))

pub reached : (s : State) → InNormalForm (normal_form s)
reached s = reduced_normal s.power.0 s.quadruples

reduced_lower : (k : ℕ) (v : List Quadruple) → (reduced k v).power.0 ≤ k
unfolding reduced
reduced_lower zero v = omega arith
reduced_lower (suc k) v = cond_both (some_odd_sum v) (state (suc k) v) (reduced k (map over-√2 v)) (λ s. s.power.0 ≤ suc k) (λ e. omega arith) (λ e. let l = reduced_lower k (map over-√2 v) in omega arith)

pub lower : (s : State) → (normal_form s).power.0 ≤ s.power.0
lower s = reduced_lower s.power.0 s.quadruples

one_step : (k : ℕ) (v : List Quadruple) → some_odd_sum v ≡ false → SameAmplitudes (state k (map over-√2 v)) (state (suc k) v)
unfolding SameAmplitude times_power_of_√2
one_step k v e = record {
  as_long = length-map v over-√2;
  at_each = λ i l.
      let q : Quadruple = get_or v i zero_quadruple in
      let x : suc k - k ≡ 1 = omega arith in
      let y : k - suc k ≡ 0 = omega arith in
      ap (λ (m : ℕ). times_power_of_√2 m (get_or (map over-√2 v) i zero_quadruple)) x
      ∙ ap times-√2 (get_or-map over-√2 v i zero_quadruple)
      ∙ divided q (odd_at v i e)
      ∙ ap (λ (m : ℕ). times_power_of_√2 m q) (sym y);
}

reduced_same : (k : ℕ) (v : List Quadruple) → SameAmplitudes (reduced k v) (state k v)
unfolding reduced
reduced_same zero v = states_reflexive (state zero v)
reduced_same (suc k) v = cond_both (some_odd_sum v) (state (suc k) v) (reduced k (map over-√2 v)) (λ s. SameAmplitudes s (state (suc k) v))
    (λ e. states_reflexive (state (suc k) v))
    (λ e. states_transitive (reduced k (map over-√2 v)) (state k (map over-√2 v)) (state (suc k) v) (reduced_same k (map over-√2 v)) (one_step k v e))

pub same : (s : State) → SameAmplitudes (normal_form s) s
same s = reduced_same s.power.0 s.quadruples

-- ---- the only one
-- of two equal amplitudes, the one of higher power has no odd sum
higher_even : (x y : Amplitude) → x.power.0 < y.power.0 → SameAmplitude x y → odd_sum y.quadruple ≡ false
unfolding SameAmplitude times_power_of_√2
higher_even x y h e =
    let d : ℕ = y.power.0 - x.power.0 - 1 in
    let m : suc d ≡ y.power.0 - x.power.0 = omega arith in
    let n : x.power.0 - y.power.0 ≡ 0 = omega arith in
    let f : times-√2 (times_power_of_√2 d x.quadruple) ≡ y.quadruple = ap (λ (k : ℕ). times_power_of_√2 k x.quadruple) m ∙ e ∙ ap (λ (k : ℕ). times_power_of_√2 k y.quadruple) n in
    ap odd_sum (sym f) ∙ no_odd_sum (times_power_of_√2 d x.quadruple)

-- so of two states with the same amplitudes, the one of higher power is not in normal form
higher : (s t : State) → InNormalForm t → SameAmplitudes s t → s.power.0 < t.power.0 → ⊥
unfolding InNormalForm
higher s t n h l = go n
  where
    even : (i : ℕ) → i < length t.quadruples → odd_sum (get_or t.quadruples i zero_quadruple) ≡ false
    even i b = higher_even (amplitude_at s i) (amplitude_at t i) l (h.at_each i (subst (λ (m : ℕ). i < m) (sym h.as_long) b))

    go : (t.power.0 ≡ 0) ⊎ (some_odd_sum t.quadruples ≡ true) → ⊥
    go (inl e) = omega arith
    go (inr e) = true≢false (sym e ∙ none_odd t.quadruples even)

pub state_path : {s t : State} → s.power.0 ≡ t.power.0 → s.quadruples ≡ t.quadruples → s ≡ t
state_path e h i = state (e i) (h i)

pub unique : (s t : State) → InNormalForm s → InNormalForm t → SameAmplitudes s t → s ≡ t
unfolding SameAmplitude times_power_of_√2
unique s t ns nt h = go (cases_order s.power.0 t.power.0)
  where
    go : (s.power.0 ≡ t.power.0) ⊎ ((s.power.0 < t.power.0) ⊎ (t.power.0 < s.power.0)) → s ≡ t
    go (inl e) = state_path e (ext_get_or zero_quadruple s.quadruples t.quadruples h.as_long (λ i l.
        let x : t.power.0 - s.power.0 ≡ 0 = omega arith in
        let y : s.power.0 - t.power.0 ≡ 0 = omega arith in
        ap (λ (m : ℕ). times_power_of_√2 m (get_or s.quadruples i zero_quadruple)) (sym x) ∙ h.at_each i l ∙ ap (λ (m : ℕ). times_power_of_√2 m (get_or t.quadruples i zero_quadruple)) y))
    go (inr (inl l)) = absurd (higher s t nt h l)
    go (inr (inr l)) = absurd (higher t s ns (states_symmetric s t h) l)

pub equal_then_same : (s t : State) → normal_form s ≡ normal_form t → SameAmplitudes s t
equal_then_same s t e =
    states_transitive s (normal_form s) t (states_symmetric (normal_form s) s (same s))
    (subst (λ (u : State). SameAmplitudes u t) (sym e) (same t))

pub same_then_equal : (s t : State) → SameAmplitudes s t → normal_form s ≡ normal_form t
same_then_equal s t h =
    unique (normal_form s) (normal_form t) (reached s) (reached t)
    (states_transitive (normal_form s) s (normal_form t) (same s) (states_transitive s t (normal_form t) h (states_symmetric (normal_form t) t (same t))))
