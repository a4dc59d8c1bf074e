-- Comparing two amplitudes by dividing the one of higher power by √2 until the powers are equal.
use Rattle.std.proofs.Common.{◌≡◌, ℕ, suc, ◌+◌, ◌-◌, ◌<◌, ◌≤◌, Bool, true, false, cond, ◌&&◌, Some, None, Decides, int_eq, sym, refl, ap, ◌∙◌, true≢false, arith}
use Rattle.std.proofs.lemmas.Bool.Decides.{Decides-int_eq, Decides-and}
use Rattle.exact.specs.declared.Amplitude.{Amplitude}
use Rattle.exact.specs.declared.Quadruple.{Quadruple}
use Rattle.exact.specs.Quadruples.{times-√2, times_power_of_√2, odd_sum, over-√2, division}
use Rattle.exact.specs.States.{SameAmplitude}
use Rattle.exact.proofs.Expressions.{quadruple_path}
use Rattle.exact.proofs.Roots.{powers_injective, powers_add}
use Rattle.exact.proofs.Division.{divided, no_odd_sum}

-- ---- what a division answers
gives_back : (q d : Quadruple) → Some d ≡ division q → times-√2 d ≡ q
gives_back q d e = go (odd_sum q) refl e
  where
    go : (b : Bool) → odd_sum q ≡ b → Some d ≡ cond b None (Some (over-√2 q)) → times-√2 d ≡ q
    go true o e = absurd (let z : ◌≡◌ {A = ℕ} 0 1 = cc in let b : ⊥ = omega arith in b)
    go false o e = let f : d ≡ over-√2 q = cc in ap times-√2 f ∙ divided q o

was_odd : (q : Quadruple) → None ≡ division q → odd_sum q ≡ true
was_odd q e = go (odd_sum q) e
  where
    go : (b : Bool) → None ≡ cond b None (Some (over-√2 q)) → b ≡ true
    go true e = refl
    go false e = absurd (let z : ◌≡◌ {A = ℕ} 0 1 = cc in let b : ⊥ = omega arith in b)

-- ---- the turns of the loop: `now`, from power k down to that of `low`, makes `start`
pub starts : (k : ℕ) (q : Quadruple) → times_power_of_√2 (k - k) q ≡ q
unfolding times_power_of_√2
starts k q = let z : k - k ≡ 0 = omega arith in ap (λ (m : ℕ). times_power_of_√2 m q) z

pub goes_on : (low k : ℕ) (start now d : Quadruple) → low ≤ k → Some d ≡ division now → times_power_of_√2 (k - low) now ≡ start → times_power_of_√2 (k + 1 - low) d ≡ start
unfolding times_power_of_√2
goes_on low k start now d h e i =
    let m : k + 1 - low ≡ (k - low) + 1 = omega arith in
    ap (λ (n : ℕ). times_power_of_√2 n d) m
    ∙ sym (powers_add (k - low) 1 d)
    ∙ ap (times_power_of_√2 (k - low)) (gives_back now d e)
    ∙ i

module _ (low high : Amplitude) (h : low.power.0 ≤ high.power.0) where
  raised_to : SameAmplitude low high → times_power_of_√2 (high.power.0 - low.power.0) low.quadruple ≡ high.quadruple
  unfolding SameAmplitude times_power_of_√2
  raised_to e = let z : low.power.0 - high.power.0 ≡ 0 = omega arith in e ∙ ap (λ (m : ℕ). times_power_of_√2 m high.quadruple) z

  raised_from : times_power_of_√2 (high.power.0 - low.power.0) low.quadruple ≡ high.quadruple → SameAmplitude low high
  unfolding SameAmplitude times_power_of_√2
  raised_from e = let z : low.power.0 - high.power.0 ≡ 0 = omega arith in e ∙ ap (λ (m : ℕ). times_power_of_√2 m high.quadruple) (sym z)

  -- where the loop stops early, the amplitudes differ
  pub differ : (k : ℕ) (now : Quadruple) → low.power.0 ≤ k → k < high.power.0 → None ≡ division now → times_power_of_√2 (k - low.power.0) now ≡ high.quadruple
      → SameAmplitude low high → ⊥
  unfolding times_power_of_√2
  differ k now l u e i s =
      let d : ℕ = high.power.0 - k - 1 in
      let m : (k - low.power.0) + suc d ≡ high.power.0 - low.power.0 = omega arith in
      let f : times_power_of_√2 (suc d) low.quadruple ≡ now =
      powers_injective (k - low.power.0) (times_power_of_√2 (suc d) low.quadruple) now
      (powers_add (k - low.power.0) (suc d) low.quadruple ∙ ap (λ (n : ℕ). times_power_of_√2 n low.quadruple) m ∙ raised_to s ∙ sym i) in
      true≢false (sym (was_odd now e) ∙ ap odd_sum (sym f) ∙ no_odd_sum (times_power_of_√2 d low.quadruple))

  -- where it runs to the end, they are the same exactly if the quadruples are equal
  pub same_if : (now : Quadruple) → times_power_of_√2 (high.power.0 - low.power.0) now ≡ high.quadruple → now ≡ low.quadruple → SameAmplitude low high
  same_if now i e = raised_from (ap (times_power_of_√2 (high.power.0 - low.power.0)) (sym e) ∙ i)

  pub same_only_if : (now : Quadruple) → times_power_of_√2 (high.power.0 - low.power.0) now ≡ high.quadruple → SameAmplitude low high → now ≡ low.quadruple
  same_only_if now i s = powers_injective (high.power.0 - low.power.0) now low.quadruple (i ∙ sym (raised_to s))

-- ---- `==` on quadruples, from what it says of each part
abbrev pub same_parts : Quadruple → Quadruple → Bool
same_parts p q = int_eq p.a q.a && (int_eq p.b q.b && (int_eq p.c q.c && int_eq p.d q.d))

pub equals : (r : Bool) (p q : Quadruple) → r ≡ same_parts p q → Decides r (p ≡ q)
equals r p q h =
    let d = Decides-and _ _ (Decides-int_eq p.a q.a) (Decides-and _ _ (Decides-int_eq p.b q.b) (Decides-and _ _ (Decides-int_eq p.c q.c) (Decides-int_eq p.d q.d))) in (
      λ e. let t = d.0 (sym h ∙ e) in quadruple_path t.0 t.1.0 t.1.1.0 t.1.1.1,
      λ e. h ∙ d.1 (ap (λ (x : Quadruple). x.a) e, (ap (λ (x : Quadruple). x.b) e, (ap (λ (x : Quadruple). x.c) e, ap (λ (x : Quadruple). x.d) e))),
    )
