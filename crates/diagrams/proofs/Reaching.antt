-- What a handle reaches is what its function has for parts; and what is left after a keep is reduced.
use Rattle.std.proofs.Common.{◌≡◌, ℕ, suc, ◌-◌, ◌<◌, ◌≤◌, Bool, true, false, List, get_or, sym, refl, ap, ◌∙◌, subst, ⊎_elim, arith}
use Rattle.std.proofs.lemmas.Bool.{cases_eq, cases_lt, cases_Bool, eq-eqb, ne_eqb, both_ways}
use Rattle.functions.specs.Tables.{Table, constant}
use Rattle.functions.specs.Sets.{among, is_constant}
use Rattle.functions.proofs.Constants.{constant_is_constant, constant_one_of}
use Rattle.diagrams.specs.Diagrams.{Diagram, low_half, high_half, function_over, Held, Reduced}
use Rattle.diagrams.specs.Parts.{prefix_parts}
use Rattle.diagrams.specs.Forming.{Restricts, whole, low_side, high_side}
use Rattle.diagrams.specs.Reaching.{Reaches, itself, by_low, by_high, Swept}
use Rattle.diagrams.proofs.Canonical.{constant_held, node_handle, length_over, over_halves, over_node, over_above, low_half_held, high_half_held, halves_same, canonical, from}
use Rattle.diagrams.proofs.Wanted.{over_zero, over_one}
use Rattle.diagrams.proofs.Prefixes.{FromPrefix, part_prefix, prefix_part}
use Rattle.diagrams.proofs.Parts.{lifted, over_lifted, restricts_from, Lifts, from_lifts}

restricts_up : (s : Diagram) (h e : ℕ) (u : Table) → Restricts (s.height h) (function_over s (s.height h) h) e u → (d : ℕ) → s.height h ≤ d → Restricts d (function_over s d h) e u
restricts_up s h e u x d l = from (λ (y : ℕ). Restricts y (function_over s y h) e u) (s.height h) x (λ y m z. low_side (function_over s y h) (function_over s y h) (over_above s y h m) (length_over s y h) z) d l

-- what is reached comes from the function by fixing first qubits
pub reach_restricts : (n : ℕ) (s : Diagram) → Reduced n s → (h k : ℕ) → Reaches s h k → (d : ℕ) → s.height h ≤ d → Restricts d (function_over s d h) (s.height k) (function_over s (s.height k) k)
reach_restricts n s o h k itself d l = restricts_up s h (s.height h) (function_over s (s.height h) h) whole d l
reach_restricts n s o h k (by_low p r) d l =
    let e : s.height h ≡ suc (s.height h - 1) = omega arith in
    let x = reach_restricts n s o (s.low h) k r (s.height h - 1) (omega (arith, o.low_later h p)) in
    restricts_up s h (s.height k) (function_over s (s.height k) k)
    (subst (λ (y : ℕ). Restricts y (function_over s y h) (s.height k) (function_over s (s.height k) k)) (sym e)
    (low_side (function_over s (s.height h - 1) (s.low h)) (function_over s (s.height h - 1) (s.high h)) (over_node s (s.height h - 1) h e) (length_over s (s.height h - 1) (s.low h)) x)) d l
reach_restricts n s o h k (by_high p r) d l =
    let e : s.height h ≡ suc (s.height h - 1) = omega arith in
    let x = reach_restricts n s o (s.high h) k r (s.height h - 1) (omega (arith, o.high_later h p)) in
    restricts_up s h (s.height k) (function_over s (s.height k) k)
    (subst (λ (y : ℕ). Restricts y (function_over s y h) (s.height k) (function_over s (s.height k) k)) (sym e)
    (high_side (function_over s (s.height h - 1) (s.low h)) (function_over s (s.height h - 1) (s.high h)) (over_node s (s.height h - 1) h e) (length_over s (s.height h - 1) (s.low h)) x)) d l

-- a handle that is reached and stands for u, a function of the last e qubits
pub record Reached (s : Diagram) (h e : ℕ) (u : Table) : Type 0 where
  pub handle : ℕ
  pub reaches : Reaches s h handle
  pub held : Held s handle
  pub low_enough : s.height handle ≤ e
  pub is : u ≡ function_over s e handle

through_low : (s : Diagram) (d h e : ℕ) (u : Table) → Reached s (low_half s d h) e u → Reached s h e u
through_low s d h e u = ⊎_elim node skip (cases_eq (s.height h) (suc d))
  where
    node : s.height h ≡ suc d → Reached s (low_half s d h) e u → Reached s h e u
    node q = let p : 0 < s.height h = omega arith in rw (eq-eqb (s.height h) (suc d) q) (λ x. record { handle = x.handle; reaches = by_low p x.reaches; held = x.held; low_enough = x.low_enough; is = x.is })

    skip : (s.height h ≡ suc d → ⊥) → Reached s (low_half s d h) e u → Reached s h e u
    skip q = rw (ne_eqb (s.height h) (suc d) q) (λ x. x)

through_high : (s : Diagram) (d h e : ℕ) (u : Table) → Reached s (high_half s d h) e u → Reached s h e u
through_high s d h e u = ⊎_elim node skip (cases_eq (s.height h) (suc d))
  where
    node : s.height h ≡ suc d → Reached s (high_half s d h) e u → Reached s h e u
    node q = let p : 0 < s.height h = omega arith in rw (eq-eqb (s.height h) (suc d) q) (λ x. record { handle = x.handle; reaches = by_high p x.reaches; held = x.held; low_enough = x.low_enough; is = x.is })

    skip : (s.height h ≡ suc d → ⊥) → Reached s (high_half s d h) e u → Reached s h e u
    skip q = rw (ne_eqb (s.height h) (suc d) q) (λ x. x)

-- what comes from a handle's function by fixing first qubits is reached
pub restricts_reach : (n : ℕ) (s : Diagram) → Reduced n s → (d : ℕ) (f : Table) (e : ℕ) (u : Table) → Restricts d f e u → (h : ℕ) → Held s h → s.height h ≤ d → f ≡ function_over s d h → Reached s h e u
restricts_reach n s o d f e u whole h hh l q = record { handle = h; reaches = itself; held = hh; low_enough = l; is = q }
restricts_reach n s o (suc d) f e u (low_side a b p m x) h hh l q =
    let v = low_half_held n s o d h hh l in
    let w = halves_same a b (function_over s d (low_half s d h)) (function_over s d (high_half s d h)) (m ∙ sym (length_over s d (low_half s d h))) (sym p ∙ q ∙ over_halves s d h) in
    through_low s d h e u (restricts_reach n s o d a e u x (low_half s d h) v.0 v.1 w.0)
restricts_reach n s o (suc d) f e u (high_side a b p m x) h hh l q =
    let v = high_half_held n s o d h hh l in
    let w = halves_same a b (function_over s d (low_half s d h)) (function_over s d (high_half s d h)) (m ∙ sym (length_over s d (low_half s d h))) (sym p ∙ q ∙ over_halves s d h) in
    through_high s d h e u (restricts_reach n s o d b e u x (high_half s d h) v.0 v.1 w.1)

-- ---- as functions of n qubits
-- only the constants' handles have constant functions
pub constant_handle : (n : ℕ) (s : Diagram) → Reduced n s → (b : Bool) → (h : ℕ) → Held s h → function_over s n h ≡ constant n b → h < 2
constant_handle n s o false h hh e =
    let z = canonical n s o n h 0 hh (constant_held s 0 (omega arith)) (o.within h) (o.within 0) (e ∙ sym (over_zero n s o n)) in omega arith
constant_handle n s o true h hh e =
    let z = canonical n s o n h 1 hh (constant_held s 1 (omega arith)) (o.within h) (o.within 1) (e ∙ sym (over_one n s o n)) in omega arith

pub node_varies : (n : ℕ) (s : Diagram) → Reduced n s → (h : ℕ) → 0 < s.height h → is_constant n (function_over s n h) ≡ false
node_varies n s o h p = ⊎_elim
    (λ (e : is_constant n (function_over s n h) ≡ true).
    let c = constant_one_of n (function_over s n h) e in
    absurd (let z = constant_handle n s o c.0 h (λ two. p) c.1 in let w = node_handle n s o h p in let b : ⊥ = omega arith in b))
    (λ e. e)
    (cases_Bool (is_constant n (function_over s n h)))

pub constant_over : (n : ℕ) (s : Diagram) → Reduced n s → (h : ℕ) → h < 2 → is_constant n (function_over s n h) ≡ true
constant_over n s o h l = ⊎_elim
    (λ (e : h ≡ 0). ap (λ (x : ℕ). is_constant n (function_over s n x)) e ∙ ap (is_constant n) (over_zero n s o n) ∙ constant_is_constant n false)
    (λ e. let z : h ≡ 1 = omega arith in ap (λ (x : ℕ). is_constant n (function_over s n x)) z ∙ ap (is_constant n) (over_one n s o n) ∙ constant_is_constant n true)
    (cases_eq h 0)

-- the nodes that a handle reaches are the parts of its function
pub reach_part : (n : ℕ) (s : Diagram) → Reduced n s → (h k : ℕ) → Reaches s h k → 0 < s.height k → among (function_over s n k) (prefix_parts n (function_over s n h)) ≡ true
reach_part n s o h k r p =
    prefix_part n (function_over s n h) (function_over s n k)
    (subst (FromPrefix n n (function_over s n h)) (sym (over_lifted s k (s.height k) n (omega arith) (o.within k)))
    (restricts_from n (function_over s n h) (s.height k) (function_over s (s.height k) k) (reach_restricts n s o h k r n (o.within h)) (length_over s n h)))
    (node_varies n s o k p)

pub restricts_falls : {d : ℕ} {f : Table} {e : ℕ} {u : Table} → Restricts d f e u → e ≤ d
restricts_falls whole = omega arith
restricts_falls (low_side a b q l r) = omega (arith, restricts_falls r)
restricts_falls (high_side a b q l r) = omega (arith, restricts_falls r)

pub part_reach : (n : ℕ) (s : Diagram) → Reduced n s → (h : ℕ) → Held s h → (g : Table) → among g (prefix_parts n (function_over s n h)) ≡ true → (k : ℕ) × Reaches s h k × (0 < s.height k) × (g ≡ function_over s n k)
part_reach n s o h hh g p = (x.handle, x.reaches, node, is)
  where
    a : FromPrefix n n (function_over s n h) g × (is_constant n g ≡ false)
    a = part_prefix n (function_over s n h) g p

    v : Lifts n (function_over s n h) g
    v = from_lifts n (function_over s n h) g (length_over s n h) a.0

    x : Reached s h v.over v.part
    x = restricts_reach n s o n (function_over s n h) v.over v.part v.restricts h hh (o.within h) refl

    is : g ≡ function_over s n x.handle
    is = v.is ∙ ap (lifted n v.over) x.is ∙ sym (over_lifted s x.handle v.over n x.low_enough (restricts_falls v.restricts))

    node : 0 < s.height x.handle
    node = ⊎_elim
        (λ (l : x.handle < 2). absurd (both_ways (is_constant n g) a.1 (ap (is_constant n) is ∙ constant_over n s o x.handle l)))
        (λ l. x.held l)
        (cases_lt x.handle 2)

-- ---- what a handle reaches is held
pub reach_held : (n : ℕ) (s : Diagram) → Reduced n s → (h k : ℕ) → Reaches s h k → Held s h → Held s k
reach_held n s o h k itself hh = hh
reach_held n s o h k (by_low p r) hh = reach_held n s o (s.low h) k r (o.low_held h p)
reach_held n s o h k (by_high p r) hh = reach_held n s o (s.high h) k r (o.high_held h p)

pub reach_then : (s : Diagram) (h k l : ℕ) → Reaches s h k → Reaches s k l → Reaches s h l
reach_then s h k l itself y = y
reach_then s h k l (by_low p r) y = by_low p (reach_then s (s.low h) k l r y)
reach_then s h k l (by_high p r) y = by_high p (reach_then s (s.high h) k l r y)

-- ---- after a keep
module _ (n : ℕ) (s t : Diagram) (o : Reduced n s) (list : List ℕ) (w : Swept s t list) where
  was_node : (h : ℕ) → 0 < t.height h → 0 < s.height h
  was_node h p = rw (w.same.height h (λ two. p)) p

  two : (h : ℕ) → 0 < t.height h → 2 ≤ h
  two h p = node_handle n s o h (was_node h p)

  low_stays : (h : ℕ) → 0 < t.height h → Held t (t.low h)
  low_stays h p =
      let r = w.reached h p in
      let q : 0 < s.height h = was_node h p in
      rw (← w.same.low h (λ l. p) (two h p)) (w.stays r.0 r.1 (s.low h) (reach_then s (get_or list r.0 0) h (s.low h) r.2 (by_low q itself)))

  high_stays : (h : ℕ) → 0 < t.height h → Held t (t.high h)
  high_stays h p =
      let r = w.reached h p in
      let q : 0 < s.height h = was_node h p in
      rw (← w.same.high h (λ l. p) (two h p)) (w.stays r.0 r.1 (s.high h) (reach_then s (get_or list r.0 0) h (s.high h) r.2 (by_high q itself)))

  pub swept_reduced : Reduced n t
  swept_reduced = record {
    constants = λ h l. sym (w.same.height h (constant_held t h l)) ∙ o.constants h l;
    within = within;
    low_held = low_stays;
    high_held = high_stays;
    low_later = λ h p. rw (← w.same.height (t.low h) (low_stays h p), ← w.same.height h (λ l. p), ← w.same.low h (λ l. p) (two h p)) (o.low_later h (was_node h p));
    high_later = λ h p. rw (← w.same.height (t.high h) (high_stays h p), ← w.same.height h (λ l. p), ← w.same.high h (λ l. p) (two h p)) (o.high_later h (was_node h p));
    halves_differ = λ h p e. o.halves_differ h (was_node h p) (w.same.low h (λ l. p) (two h p) ∙ e ∙ sym (w.same.high h (λ l. p) (two h p)));
    no_double = λ h k p e x y.
        let q : 0 < t.height k = subst (λ (z : ℕ). 0 < z) e p in
        o.no_double h k (was_node h p)
        (w.same.height h (λ l. p) ∙ e ∙ sym (w.same.height k (λ l. q)))
        (w.same.low h (λ l. p) (two h p) ∙ x ∙ sym (w.same.low k (λ l. q) (two k q)))
        (w.same.high h (λ l. p) (two h p) ∙ y ∙ sym (w.same.high k (λ l. q) (two k q)));
  }
    where
      within : (h : ℕ) → t.height h ≤ n
      within h = ⊎_elim (λ (p : 0 < t.height h). rw (← w.same.height h (λ l. p)) (o.within h)) (λ p. omega arith) (cases_lt 0 (t.height h))
