-- The functions of a diagram: what they are at each height, that equal ones have one handle, and that they stay.
use Rattle.std.proofs.Common.{◌≡◌, ℕ, zero, suc, ◌+◌, ◌-◌, ◌^◌, ◌<◌, ◌≤◌, Bool, cond, eqb, ◌⊎◌, List, [], ◌∷◌, ◌++◌, length, take, drop, sym, refl, ap, ◌∙◌, subst, inl, inr, ⊎_elim, pow-suc, arith, length-append}
use Rattle.std.proofs.lemmas.List.{take_at, drop_at}
use Rattle.std.proofs.lemmas.Bool.{cases_eq, cases_lt, eq-eqb, ne_eqb}
use Rattle.std.proofs.lemmas.Bool.Decides.{nat_tests}
use Rattle.diagrams.specs.Diagrams.{Diagram, low_half, high_half, function_over, Held, Reduced}
use Rattle.diagrams.specs.Forming.{Keeps, Alike}

-- a constant is held, and a node's handle is at least 2
pub constant_held : (s : Diagram) (h : ℕ) → h < 2 → Held s h
constant_held s h l = λ two. absurd (let b : ⊥ = omega arith in b)

pub node_handle : (n : ℕ) (s : Diagram) → Reduced n s → (h : ℕ) → 0 < s.height h → 2 ≤ h
node_handle n s o h p = ⊎_elim (λ (l : h < 2). absurd (go l)) (λ l. l) (cases_lt h 2)
  where
    go : h < 2 → ⊥
    go l = omega (arith, o.constants h l)

-- ---- functions at a height
pub length_over : (s : Diagram) (d h : ℕ) → length (function_over s d h) ≡ 2 ^ d
unfolding function_over
length_over s zero h = refl
length_over s (suc d) h =
    length-append (function_over s d (low_half s d h)) (function_over s d (high_half s d h))
    ∙ omega (arith, length_over s d (low_half s d h), length_over s d (high_half s d h), pow-suc 2 d)

pub same_length : (s t : Diagram) (d g h : ℕ) → length (function_over s d g) ≡ length (function_over t d h)
same_length s t d g h = length_over s d g ∙ sym (length_over t d h)

pub over_halves : (s : Diagram) (d h : ℕ) → function_over s (suc d) h ≡ function_over s d (low_half s d h) ++ function_over s d (high_half s d h)
unfolding function_over
over_halves s d h = refl

-- at its own height a node is its halves joined
pub over_node : (s : Diagram) (d h : ℕ) → s.height h ≡ suc d → function_over s (suc d) h ≡ function_over s d (s.low h) ++ function_over s d (s.high h)
unfolding function_over
over_node s d h e = rw (eq-eqb (s.height h) (suc d) e)

-- elsewhere, as above its height, it is doubled
pub over_skip : (s : Diagram) (d h : ℕ) → (s.height h ≡ suc d → ⊥) → function_over s (suc d) h ≡ function_over s d h ++ function_over s d h
unfolding function_over
over_skip s d h e = rw (ne_eqb (s.height h) (suc d) e)

pub over_above : (s : Diagram) (d h : ℕ) → s.height h ≤ d → function_over s (suc d) h ≡ function_over s d h ++ function_over s d h
over_above s d h l = over_skip s d h (λ e. omega arith)

-- the halves of a held handle are held, and look at later qubits
half_held : (s : Diagram) (d h half : ℕ) → (0 < s.height h → Held s half × (s.height half < s.height h)) → Held s h → s.height h ≤ suc d → Held s (cond (eqb (s.height h) (suc d)) half h) × (s.height (cond (eqb (s.height h) (suc d)) half h) ≤ d)
half_held s d h half of hh l = ⊎_elim node skip (cases_eq (s.height h) (suc d))
  where
    node : s.height h ≡ suc d → Held s (cond (eqb (s.height h) (suc d)) half h) × (s.height (cond (eqb (s.height h) (suc d)) half h) ≤ d)
    node e = let x = of (omega arith) in rw (eq-eqb (s.height h) (suc d) e) (x.0, omega (arith, x.1))

    skip : (s.height h ≡ suc d → ⊥) → Held s (cond (eqb (s.height h) (suc d)) half h) × (s.height (cond (eqb (s.height h) (suc d)) half h) ≤ d)
    skip e = let x : s.height h ≤ d = omega arith in rw (ne_eqb (s.height h) (suc d) e) (hh, x)

pub low_half_held : (n : ℕ) (s : Diagram) → Reduced n s → (d h : ℕ) → Held s h → s.height h ≤ suc d → Held s (low_half s d h) × (s.height (low_half s d h) ≤ d)
low_half_held n s o d h = half_held s d h (s.low h) (λ p. (o.low_held h p, o.low_later h p))

pub high_half_held : (n : ℕ) (s : Diagram) → Reduced n s → (d h : ℕ) → Held s h → s.height h ≤ suc d → Held s (high_half s d h) × (s.height (high_half s d h) ≤ d)
high_half_held n s o d h = half_held s d h (s.high h) (λ p. (o.high_held h p, o.high_later h p))

-- ---- what holds at a height and goes one up holds from there on
up_by : (P : ℕ → Type 0) (m : ℕ) → P m → ((d : ℕ) → m ≤ d → P d → P (suc d)) → (k : ℕ) → P (k + m)
up_by P m b step zero = subst P (omega arith) b
up_by P m b step (suc k) = subst P (omega arith) (step (k + m) (omega arith) (up_by P m b step k))

pub from : (P : ℕ → Type 0) (m : ℕ) → P m → ((d : ℕ) → m ≤ d → P d → P (suc d)) → (d : ℕ) → m ≤ d → P d
from P m b step d l = subst P (omega arith) (up_by P m b step (d - m))

-- ---- canonical: equal functions have one handle
pub halves_same : {A : Type 0} (a b c d : List A) → length a ≡ length c → a ++ b ≡ c ++ d → (a ≡ c) × (b ≡ d)
halves_same a b c d l e = (
  sym (take_at a b (length a) refl) ∙ ap (take (length a)) e ∙ take_at c d (length a) (sym l),
  sym (drop_at a b (length a) refl) ∙ ap (drop (length a)) e ∙ drop_at c d (length a) (sym l),
)

head_same : (a b : Bool) → a ∷ [] ≡ b ∷ [] → a ≡ b
head_same a b e = cc

-- one qubit more, where functions of d qubits are known to have one handle
module _ (n : ℕ) (s : Diagram) (o : Reduced n s) (d : ℕ) (below : (f g : ℕ) → Held s f → Held s g → s.height f ≤ d → s.height g ≤ d → function_over s d f ≡ function_over s d g → f ≡ g) where
  both_nodes : (f g : ℕ) → s.height f ≡ suc d → s.height g ≡ suc d → function_over s (suc d) f ≡ function_over s (suc d) g → f ≡ g
  both_nodes f g p q e =
      let fp : 0 < s.height f = omega arith in
      let gp : 0 < s.height g = omega arith in
      let t = halves_same (function_over s d (s.low f)) (function_over s d (s.high f)) (function_over s d (s.low g)) (function_over s d (s.high g)) (same_length s s d (s.low f) (s.low g)) (sym (over_node s d f p) ∙ e ∙ over_node s d g q) in
      let lo = below (s.low f) (s.low g) (o.low_held f fp) (o.low_held g gp) (omega (arith, o.low_later f fp)) (omega (arith, o.low_later g gp)) t.0 in
      let hi = below (s.high f) (s.high g) (o.high_held f fp) (o.high_held g gp) (omega (arith, o.high_later f fp)) (omega (arith, o.high_later g gp)) t.1 in
      o.no_double f g fp (p ∙ sym q) lo hi

  one_node : (f g : ℕ) → s.height f ≡ suc d → (s.height g ≡ suc d → ⊥) → function_over s (suc d) f ≡ function_over s (suc d) g → ⊥
  one_node f g p q e =
      let fp : 0 < s.height f = omega arith in
      let t = halves_same (function_over s d (s.low f)) (function_over s d (s.high f)) (function_over s d g) (function_over s d g) (same_length s s d (s.low f) g) (sym (over_node s d f p) ∙ e ∙ over_skip s d g q) in
      let eq = below (s.low f) (s.high f) (o.low_held f fp) (o.high_held f fp) (omega (arith, o.low_later f fp)) (omega (arith, o.high_later f fp)) (t.0 ∙ sym t.1) in
      o.halves_differ f fp eq

  no_node : (f g : ℕ) → (s.height f ≡ suc d → ⊥) → (s.height g ≡ suc d → ⊥) → Held s f → Held s g → s.height f ≤ suc d → s.height g ≤ suc d → function_over s (suc d) f ≡ function_over s (suc d) g → f ≡ g
  no_node f g p q hf hg lf lg e =
      let t = halves_same (function_over s d f) (function_over s d f) (function_over s d g) (function_over s d g) (same_length s s d f g) (sym (over_skip s d f p) ∙ e ∙ over_skip s d g q) in
      below f g hf hg (omega arith) (omega arith) t.0

  canonical_more : (f g : ℕ) → Held s f → Held s g → s.height f ≤ suc d → s.height g ≤ suc d → function_over s (suc d) f ≡ function_over s (suc d) g → f ≡ g
  canonical_more f g hf hg lf lg e = go (cases_eq (s.height f) (suc d)) (cases_eq (s.height g) (suc d))
    where
      go : (s.height f ≡ suc d) ⊎ (s.height f ≡ suc d → ⊥) → (s.height g ≡ suc d) ⊎ (s.height g ≡ suc d → ⊥) → f ≡ g
      go (inl p) (inl q) = both_nodes f g p q e
      go (inl p) (inr q) = absurd (one_node f g p q e)
      go (inr p) (inl q) = absurd (one_node g f q p (sym e))
      go (inr p) (inr q) = no_node f g p q hf hg lf lg e

canonical_none : (s : Diagram) (f g : ℕ) → Held s f → Held s g → s.height f ≤ 0 → s.height g ≤ 0 → function_over s 0 f ≡ function_over s 0 g → f ≡ g
unfolding function_over
canonical_none s f g hf hg lf lg e =
    let b : eqb f 1 ≡ eqb g 1 = head_same (eqb f 1) (eqb g 1) e in
    grind (arith, nat_tests)

-- two held handles with the same function, at a height that both reach, are equal
pub canonical : (n : ℕ) (s : Diagram) → Reduced n s → (d f g : ℕ) → Held s f → Held s g → s.height f ≤ d → s.height g ≤ d → function_over s d f ≡ function_over s d g → f ≡ g
canonical n s o zero f g hf hg lf lg e = canonical_none s f g hf hg lf lg e
canonical n s o (suc d) f g hf hg lf lg e = canonical_more n s o d (canonical n s o d) f g hf hg lf lg e

-- ---- what is held stays
pub keeps_self : (s : Diagram) → Keeps s s
keeps_self s = record { height = λ h hh. refl; low = λ h hh l. refl; high = λ h hh l. refl }

pub alike_keeps : (s t : Diagram) → Alike s t → Keeps s t
alike_keeps s t a = record { height = λ h hh. a.height h; low = λ h hh l. a.low h (hh l); high = λ h hh l. a.high h (hh l) }

pub alike_back : (s t : Diagram) → Alike s t → Alike t s
alike_back s t a = record {
  height = λ h. sym (a.height h);
  low = λ h p. sym (a.low h (subst (λ (x : ℕ). 0 < x) (a.height h) p));
  high = λ h p. sym (a.high h (subst (λ (x : ℕ). 0 < x) (a.height h) p));
}

pub held_kept : (s t : Diagram) → Keeps s t → (h : ℕ) → Held s h → Held t h
held_kept s t k h hh l = rw (k.height h hh) (hh l)

pub node_kept : (s t : Diagram) → Keeps s t → (h : ℕ) → 0 < s.height h → 0 < t.height h
node_kept s t k h p = rw (k.height h (λ l. p)) p

pub keeps_then : (s t u : Diagram) → Keeps s t → Keeps t u → Keeps s u
keeps_then s t u k m = record {
  height = λ h hh. m.height h (held_kept s t k h hh) ∙ k.height h hh;
  low = λ h hh l. m.low h (held_kept s t k h hh) l ∙ k.low h hh l;
  high = λ h hh l. m.high h (held_kept s t k h hh) l ∙ k.high h hh l;
}

over_kept_more : (n : ℕ) (s t : Diagram) → Reduced n s → Keeps s t → (d : ℕ) → ((h : ℕ) → Held s h → function_over t d h ≡ function_over s d h) → (h : ℕ) → Held s h → function_over t (suc d) h ≡ function_over s (suc d) h
over_kept_more n s t o k d below h hh = go (cases_eq (s.height h) (suc d))
  where
    go : (s.height h ≡ suc d) ⊎ (s.height h ≡ suc d → ⊥) → function_over t (suc d) h ≡ function_over s (suc d) h
    go (inl p) =
        let hp : 0 < s.height h = omega arith in
        let two : 2 ≤ h = node_handle n s o h hp in
        let e0 : function_over t d (t.low h) ≡ function_over s d (s.low h) = ap (function_over t d) (k.low h hh two) ∙ below (s.low h) (o.low_held h hp) in
        let e1 : function_over t d (t.high h) ≡ function_over s d (s.high h) = ap (function_over t d) (k.high h hh two) ∙ below (s.high h) (o.high_held h hp) in
        over_node t d h (k.height h hh ∙ p) ∙ rw (e0, e1) (sym (over_node s d h p))
    go (inr p) =
        let q : t.height h ≡ suc d → ⊥ = λ e. p (sym (k.height h hh) ∙ e) in
        over_skip t d h q ∙ rw (below h hh) (sym (over_skip s d h p))

-- what is kept keeps its function
pub over_kept : (n : ℕ) (s t : Diagram) → Reduced n s → Keeps s t → (d h : ℕ) → Held s h → function_over t d h ≡ function_over s d h
unfolding function_over
over_kept n s t o k zero h hh = refl
over_kept n s t o k (suc d) h hh = over_kept_more n s t o k d (over_kept n s t o k d) h hh

-- a diagram with the same nodes is reduced as well
pub alike_reduced : (n : ℕ) (s t : Diagram) → Alike s t → Reduced n s → Reduced n t
alike_reduced n s t a o = record {
  constants = λ h l. a.height h ∙ o.constants h l;
  within = λ h. rw (a.height h) (o.within h);
  low_held = λ h p. let q = node h p in rw (a.low h q) (held (s.low h) (o.low_held h q));
  high_held = λ h p. let q = node h p in rw (a.high h q) (held (s.high h) (o.high_held h q));
  low_later = λ h p. let q = node h p in rw (a.low h q, a.height (s.low h), a.height h) (o.low_later h q);
  high_later = λ h p. let q = node h p in rw (a.high h q, a.height (s.high h), a.height h) (o.high_later h q);
  halves_differ = λ h p e. let q = node h p in o.halves_differ h q (sym (a.low h q) ∙ e ∙ a.high h q);
  no_double = λ h k p e x y.
      let q = node h p in
      let r : 0 < s.height k = subst (λ (z : ℕ). 0 < z) (sym (a.height h) ∙ e ∙ a.height k) q in
      o.no_double h k q (sym (a.height h) ∙ e ∙ a.height k) (sym (a.low h q) ∙ x ∙ a.low k r) (sym (a.high h q) ∙ y ∙ a.high k r);
}
  where
    node : (h : ℕ) → 0 < t.height h → 0 < s.height h
    node h p = rw (← a.height h) p

    held : (h : ℕ) → Held s h → Held t h
    held h hh l = rw (a.height h) (hh l)
