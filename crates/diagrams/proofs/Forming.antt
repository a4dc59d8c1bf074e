-- Forming a function: what is there already, and one step of a recursion over its halves.
use Rattle.std.proofs.Common.{◌≡◌, ℕ, suc, ◌<◌, ◌≤◌, true, false, ◌⊎◌, ◌++◌, sym, ap, ◌∙◌, subst, ap₂, inl, inr, ⊎_elim, arith}
use Rattle.std.proofs.lemmas.Bool.{cases_eq}
use Rattle.functions.specs.Tables.{Table}
use Rattle.diagrams.specs.Diagrams.{Diagram, function_over, Held, Reduced}
use Rattle.diagrams.specs.Forming.{Keeps, IsNode, Joined, NoRoom, Wanted, bit_of, Restricts, whole, low_side, high_side, OnlyParts, Formed, Lacks, Short}
use Rattle.diagrams.proofs.Canonical.{constant_held, same_length, over_node, over_skip, over_above, over_kept, halves_same, canonical, from, keeps_self, held_kept}
use Rattle.diagrams.proofs.Wanted.{Extends, SameWanted, Splits, constantly, constantly_extends, over_zero, over_one, bit_splits}

-- ---- from one height on
restricts_up : (f : Wanted) → Extends f → (d e : ℕ) (u : Table) → f.least ≤ d → Restricts d (f.over d) e u → Restricts (suc d) (f.over (suc d)) e u
restricts_up f x d e u l r = low_side (f.over d) (f.over d) (x.doubled d l) (x.sized d l) r

pub parts_from : (s t : Diagram) (f : Wanted) → Extends f → OnlyParts s t f.least (f.over f.least) → (d : ℕ) → f.least ≤ d → OnlyParts s t d (f.over d)
parts_from s t f x p d l = from (λ (y : ℕ). OnlyParts s t y (f.over y)) f.least p up d l
  where
    up : (y : ℕ) → f.least ≤ y → OnlyParts s t y (f.over y) → OnlyParts s t (suc y) (f.over (suc y))
    up y m w k q = ⊎_elim (λ (a : 0 < s.height k). inl a) (λ b. inr (restricts_up f x y (t.height k) (function_over t (t.height k) k) m b)) (w k q)

pub lacks_from : (t : Diagram) (f : Wanted) → Extends f → Lacks t f.least (f.over f.least) → (d : ℕ) → f.least ≤ d → Lacks t d (f.over d)
lacks_from t f x p d l = from (λ (y : ℕ). Lacks t y (f.over y)) f.least p up d l
  where
    up : (y : ℕ) → f.least ≤ y → Lacks t y (f.over y) → Lacks t (suc y) (f.over (suc y))
    up y m w = record { over = w.over; part = w.part; is_part = restricts_up f x y w.over w.part m w.is_part; not_held = w.not_held }

pub formed_from : (s t : Diagram) (f : Wanted) (r : ℕ) → Extends f → Held t r → t.height r ≤ f.least → function_over t f.least r ≡ f.over f.least → OnlyParts s t f.least (f.over f.least) → Formed s t f r
formed_from s t f r x hr lr e p = record {
  held = hr;
  low_enough = λ d l. omega arith;
  is = λ d l. from (λ (y : ℕ). function_over t y r ≡ f.over y) f.least e up d l;
  only_parts = parts_from s t f x p;
}
  where
    up : (y : ℕ) → f.least ≤ y → function_over t y r ≡ f.over y → function_over t (suc y) r ≡ f.over (suc y)
    up y m q = over_above t y r (omega arith) ∙ ap (λ (u : Table). u ++ u) q ∙ sym (x.doubled y m)

-- ---- what is held already is formed with nothing new
pub formed_held : (s : Diagram) (f : Wanted) (r : ℕ) → Extends f → Held s r → s.height r ≤ f.least → function_over s f.least r ≡ f.over f.least → Formed s s f r
formed_held s f r x hr lr e = formed_from s s f r x hr lr e (λ k p. inl p)

pub formed_known : (s : Diagram) (f : Wanted) (r : ℕ) → Held s r → ((d : ℕ) → f.least ≤ d → s.height r ≤ d) → ((d : ℕ) → f.least ≤ d → function_over s d r ≡ f.over d) → Formed s s f r
formed_known s f r hr lr e = record { held = hr; low_enough = lr; is = e; only_parts = λ d l k p. inl p }

-- what was formed is held, and is formed again with nothing new; in any later diagram, too
pub formed_again : (n : ℕ) (s t u : Diagram) (f : Wanted) (r : ℕ) → Reduced n t → Keeps t u → Formed s t f r → Formed u u f r
formed_again n s t u f r o k x = formed_known u f r
    (held_kept t u k r x.held)
    (λ d l. rw (k.height r x.held) (x.low_enough d l))
    (λ d l. over_kept n t u o k d r x.held ∙ x.is d l)

-- ---- the same function may be wanted instead
pub formed_same : (s t : Diagram) (f g : Wanted) (r : ℕ) → SameWanted f g → Formed s t f r → Formed s t g r
formed_same s t f g r e x = record {
  held = x.held;
  low_enough = λ d l. x.low_enough d (reach d l);
  is = λ d l. x.is d (reach d l) ∙ e.over d l;
  only_parts = λ d l. subst (OnlyParts s t d) (e.over d l) (x.only_parts d (reach d l));
}
  where
    reach : (d : ℕ) → g.least ≤ d → f.least ≤ d
    reach d l = rw e.least l

pub short_same : (s t : Diagram) (limit : ℕ) (f g : Wanted) → SameWanted f g → Short s t limit f → Short s t limit g
short_same s t limit f g e x = record {
  filled = x.filled;
  only_parts = λ d l. subst (OnlyParts s t d) (e.over d l) (x.only_parts d (reach d l));
  lacks = λ d l. subst (Lacks t d) (e.over d l) (x.lacks d (reach d l));
}
  where
    reach : (d : ℕ) → g.least ≤ d → f.least ≤ d
    reach d l = rw e.least l

restricts_at : {d : ℕ} {f : Table} (e e' : ℕ) (u u' : Table) → e ≡ e' → u ≡ u' → Restricts d f e u → Restricts d f e' u'
restricts_at {d} {f} e e' u u' p q x = subst (λ (y : Table). Restricts d f e' y) q (subst (λ (y : ℕ). Restricts d f y u) p x)

-- ---- a function over its two halves
-- a part of a half is a part of the whole
module _ (f f0 f1 : Wanted) (m : ℕ) (w : Splits f f0 f1 m) where
  joined : f.over f.least ≡ f0.over w.below ++ f1.over w.below
  joined = ap f.over w.least ∙ w.joined

  in_low : (e : ℕ) (u : Table) → Restricts w.below (f0.over w.below) e u → Restricts f.least (f.over f.least) e u
  in_low e u x = subst (λ (y : ℕ). Restricts y (f.over f.least) e u) (sym (w.least ∙ w.is)) (low_side (f0.over w.below) (f1.over w.below) joined w.low_sized x)

  in_high : (e : ℕ) (u : Table) → Restricts w.below (f1.over w.below) e u → Restricts f.least (f.over f.least) e u
  in_high e u x = subst (λ (y : ℕ). Restricts y (f.over f.least) e u) (sym (w.least ∙ w.is)) (high_side (f0.over w.below) (f1.over w.below) joined w.low_sized x)

  -- refused at the low half
  pub short_low : (s t : Diagram) (limit : ℕ) → Short s t limit f0 → Short s t limit f
  short_low s t limit x = record {
    filled = x.filled;
    only_parts = parts_from s t f w.extends (λ k p. ⊎_elim (λ (y : 0 < s.height k). inl y) (λ y. inr (in_low (t.height k) (function_over t (t.height k) k) y)) (x.only_parts w.below w.low_least k p));
    lacks = lacks_from t f w.extends (record { over = l.over; part = l.part; is_part = in_low l.over l.part l.is_part; not_held = l.not_held });
  }
    where
      l : Lacks t w.below (f0.over w.below)
      l = x.lacks w.below w.low_least

  -- with the low half formed
  module _ (n : ℕ) (s t0 t1 : Diagram) (o0 : Reduced n t0) (k1 : Keeps t0 t1) (low : ℕ) (x0 : Formed s t0 f0 low) where
    both_parts : OnlyParts t0 t1 w.below (f1.over w.below) → OnlyParts s t1 f.least (f.over f.least)
    both_parts x k p = ⊎_elim old (λ y. inr (in_high (t1.height k) (function_over t1 (t1.height k) k) y)) (x k p)
      where
        old : 0 < t0.height k → (0 < s.height k) ⊎ Restricts f.least (f.over f.least) (t1.height k) (function_over t1 (t1.height k) k)
        old q =
            let hk : Held t0 k = λ two. q in
            let e : t0.height k ≡ t1.height k = sym (k1.height k hk) in
            let u : function_over t0 (t0.height k) k ≡ function_over t1 (t1.height k) k = sym (over_kept n t0 t1 o0 k1 (t0.height k) k hk) ∙ ap (λ (z : ℕ). function_over t1 z k) e in
            ⊎_elim (λ (y : 0 < s.height k). inl y)
            (λ y. inr (restricts_at (t0.height k) (t1.height k) (function_over t0 (t0.height k) k) (function_over t1 (t1.height k) k) e u (in_low (t0.height k) (function_over t0 (t0.height k) k) y)))
            (x0.only_parts w.below w.low_least k q)

    -- refused at the high half
    pub short_high : (limit : ℕ) → Short t0 t1 limit f1 → Short s t1 limit f
    short_high limit x = record {
      filled = x.filled;
      only_parts = parts_from s t1 f w.extends (both_parts (x.only_parts w.below w.high_least));
      lacks = lacks_from t1 f w.extends (record { over = l.over; part = l.part; is_part = in_high l.over l.part l.is_part; not_held = l.not_held });
    }
      where
        l : Lacks t1 w.below (f1.over w.below)
        l = x.lacks w.below w.high_least

    -- with both halves formed
    module _ (o1 : Reduced n t1) (high : ℕ) (x1 : Formed t0 t1 f1 high) where
      -- both are held, below height m
      pub low_ready : Held t1 low × (t1.height low < m)
      low_ready =
          let l : t1.height low ≤ w.below = rw (k1.height low x0.held) (x0.low_enough w.below w.low_least) in
          (held_kept t0 t1 k1 low x0.held, omega (arith, w.is))

      pub high_ready : Held t1 high × (t1.height high < m)
      high_ready = (x1.held, omega (arith, x1.low_enough w.below w.high_least, w.is))

      low_reach : t1.height low ≤ w.below
      low_reach = omega (arith, low_ready.1, w.is)

      high_reach : t1.height high ≤ w.below
      high_reach = omega (arith, high_ready.1, w.is)

      halves_wanted : function_over t1 w.below low ++ function_over t1 w.below high ≡ f.over f.least
      halves_wanted =
          ap₂ (λ (a b : Table). a ++ b) (over_kept n t0 t1 o0 k1 w.below low x0.held ∙ x0.is w.below w.low_least) (x1.is w.below w.high_least)
          ∙ sym joined

      parts : OnlyParts s t1 f.least (f.over f.least)
      parts = both_parts (x1.only_parts w.below w.high_least)

      -- no handle has the function, if there is no node of these halves
      absent : (limit : ℕ) → NoRoom t1 limit m low high → (k : ℕ) → Held t1 k → t1.height k ≤ suc w.below → function_over t1 (suc w.below) k ≡ function_over t1 w.below low ++ function_over t1 w.below high → ⊥
      absent limit x k hk l e = ⊎_elim node skip (cases_eq (t1.height k) (suc w.below))
        where
          node : t1.height k ≡ suc w.below → ⊥
          node q =
              let p : 0 < t1.height k = omega arith in
              let a = halves_same (function_over t1 w.below (t1.low k)) (function_over t1 w.below (t1.high k)) (function_over t1 w.below low) (function_over t1 w.below high) (same_length t1 t1 w.below (t1.low k) low) (sym (over_node t1 w.below k q) ∙ e) in
              x.absent k (record {
                height = q ∙ sym w.is;
                is_low = canonical n t1 o1 w.below (t1.low k) low (o1.low_held k p) low_ready.0 (omega (arith, o1.low_later k p)) low_reach a.0;
                is_high = canonical n t1 o1 w.below (t1.high k) high (o1.high_held k p) x1.held (omega (arith, o1.high_later k p)) high_reach a.1;
              })

          skip : (t1.height k ≡ suc w.below → ⊥) → ⊥
          skip q =
              let a = halves_same (function_over t1 w.below k) (function_over t1 w.below k) (function_over t1 w.below low) (function_over t1 w.below high) (same_length t1 t1 w.below k low) (sym (over_skip t1 w.below k q) ∙ e) in
              x.differ (canonical n t1 o1 w.below low high low_ready.0 x1.held low_reach high_reach (sym a.0 ∙ a.1))

      -- refused at the node of the two halves
      pub short_node : (limit : ℕ) → NoRoom t1 limit m low high → Short s t1 limit f
      short_node limit x = record {
        filled = x.filled;
        only_parts = parts_from s t1 f w.extends parts;
        lacks = lacks_from t1 f w.extends (record {
          over = suc w.below;
          part = function_over t1 w.below low ++ function_over t1 w.below high;
          is_part = restricts_at f.least (suc w.below) (f.over f.least) (function_over t1 w.below low ++ function_over t1 w.below high) (w.least ∙ w.is) (sym halves_wanted) whole;
          not_held = absent limit x;
        });
      }

      -- joined
      module _ (t2 : Diagram) (k2 : Keeps t1 t2) (r : ℕ) (j : Joined t1 t2 m low high r) where
        r_held : Held t2 r
        r_held = ⊎_elim
            (λ (y : (low ≡ high) × (r ≡ low)). subst (Held t2) (sym y.1) (held_kept t1 t2 k2 low low_ready.0))
            (λ y two. let h : t2.height r ≡ m = y.height in omega (arith, w.is))
            j.kind

        r_reach : t2.height r ≤ f.least
        r_reach = ⊎_elim
            (λ (y : (low ≡ high) × (r ≡ low)). let e : t2.height r ≡ t1.height low = ap t2.height y.1 ∙ k2.height low low_ready.0 in omega (arith, low_ready.1, w.least))
            (λ y. let h : t2.height r ≡ m = y.height in omega (arith, w.least))
            j.kind

        low_over : function_over t2 w.below low ≡ function_over t1 w.below low
        low_over = over_kept n t1 t2 o1 k2 w.below low low_ready.0

        high_over : function_over t2 w.below high ≡ function_over t1 w.below high
        high_over = over_kept n t1 t2 o1 k2 w.below high x1.held

        r_over : function_over t2 (suc w.below) r ≡ function_over t1 w.below low ++ function_over t1 w.below high
        r_over = ⊎_elim
            (λ (y : (low ≡ high) × (r ≡ low)).
            let l : t2.height low ≤ w.below = rw (k2.height low low_ready.0) low_reach in
            ap (function_over t2 (suc w.below)) y.1 ∙ over_above t2 w.below low l ∙ ap₂ (λ (a b : Table). a ++ b) low_over (low_over ∙ ap (function_over t1 w.below) y.0))
            (λ y.
            over_node t2 w.below r (y.height ∙ w.is)
            ∙ ap₂ (λ (a b : ℕ). function_over t2 w.below a ++ function_over t2 w.below b) y.is_low y.is_high
            ∙ ap₂ (λ (a b : Table). a ++ b) low_over high_over)
            j.kind

        r_wanted : function_over t2 f.least r ≡ f.over f.least
        r_wanted = ap (λ (y : ℕ). function_over t2 y r) (w.least ∙ w.is) ∙ r_over ∙ halves_wanted

        abbrev Told : ℕ → Type 0
        Told k = (0 < s.height k) ⊎ Restricts f.least (f.over f.least) (t2.height k) (function_over t2 (t2.height k) k)

        old_part : (k : ℕ) → 0 < t1.height k → Told k
        old_part k q =
            let hk : Held t1 k = λ two. q in
            let e : t1.height k ≡ t2.height k = sym (k2.height k hk) in
            let u : function_over t1 (t1.height k) k ≡ function_over t2 (t2.height k) k = sym (over_kept n t1 t2 o1 k2 (t1.height k) k hk) ∙ ap (λ (z : ℕ). function_over t2 z k) e in
            ⊎_elim (λ (y : 0 < s.height k). inl y) (λ y. inr (restricts_at (t1.height k) (t2.height k) (function_over t1 (t1.height k) k) (function_over t2 (t2.height k) k) e u y)) (parts k q)

        new_part : (k : ℕ) → 0 < t2.height k → k ≡ r → Told k
        new_part k p e = ⊎_elim equal node j.kind
          where
            equal : (low ≡ high) × (r ≡ low) → Told k
            equal y =
                let q : t2.height k ≡ t1.height k = k2.height k (subst (Held t1) (sym (e ∙ y.1)) low_ready.0) in
                old_part k (omega arith)

            node : IsNode t2 r m low high → Told k
            node y =
                let q : t2.height k ≡ f.least = ap t2.height e ∙ y.height ∙ sym w.least in
                let u : f.over f.least ≡ function_over t2 (t2.height k) k = sym r_wanted ∙ ap (function_over t2 f.least) (sym e) ∙ ap (λ (z : ℕ). function_over t2 z k) (sym q) in
                inr (restricts_at f.least (t2.height k) (f.over f.least) (function_over t2 (t2.height k) k) (sym q) u whole)

        pub formed_node : Formed s t2 f r
        formed_node = formed_from s t2 f r w.extends r_held r_reach r_wanted (λ k p. ⊎_elim (λ (y : 0 < t1.height k). old_part k y) (λ y. new_part k p y) (j.new k p))

-- ---- the bit of a qubit: the constants joined
module _ (n : ℕ) (s : Diagram) (o : Reduced n s) where
  pub formed_zero : Formed s s (constantly false) 0
  formed_zero = formed_held s (constantly false) 0 (constantly_extends false) (constant_held s 0 (omega arith)) (omega (arith, o.constants 0 (omega arith))) (over_zero n s o 0)

  pub formed_one : Formed s s (constantly true) 1
  formed_one = formed_held s (constantly true) 1 (constantly_extends true) (constant_held s 1 (omega arith)) (omega (arith, o.constants 1 (omega arith))) (over_one n s o 0)

  pub formed_literal : (t : Diagram) (m r : ℕ) → 0 < m → Keeps s t → Joined s t m 0 1 r → Formed s t (bit_of m) r
  formed_literal t m r some k j =
      formed_node (bit_of m) (constantly false) (constantly true) m (bit_splits m some) n s s s o (keeps_self s) 0 formed_zero o 1 formed_one t k r j

  pub short_literal : (limit m : ℕ) → 0 < m → NoRoom s limit m 0 1 → Short s s limit (bit_of m)
  short_literal limit m some x =
      short_node (bit_of m) (constantly false) (constantly true) m (bit_splits m some) n s s s o (keeps_self s) 0 formed_zero o 1 formed_one limit x
