-- Functions of the last qubits as functions of all, and what comes from a function by fixing first qubits.
use Rattle.std.proofs.Common.{◌≡◌, ℕ, zero, suc, ◌+◌, ◌-◌, ◌^◌, ◌<◌, ◌≤◌, Bool, true, false, [], ◌∷◌, ◌++◌, length, take, drop, sym, refl, ap, ◌∙◌, subst, inl, inr, ⊎_elim, arith, length-append, length-drop, take-append-drop, length-take}
use Rattle.std.proofs.lemmas.Bool.{cases_eq}
use Rattle.exact.specs.Indices.{Index, listing}
use Rattle.exact.proofs.Indices.{double}
use Rattle.exact.proofs.Listings.{length_listing, listing_same, at_listing, listing_own}
use Rattle.functions.specs.Tables.{Table, value_at}
use Rattle.functions.proofs.Halves.{value_low, value_high}
use Rattle.diagrams.specs.Diagrams.{Diagram, function_over, Held, Reduced}
use Rattle.diagrams.specs.Parts.{with_first}
use Rattle.diagrams.specs.Forming.{Restricts, whole, low_side, high_side}
use Rattle.diagrams.proofs.Canonical.{length_over, over_node, over_skip, over_above, halves_same, canonical, from}
use Rattle.diagrams.proofs.Prefixes.{FromPrefix}

-- u, a function of the last e qubits, as one of the last n
unfoldable pub lifted : ℕ → ℕ → Table → Table
lifted n e u = listing n (λ x. value_at u (drop (n - e) x))

pub lifted_itself : (e : ℕ) (u : Table) → length u ≡ 2 ^ e → lifted e e u ≡ u
unfolding lifted
lifted_itself e u l = let z : e - e ≡ 0 = omega arith in ap (λ (k : ℕ). listing e (λ x. value_at u (drop k x))) z ∙ listing_own false e u l

pub lifted_doubled : (d e : ℕ) (u : Table) → e ≤ d → lifted (suc d) e u ≡ lifted d e u ++ lifted d e u
unfolding lifted listing
lifted_doubled d e u l = let z : suc d - e ≡ suc (d - e) = omega arith in ap (λ (k : ℕ). listing (suc d) (λ x. value_at u (drop k x))) z

pub length_lifted : (n e : ℕ) (u : Table) → length (lifted n e u) ≡ 2 ^ n
unfolding lifted
length_lifted n e u = length_listing n (λ x. value_at u (drop (n - e) x))

-- from its own height on, a handle's function is lifted
pub over_lifted : (s : Diagram) (h e n : ℕ) → s.height h ≤ e → e ≤ n → function_over s n h ≡ lifted n e (function_over s e h)
over_lifted s h e n l k = from (λ (d : ℕ). function_over s d h ≡ lifted d e (function_over s e h)) e (sym (lifted_itself e (function_over s e h) (length_over s e h))) up n k
  where
    up : (d : ℕ) → e ≤ d → function_over s d h ≡ lifted d e (function_over s e h) → function_over s (suc d) h ≡ lifted (suc d) e (function_over s e h)
    up d m q = over_above s d h (omega arith) ∙ ap (λ (t : Table). t ++ t) q ∙ sym (lifted_doubled d e (function_over s e h) m)

-- and where it is lifted from the last e qubits, the handle looks at no others
module _ (n : ℕ) (s : Diagram) (o : Reduced n s) (h : ℕ) (hh : Held s h) where
  lower_one : (d : ℕ) (t : Table) → length t ≡ 2 ^ d → s.height h ≤ suc d → function_over s (suc d) h ≡ t ++ t → (s.height h ≤ d) × (function_over s d h ≡ t)
  lower_one d t lt l q = ⊎_elim (λ (e : s.height h ≡ suc d). absurd (node e)) skip (cases_eq (s.height h) (suc d))
    where
      node : s.height h ≡ suc d → ⊥
      node e =
          let p : 0 < s.height h = omega arith in
          let v = halves_same (function_over s d (s.low h)) (function_over s d (s.high h)) t t (length_over s d (s.low h) ∙ sym lt) (sym (over_node s d h e) ∙ q) in
          o.halves_differ h p (canonical n s o d (s.low h) (s.high h) (o.low_held h p) (o.high_held h p) (omega (arith, o.low_later h p)) (omega (arith, o.high_later h p)) (v.0 ∙ sym v.1))

      skip : (s.height h ≡ suc d → ⊥) → (s.height h ≤ d) × (function_over s d h ≡ t)
      skip e =
          let v = halves_same (function_over s d h) (function_over s d h) t t (length_over s d h ∙ sym lt) (sym (over_skip s d h e) ∙ q) in
          (omega arith, v.0)

  lower_by : (e : ℕ) (u : Table) → length u ≡ 2 ^ e → (j d : ℕ) → d ≡ j + e → s.height h ≤ d → function_over s d h ≡ lifted d e u → (s.height h ≤ e) × (function_over s e h ≡ u)
  lower_by e u lu zero d is l q =
      let z : d ≡ e = omega arith in
      let v = subst (λ (x : ℕ). (s.height h ≤ x) × (function_over s x h ≡ lifted x e u)) z (l, q) in
      (v.0, v.1 ∙ lifted_itself e u lu)
  lower_by e u lu (suc j) d is l q =
      let z : d ≡ suc (j + e) = omega arith in
      let up : e ≤ j + e = omega arith in
      let v = lower_one (j + e) (lifted (j + e) e u) (length_lifted (j + e) e u) (omega arith) (subst (λ (x : ℕ). function_over s x h ≡ lifted x e u) z q ∙ lifted_doubled (j + e) e u up) in
      lower_by e u lu j (j + e) refl v.0 v.1

  pub over_lowered : (e d : ℕ) (u : Table) → length u ≡ 2 ^ e → e ≤ d → s.height h ≤ d → function_over s d h ≡ lifted d e u → (s.height h ≤ e) × (function_over s e h ≡ u)
  over_lowered e d u lu k l q = lower_by e u lu (d - e) d (omega arith) l q

-- ---- fixing first qubits one at a time, and all at once
pub record PrefixOf (d : ℕ) (f : Table) (e : ℕ) (u : Table) : Type 0 where
  pub prefix : Index
  pub long : length prefix + e ≡ d
  pub sized : length u ≡ 2 ^ e
  pub values : (x : Index) → length x ≡ e → value_at f (prefix ++ x) ≡ value_at u x

pub restricts_prefix : {d : ℕ} {f : Table} {e : ℕ} {u : Table} → Restricts d f e u → length f ≡ 2 ^ d → PrefixOf d f e u
restricts_prefix {d} whole l = record { prefix = []; long = omega arith; sized = l; values = λ x lx. refl }
restricts_prefix (low_side {d} {e} {f} {u} a b q la r) l =
    let v = restricts_prefix r la in
    record {
      prefix = false ∷ v.prefix;
      long = omega (arith, v.long);
      sized = v.sized;
      values = λ x lx. ap (λ (t : Table). value_at t (false ∷ (v.prefix ++ x))) q ∙ value_low d a b (v.prefix ++ x) la (length-append v.prefix x ∙ (let z = v.long in omega arith)) ∙ v.values x lx;
    }
restricts_prefix (high_side {d} {e} {f} {u} a b q la r) l =
    let two = double d in
    let lb : length b ≡ 2 ^ d = (let z = sym (length-append a b) ∙ ap length (sym q) ∙ l in omega arith) in
    let v = restricts_prefix r lb in
    record {
      prefix = true ∷ v.prefix;
      long = omega (arith, v.long);
      sized = v.sized;
      values = λ x lx. ap (λ (t : Table). value_at t (true ∷ (v.prefix ++ x))) q ∙ value_high d a b (v.prefix ++ x) la (length-append v.prefix x ∙ (let z = v.long in omega arith)) ∙ v.values x lx;
    }

-- with the first qubits set, f is u lifted
pub lifted_prefix : (n : ℕ) (f : Table) (e : ℕ) (u : Table) → (v : PrefixOf n f e u) → lifted n e u ≡ with_first n f v.prefix
unfolding lifted with_first
lifted_prefix n f e u v = ap (λ (k : ℕ). listing n (λ x. value_at u (drop k x))) is ∙ sym (listing_same n _ _ (λ x lx. v.values (drop (length v.prefix) x) (length-drop (length v.prefix) x ∙ (let z = v.long in omega arith))))
  where
    is : n - e ≡ length v.prefix
    is = omega (arith, v.long)

with_none : (n : ℕ) (f : Table) → length f ≡ 2 ^ n → with_first n f [] ≡ f
unfolding with_first
with_none n f l = listing_own false n f l

pub restricts_from : (n : ℕ) (f : Table) (e : ℕ) (u : Table) → Restricts n f e u → length f ≡ 2 ^ n → FromPrefix n n f (lifted n e u)
restricts_from n f e u r l = go (restricts_prefix r l) (restricts_prefix r l).prefix refl
  where
    go : (v : PrefixOf n f e u) (p : Index) → p ≡ v.prefix → FromPrefix n n f (lifted n e u)
    go v [] q = inl (lifted_prefix n f e u v ∙ ap (with_first n f) (sym q) ∙ with_none n f l)
    go v (b ∷ p) q = inr (b ∷ p, (let z : 0 < suc (length p) = omega arith in z), (let a = v.long in let c = ap length q in omega arith), lifted_prefix n f e u v ∙ ap (with_first n f) (sym q))

-- the function that is left of f where the first qubits are set to p
abbrev left_of : ℕ → Table → Index → Table
left_of e f p = listing e (λ x. value_at f (p ++ x))

prefix_restricts : (p : Index) (d e : ℕ) (f : Table) → length p + e ≡ d → length f ≡ 2 ^ d → Restricts d f e (left_of e f p)
prefix_restricts [] d e f is l =
    let z : d ≡ e = omega arith in
    subst (λ (x : ℕ). Restricts d f x (left_of x f [])) z (subst (Restricts d f d) (sym (listing_own false d f l)) whole)
prefix_restricts (b ∷ p) zero e f is l = absurd (let z : ⊥ = omega arith in z)
prefix_restricts (b ∷ p) (suc d) e f is l = go b (prefix_restricts p d e)
  where
    two : 2 ^ d + 2 ^ d ≡ 2 ^ suc d
    two = double d

    la : length (take (2 ^ d) f) ≡ 2 ^ d
    la = length-take (2 ^ d) f ∙ (let z = two in omega arith)

    lc : length (drop (2 ^ d) f) ≡ 2 ^ d
    lc = length-drop (2 ^ d) f ∙ (let z = two in omega arith)

    split : f ≡ take (2 ^ d) f ++ drop (2 ^ d) f
    split = sym (take-append-drop (2 ^ d) f)

    long : length p + e ≡ d
    long = omega arith

    there : (x : Index) → length x ≡ e → length (p ++ x) ≡ d
    there x lx = length-append p x ∙ (let z = long in omega arith)

    go : (b : Bool) → ((t : Table) → length p + e ≡ d → length t ≡ 2 ^ d → Restricts d t e (left_of e t p)) → Restricts (suc d) f e (left_of e f (b ∷ p))
    go false rest = low_side (take (2 ^ d) f) (drop (2 ^ d) f) split la
        (subst (Restricts d (take (2 ^ d) f) e)
        (listing_same e _ _ (λ x lx. sym (ap (λ (t : Table). value_at t (false ∷ (p ++ x))) split ∙ value_low d (take (2 ^ d) f) (drop (2 ^ d) f) (p ++ x) la (there x lx))))
        (rest (take (2 ^ d) f) long la))
    go true rest = high_side (take (2 ^ d) f) (drop (2 ^ d) f) split la
        (subst (Restricts d (drop (2 ^ d) f) e)
        (listing_same e _ _ (λ x lx. sym (ap (λ (t : Table). value_at t (true ∷ (p ++ x))) split ∙ value_high d (take (2 ^ d) f) (drop (2 ^ d) f) (p ++ x) la (there x lx))))
        (rest (drop (2 ^ d) f) long lc))

-- what comes from f by fixing qubits, as a function of n qubits
pub record Lifts (n : ℕ) (f g : Table) : Type 0 where
  pub over : ℕ
  pub part : Table
  pub restricts : Restricts n f over part
  pub is : g ≡ lifted n over part

pub from_lifts : (n : ℕ) (f g : Table) → length f ≡ 2 ^ n → FromPrefix n n f g → Lifts n f g
from_lifts n f g l (inl q) = record { over = n; part = f; restricts = whole; is = q ∙ sym (lifted_itself n f l) }
from_lifts n f g l (inr r) = record {
  over = n - length r.0;
  part = left_of (n - length r.0) f r.0;
  restricts = prefix_restricts r.0 n (n - length r.0) f (omega (arith, r.2)) l;
  is = r.3 ∙ sym (lifted_prefix n f (n - length r.0) (left_of (n - length r.0) f r.0) (record {
    prefix = r.0;
    long = omega (arith, r.2);
    sized = length_listing (n - length r.0) (λ x. value_at f (r.0 ++ x));
    values = λ x lx. sym (at_listing false (n - length r.0) (λ y. value_at f (r.0 ++ y)) x lx);
  }));
}
