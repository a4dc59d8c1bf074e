-- The entries of a diagram's meaning: its nodes, each with its function.
use Rattle.std.proofs.Common.{◌≡◌, ℕ, zero, suc, ◌+◌, ◌<◌, ◌≤◌, Bool, true, false, cond, eqb, List, [], ◌∷◌, length, Some, None, sym, refl, ap, ◌∙◌, subst, ⊎_elim, arith}
use Rattle.std.proofs.lemmas.Bool.{false≢true, cases_eq, cases_Bool, eq-eqb, ne_eqb, eqb-true, eqb-false, cond-true, cond-false, or_left, or_right, or_cases}
use Rattle.exact.proofs.Indices.{same_self, same_equal}
use Rattle.functions.specs.Tables.{Table}
use Rattle.functions.specs.Sets.{same, among, space}
use Rattle.functions.specs.Meanings.{entry, functions_of}
use Rattle.functions.proofs.Sets.{space_long, space_more}
use Rattle.diagrams.specs.Diagrams.{Diagram, function_over, Reduced}
use Rattle.diagrams.specs.Forming.{Alike}
use Rattle.diagrams.specs.Meanings.{nodes_from}
use Rattle.diagrams.proofs.Canonical.{over_kept, canonical, alike_keeps}
use Rattle.diagrams.proofs.Reaching.{node_varies}

-- the entry of a node, and none elsewhere
pub entry_node : (n : ℕ) (s : Diagram) (j : ℕ) → 0 < s.height j → (h k : ℕ) → h ≤ j → j < h + k → entry (nodes_from n s h k) j ≡ Some (function_over s n j)
unfolding nodes_from entry
entry_node n s j p h zero l m = absurd (let b : ⊥ = omega arith in b)
entry_node n s j p h (suc k) l m = go (eqb (s.height h) 0) refl (λ x. entry_node n s j p (h + 1) k x (omega arith))
  where
    go : (b : Bool) → eqb (s.height h) 0 ≡ b → (h + 1 ≤ j → entry (nodes_from n s (h + 1) k) j ≡ Some (function_over s n j)) → entry (cond b (nodes_from n s (h + 1) k) ((h, function_over s n h) ∷ nodes_from n s (h + 1) k)) j ≡ Some (function_over s n j)
    go true e rest =
        let z = eqb-true (s.height h) 0 e in
        let a : h ≡ j → ⊥ = λ q. (let y : s.height h ≡ s.height j = ap s.height q in omega arith) in
        rest (omega arith)
    go false e rest = ⊎_elim
        (λ (q : j ≡ h). cond-true (eqb j h) (Some (function_over s n h)) (entry (nodes_from n s (h + 1) k) j) (eq-eqb j h q) ∙ ap (λ (x : ℕ). Some (function_over s n x)) (sym q))
        (λ q. cond-false (eqb j h) (Some (function_over s n h)) (entry (nodes_from n s (h + 1) k) j) (ne_eqb j h q) ∙ rest (omega arith))
        (cases_eq j h)

pub entry_none : (n : ℕ) (s : Diagram) (j h k : ℕ) → (h ≤ j → j < h + k → 0 < s.height j → ⊥) → entry (nodes_from n s h k) j ≡ None
unfolding nodes_from entry
entry_none n s j h zero out = refl
entry_none n s j h (suc k) out = go (eqb (s.height h) 0) refl (entry_none n s j (h + 1) k (λ x y p. out (omega arith) (omega arith) p))
  where
    go : (b : Bool) → eqb (s.height h) 0 ≡ b → entry (nodes_from n s (h + 1) k) j ≡ None → entry (cond b (nodes_from n s (h + 1) k) ((h, function_over s n h) ∷ nodes_from n s (h + 1) k)) j ≡ None
    go true e rest = rest
    go false e rest =
        let z = eqb-false (s.height h) 0 e in
        let a : j ≡ h → ⊥ = λ q. (let y : s.height j ≡ s.height h = ap s.height q in out (omega arith) (omega arith) (omega arith)) in
        cond-false (eqb j h) (Some (function_over s n h)) (entry (nodes_from n s (h + 1) k) j) (ne_eqb j h a) ∙ rest

-- the functions of the entries are those of the nodes
pub node_among : (n : ℕ) (s : Diagram) (j : ℕ) → 0 < s.height j → (h k : ℕ) → h ≤ j → j < h + k → among (function_over s n j) (functions_of (nodes_from n s h k)) ≡ true
unfolding nodes_from functions_of among
node_among n s j p h zero l m = absurd (let b : ⊥ = omega arith in b)
node_among n s j p h (suc k) l m = go (eqb (s.height h) 0) refl (λ x. node_among n s j p (h + 1) k x (omega arith))
  where
    go : (b : Bool) → eqb (s.height h) 0 ≡ b → (h + 1 ≤ j → among (function_over s n j) (functions_of (nodes_from n s (h + 1) k)) ≡ true) → among (function_over s n j) (functions_of (cond b (nodes_from n s (h + 1) k) ((h, function_over s n h) ∷ nodes_from n s (h + 1) k))) ≡ true
    go true e rest =
        let z = eqb-true (s.height h) 0 e in
        let a : h ≡ j → ⊥ = λ q. (let y : s.height h ≡ s.height j = ap s.height q in omega arith) in
        rest (omega arith)
    go false e rest = ⊎_elim
        (λ (q : j ≡ h). or_left (same (function_over s n j) (function_over s n h)) (among (function_over s n j) (functions_of (nodes_from n s (h + 1) k))) (subst (λ (x : ℕ). same (function_over s n j) (function_over s n x) ≡ true) q (same_self (function_over s n j))))
        (λ q. or_right (same (function_over s n j) (function_over s n h)) (among (function_over s n j) (functions_of (nodes_from n s (h + 1) k))) (rest (omega arith)))
        (cases_eq j h)

-- a node with the function g, among k handles from h on
pub record NodeOf (n : ℕ) (s : Diagram) (h k : ℕ) (g : Table) : Type 0 where
  pub handle : ℕ
  pub from_h : h ≤ handle
  pub before : handle < h + k
  pub node : 0 < s.height handle
  pub is : g ≡ function_over s n handle

pub among_node : (n : ℕ) (s : Diagram) (g : Table) (h k : ℕ) → among g (functions_of (nodes_from n s h k)) ≡ true → NodeOf n s h k g
unfolding nodes_from functions_of among
among_node n s g h zero e = absurd (false≢true e)
among_node n s g h (suc k) e = go (eqb (s.height h) 0) refl e (λ x. later (among_node n s g (h + 1) k x))
  where
    later : NodeOf n s (h + 1) k g → NodeOf n s h (suc k) g
    later v = record { handle = v.handle; from_h = omega (arith, v.from_h); before = omega (arith, v.before); node = v.node; is = v.is }

    go : (b : Bool) → eqb (s.height h) 0 ≡ b → among g (functions_of (cond b (nodes_from n s (h + 1) k) ((h, function_over s n h) ∷ nodes_from n s (h + 1) k))) ≡ true → (among g (functions_of (nodes_from n s (h + 1) k)) ≡ true → NodeOf n s h (suc k) g) → NodeOf n s h (suc k) g
    go true q x rest = rest x
    go false q x rest = ⊎_elim
        (λ (y : same g (function_over s n h) ≡ true). record { handle = h; from_h = omega arith; before = omega arith; node = (let z = eqb-false (s.height h) 0 q in omega arith); is = same_equal g (function_over s n h) y })
        (λ y. rest y)
        (or_cases (same g (function_over s n h)) (among g (functions_of (nodes_from n s (h + 1) k))) x)

-- the space that they take: at most one each, and exactly that where each handle is a node
nodes_long : (n : ℕ) (s : Diagram) (h k : ℕ) → length (functions_of (nodes_from n s h k)) ≤ k
unfolding nodes_from functions_of
nodes_long n s h zero = omega arith
nodes_long n s h (suc k) = go (eqb (s.height h) 0) (nodes_long n s (h + 1) k)
  where
    go : (b : Bool) → length (functions_of (nodes_from n s (h + 1) k)) ≤ k → length (functions_of (cond b (nodes_from n s (h + 1) k) ((h, function_over s n h) ∷ nodes_from n s (h + 1) k))) ≤ suc k
    go true l = omega arith
    go false l = omega arith

pub nodes_space : (n : ℕ) (s : Diagram) (h k : ℕ) → space n (functions_of (nodes_from n s h k)) ≤ k
nodes_space n s h k =
    let a = space_long n (functions_of (nodes_from n s h k)) in
    let b = nodes_long n s h k in
    omega arith

no_other : (n : ℕ) (s : Diagram) → Reduced n s → (h k : ℕ) → 0 < s.height h → among (function_over s n h) (functions_of (nodes_from n s (h + 1) k)) ≡ false
no_other n s o h k p = ⊎_elim
    (λ (e : among (function_over s n h) (functions_of (nodes_from n s (h + 1) k)) ≡ true).
    let v = among_node n s (function_over s n h) (h + 1) k e in
    let z = canonical n s o n h v.handle (λ two. p) (λ two. v.node) (o.within h) (o.within v.handle) v.is in
    absurd (let l = v.from_h in let b : ⊥ = omega arith in b))
    (λ e. e)
    (cases_Bool (among (function_over s n h) (functions_of (nodes_from n s (h + 1) k))))

pub filled_space : (n : ℕ) (s : Diagram) → Reduced n s → (h k : ℕ) → ((j : ℕ) → h ≤ j → j < h + k → 0 < s.height j) → space n (functions_of (nodes_from n s h k)) ≡ k
unfolding nodes_from functions_of
filled_space n s o h zero all = none n
  where
    none : (n : ℕ) → space n [] ≡ 0
    none n = let a = space_long n [] in omega arith
filled_space n s o h (suc k) all =
    let p : 0 < s.height h = all h (omega arith) (omega arith) in
    ap (λ (l : List (ℕ × Table)). space n (functions_of l)) (cond-false (eqb (s.height h) 0) (nodes_from n s (h + 1) k) ((h, function_over s n h) ∷ nodes_from n s (h + 1) k) (ne_eqb (s.height h) 0 (λ e. omega arith)))
    ∙ space_more n (function_over s n h) (functions_of (nodes_from n s (h + 1) k)) (node_varies n s o h p) (no_other n s o h k p)
    ∙ (let r : space n (functions_of (nodes_from n s (h + 1) k)) ≡ k = filled_space n s o (h + 1) k (λ j x y. all j (omega arith) (omega arith)) in omega arith)

-- the same nodes give the same entries
pub alike_entries : (n : ℕ) (s t : Diagram) → Reduced n s → Alike s t → (h k : ℕ) → nodes_from n t h k ≡ nodes_from n s h k
unfolding nodes_from
alike_entries n s t o a h zero = refl
alike_entries n s t o a h (suc k) =
    ap (λ (x : ℕ). cond (eqb x 0) (nodes_from n t (h + 1) k) ((h, function_over t n h) ∷ nodes_from n t (h + 1) k)) (a.height h)
    ∙ ap (λ (l : List (ℕ × Table)). cond (eqb (s.height h) 0) l ((h, function_over t n h) ∷ l)) (alike_entries n s t o a (h + 1) k)
    ∙ go (eqb (s.height h) 0) refl
  where
    go : (b : Bool) → eqb (s.height h) 0 ≡ b → cond b (nodes_from n s (h + 1) k) ((h, function_over t n h) ∷ nodes_from n s (h + 1) k) ≡ cond b (nodes_from n s (h + 1) k) ((h, function_over s n h) ∷ nodes_from n s (h + 1) k)
    go true e = refl
    go false e =
        let z = eqb-false (s.height h) 0 e in
        ap (λ (f : Table). (h, f) ∷ nodes_from n s (h + 1) k) (over_kept n s t o (alike_keeps s t a) n h (λ two. omega arith))
