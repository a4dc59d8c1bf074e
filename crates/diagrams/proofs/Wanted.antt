-- Functions that are wanted: how they go on from one height to the next, and how they split into halves.
use Rattle.std.proofs.Common.{◌≡◌, ℕ, zero, suc, ◌-◌, ◌^◌, ◌<◌, ◌≤◌, max, Bool, true, false, cond, ◌++◌, length, sym, refl, ap, ◌∙◌, subst, ap₂, ⊎_elim, arith}
use Rattle.std.proofs.lemmas.Bool.{cases_lt, lt-ltb, le-ltb}
use Rattle.exact.specs.Indices.{listing}
use Rattle.functions.specs.Tables.{Table, constant, literal, fixed, combined}
use Rattle.functions.proofs.Values.{length_constant, length_literal, length_fixed, length_combined}
use Rattle.functions.proofs.Halves.{constant_halves, literal_first, literal_later, combined_halves, fixed_first, fixed_later}
use Rattle.diagrams.specs.Diagrams.{Diagram, low_half, high_half, function_over, Held, Reduced}
use Rattle.diagrams.specs.Forming.{Keeps, Wanted, combination, fixing, bit_of}
use Rattle.diagrams.proofs.Canonical.{length_over, over_halves, over_node, over_above, over_kept, low_half_held, high_half_held}

-- From its least height on, a function is doubled by each qubit more.
pub record Extends (f : Wanted) : Type 0 where
  pub sized : (d : ℕ) → f.least ≤ d → length (f.over d) ≡ 2 ^ d
  pub doubled : (d : ℕ) → f.least ≤ d → f.over (suc d) ≡ f.over d ++ f.over d

-- The same function, looking at the same qubits.
pub record SameWanted (f g : Wanted) : Type 0 where
  pub least : f.least ≡ g.least
  pub over : (d : ℕ) → g.least ≤ d → f.over d ≡ g.over d

-- f, whose first qubit is the one of height m, is f0 where that qubit is 0 and f1 where it is 1.
pub record Splits (f f0 f1 : Wanted) (m : ℕ) : Type 0 where
  pub extends : Extends f
  pub least : f.least ≡ m
  pub below : ℕ
  pub is : m ≡ suc below
  pub low_least : f0.least ≤ below
  pub high_least : f1.least ≤ below
  pub low_sized : length (f0.over below) ≡ 2 ^ below
  pub joined : f.over m ≡ f0.over below ++ f1.over below

pub same_back : (f g : Wanted) → SameWanted f g → SameWanted g f
same_back f g e = record { least = sym e.least; over = λ d l. sym (e.over d (subst (λ (x : ℕ). x ≤ d) e.least l)) }

-- the halves are over fewer qubits
pub low_falls : (f f0 f1 : Wanted) (m : ℕ) → Splits f f0 f1 m → f0.least < m
low_falls f f0 f1 m w = omega (arith, w.low_least, w.is)

pub high_falls : (f f0 f1 : Wanted) (m : ℕ) → Splits f f0 f1 m → f1.least < m
high_falls f f0 f1 m w = omega (arith, w.high_least, w.is)

-- ---- a constant, and the function of a handle
abbrev pub constantly : Bool → Wanted
constantly b = record { least = 0; over = λ d. constant d b }

pub constantly_extends : (b : Bool) → Extends (constantly b)
constantly_extends b = record { sized = λ d l. length_constant d b; doubled = λ d l. constant_halves d b }

abbrev pub function_of : Diagram → ℕ → Wanted
function_of s h = record { least = s.height h; over = λ d. function_over s d h }

-- handles 0 and 1 are the constants
pub over_zero : (n : ℕ) (s : Diagram) → Reduced n s → (d : ℕ) → function_over s d 0 ≡ constant d false
unfolding function_over constant listing
over_zero n s o zero = refl
over_zero n s o (suc d) = over_above s d 0 (omega (arith, o.constants 0 (omega arith))) ∙ ap (λ (f : Table). f ++ f) (over_zero n s o d)

pub over_one : (n : ℕ) (s : Diagram) → Reduced n s → (d : ℕ) → function_over s d 1 ≡ constant d true
unfolding function_over constant listing
over_one n s o zero = refl
over_one n s o (suc d) = over_above s d 1 (omega (arith, o.constants 1 (omega arith))) ∙ ap (λ (f : Table). f ++ f) (over_one n s o d)

-- ---- combinations
pub combination_over : (s : Diagram) (rule f g h d : ℕ) → (combination s rule f g h).over (suc d) ≡ (combination s rule (low_half s d f) (low_half s d g) (low_half s d h)).over d ++ (combination s rule (high_half s d f) (high_half s d g) (high_half s d h)).over d
combination_over s rule f g h d =
    rw (over_halves s d f, over_halves s d g, over_halves s d h)
    (combined_halves d rule (function_over s d (low_half s d f)) (function_over s d (low_half s d g)) (function_over s d (low_half s d h)) (function_over s d (high_half s d f)) (function_over s d (high_half s d g)) (function_over s d (high_half s d h)) (length_over s d (low_half s d f)) (length_over s d (low_half s d g)) (length_over s d (low_half s d h)))

pub combination_extends : (s : Diagram) (rule f g h : ℕ) → Extends (combination s rule f g h)
combination_extends s rule f g h = record { sized = λ d l. length_combined d rule (function_over s d f) (function_over s d g) (function_over s d h); doubled = doubled }
  where
    doubled : (d : ℕ) → max (max (s.height f) (s.height g)) (s.height h) ≤ d → combined (suc d) rule (function_over s (suc d) f) (function_over s (suc d) g) (function_over s (suc d) h) ≡ combined d rule (function_over s d f) (function_over s d g) (function_over s d h) ++ combined d rule (function_over s d f) (function_over s d g) (function_over s d h)
    doubled d l =
        rw (over_above s d f (omega arith), over_above s d g (omega arith), over_above s d h (omega arith))
        (combined_halves d rule (function_over s d f) (function_over s d g) (function_over s d h) (function_over s d f) (function_over s d g) (function_over s d h) (length_over s d f) (length_over s d g) (length_over s d h))

-- what is held stays, and so do the combinations of it
pub combination_kept : (n : ℕ) (s t : Diagram) → Reduced n s → Keeps s t → (rule f g h : ℕ) → Held s f → Held s g → Held s h → SameWanted (combination t rule f g h) (combination s rule f g h)
combination_kept n s t o k rule f g h hf hg hh = record {
  least = rw (k.height f hf, k.height g hg, k.height h hh);
  over = λ d l. rw (over_kept n s t o k d f hf, over_kept n s t o k d g hg, over_kept n s t o k d h hh);
}

-- three held handles, of which the highest has height m, and their halves there
pub record ThreeHalved (n : ℕ) (s : Diagram) (f g h m f0 g0 h0 f1 g1 h1 : ℕ) : Type 0 where
  pub reduced : Reduced n s
  pub f_held : Held s f
  pub g_held : Held s g
  pub h_held : Held s h
  pub highest : max (max (s.height f) (s.height g)) (s.height h) ≡ m
  pub some : 0 < m
  pub f_low : f0 ≡ low_half s (m - 1) f
  pub g_low : g0 ≡ low_half s (m - 1) g
  pub h_low : h0 ≡ low_half s (m - 1) h
  pub f_high : f1 ≡ high_half s (m - 1) f
  pub g_high : g1 ≡ high_half s (m - 1) g
  pub h_high : h1 ≡ high_half s (m - 1) h

module _ (n : ℕ) (s : Diagram) (f g h m f0 g0 h0 f1 g1 h1 : ℕ) (w : ThreeHalved n s f g h m f0 g0 h0 f1 g1 h1) where
  f_reach : s.height f ≤ suc (m - 1)
  f_reach = omega (arith, w.highest, w.some)

  g_reach : s.height g ≤ suc (m - 1)
  g_reach = omega (arith, w.highest, w.some)

  h_reach : s.height h ≤ suc (m - 1)
  h_reach = omega (arith, w.highest, w.some)

  low_half_is : (x x0 : ℕ) → Held s x → s.height x ≤ suc (m - 1) → x0 ≡ low_half s (m - 1) x → Held s x0 × (s.height x0 ≤ m - 1)
  low_half_is x x0 hx l e = subst (λ (y : ℕ). Held s y × (s.height y ≤ m - 1)) (sym e) (low_half_held n s w.reduced (m - 1) x hx l)

  high_half_is : (x x1 : ℕ) → Held s x → s.height x ≤ suc (m - 1) → x1 ≡ high_half s (m - 1) x → Held s x1 × (s.height x1 ≤ m - 1)
  high_half_is x x1 hx l e = subst (λ (y : ℕ). Held s y × (s.height y ≤ m - 1)) (sym e) (high_half_held n s w.reduced (m - 1) x hx l)

  pub low_three_held : Held s f0 × Held s g0 × Held s h0
  low_three_held = ((low_half_is f f0 w.f_held f_reach w.f_low).0, (low_half_is g g0 w.g_held g_reach w.g_low).0, (low_half_is h h0 w.h_held h_reach w.h_low).0)

  pub high_three_held : Held s f1 × Held s g1 × Held s h1
  high_three_held = ((high_half_is f f1 w.f_held f_reach w.f_high).0, (high_half_is g g1 w.g_held g_reach w.g_high).0, (high_half_is h h1 w.h_held h_reach w.h_high).0)

  pub combination_splits : (rule : ℕ) → Splits (combination s rule f g h) (combination s rule f0 g0 h0) (combination s rule f1 g1 h1) m
  combination_splits rule = record {
    extends = combination_extends s rule f g h;
    least = w.highest;
    below = m - 1;
    is = is;
    low_least = omega (arith, (low_half_is f f0 w.f_held f_reach w.f_low).1, (low_half_is g g0 w.g_held g_reach w.g_low).1, (low_half_is h h0 w.h_held h_reach w.h_low).1);
    high_least = omega (arith, (high_half_is f f1 w.f_held f_reach w.f_high).1, (high_half_is g g1 w.g_held g_reach w.g_high).1, (high_half_is h h1 w.h_held h_reach w.h_high).1);
    low_sized = length_combined (m - 1) rule (function_over s (m - 1) f0) (function_over s (m - 1) g0) (function_over s (m - 1) h0);
    joined = ap (combination s rule f g h).over is ∙ combination_over s rule f g h (m - 1) ∙ rw (← w.f_low, ← w.g_low, ← w.h_low, ← w.f_high, ← w.g_high, ← w.h_high);
  }
    where
      is : m ≡ suc (m - 1)
      is = omega (arith, w.some)

-- ---- a qubit set to a bit
-- below its height, and from it on
pub fixing_below : (s : Diagram) (f m d : ℕ) (b : Bool) → d < m → (fixing s f m b).over d ≡ function_over s d f
fixing_below s f m d b l = rw (lt-ltb d m l)

pub fixing_from : (s : Diagram) (f m d : ℕ) (b : Bool) → m ≤ d → (fixing s f m b).over d ≡ fixed d (function_over s d f) (d - m) b
fixing_from s f m d b l = rw (le-ltb d m l)

pub same_both : {A : Type 0} (b : Bool) (x : A) → cond b x x ≡ x
same_both true x = refl
same_both false x = refl

-- where the handle does not look at the qubit's height, that qubit does not matter
fixing_passes : (s : Diagram) (f d : ℕ) (b : Bool) → s.height f ≤ d → (fixing s f (suc d) b).over (suc d) ≡ function_over s d f ++ function_over s d f
fixing_passes s f d b l =
    let z : suc d - suc d ≡ 0 = omega arith in
    fixing_from s f (suc d) (suc d) b (omega arith)
    ∙ ap₂ (λ (t : Table) (q : ℕ). fixed (suc d) t q b) (over_above s d f l) z
    ∙ fixed_first d (function_over s d f) (function_over s d f) b (length_over s d f) (length_over s d f)
    ∙ same_both b (function_over s d f ++ function_over s d f)

fixing_later : (s : Diagram) (f m d : ℕ) (b : Bool) (t u : Table) → m ≤ d → length t ≡ 2 ^ d → function_over s (suc d) f ≡ t ++ u → (fixing s f m b).over (suc d) ≡ fixed d t (d - m) b ++ fixed d u (d - m) b
fixing_later s f m d b t u l lt e =
    let z : suc d - m ≡ suc (d - m) = omega arith in
    fixing_from s f m (suc d) b (omega arith)
    ∙ ap₂ (λ (x : Table) (q : ℕ). fixed (suc d) x q b) e z
    ∙ fixed_later d t u (d - m) b lt

pub fixing_extends : (s : Diagram) (f m : ℕ) (b : Bool) → Extends (fixing s f m b)
fixing_extends s f m b = record { sized = sized; doubled = doubled }
  where
    sized : (d : ℕ) → s.height f ≤ d → length ((fixing s f m b).over d) ≡ 2 ^ d
    sized d l = ⊎_elim
        (λ (x : d < m). ap length (fixing_below s f m d b x) ∙ length_over s d f)
        (λ x. ap length (fixing_from s f m d b x) ∙ length_fixed d (function_over s d f) (d - m) b)
        (cases_lt d m)

    doubled : (d : ℕ) → s.height f ≤ d → (fixing s f m b).over (suc d) ≡ (fixing s f m b).over d ++ (fixing s f m b).over d
    doubled d l = ⊎_elim before (λ x. after x) (cases_lt d m)
      where
        after : m ≤ d → (fixing s f m b).over (suc d) ≡ (fixing s f m b).over d ++ (fixing s f m b).over d
        after x = fixing_later s f m d b (function_over s d f) (function_over s d f) x (length_over s d f) (over_above s d f l) ∙ ap (λ (t : Table). t ++ t) (sym (fixing_from s f m d b x))

        before : d < m → (fixing s f m b).over (suc d) ≡ (fixing s f m b).over d ++ (fixing s f m b).over d
        before x = ⊎_elim
            (λ (y : suc d < m). fixing_below s f m (suc d) b y ∙ over_above s d f l ∙ ap (λ (t : Table). t ++ t) (sym (fixing_below s f m d b x)))
            (λ y. let e : m ≡ suc d = omega arith in
            ap (λ (z : ℕ). (fixing s f z b).over (suc d)) e ∙ fixing_passes s f d b l ∙ ap (λ (t : Table). t ++ t) (sym (fixing_below s f m d b x)))
            (cases_lt (suc d) m)

pub fixing_kept : (n : ℕ) (s t : Diagram) → Reduced n s → Keeps s t → (f m : ℕ) (b : Bool) → Held s f → SameWanted (fixing t f m b) (fixing s f m b)
fixing_kept n s t o k f m b hf = record { least = k.height f hf; over = λ d l. rw (over_kept n s t o k d f hf) }

-- a handle above the qubit: its halves with the qubit set
pub fixing_splits : (n : ℕ) (s : Diagram) → Reduced n s → (f m : ℕ) (b : Bool) → m < s.height f → Splits (fixing s f m b) (fixing s (s.low f) m b) (fixing s (s.high f) m b) (s.height f)
fixing_splits n s o f m b l = record {
  extends = fixing_extends s f m b;
  least = refl;
  below = s.height f - 1;
  is = is;
  low_least = omega (arith, o.low_later f some);
  high_least = omega (arith, o.high_later f some);
  low_sized = (fixing_extends s (s.low f) m b).sized (s.height f - 1) (omega (arith, o.low_later f some));
  joined =
      ap (fixing s f m b).over is
      ∙ fixing_later s f m (s.height f - 1) b (function_over s (s.height f - 1) (s.low f)) (function_over s (s.height f - 1) (s.high f)) reach (length_over s (s.height f - 1) (s.low f)) (over_node s (s.height f - 1) f is)
      ∙ sym (ap₂ (λ (t u : Table). t ++ u) (fixing_from s (s.low f) m (s.height f - 1) b reach) (fixing_from s (s.high f) m (s.height f - 1) b reach));
}
  where
    some : 0 < s.height f
    some = omega arith

    is : s.height f ≡ suc (s.height f - 1)
    is = omega arith

    reach : m ≤ s.height f - 1
    reach = omega arith

-- a handle at the qubit: the half that is chosen
pub fixing_chosen : (s : Diagram) (f m : ℕ) (b : Bool) → 0 < m → s.height f ≡ m → s.height (cond b (s.high f) (s.low f)) < m → function_over s m (cond b (s.high f) (s.low f)) ≡ (fixing s f m b).over m
fixing_chosen s f m b some e later = whole b later
  where
    is : m ≡ suc (m - 1)
    is = omega arith

    none : m - m ≡ 0
    none = omega arith

    a : Table
    a = function_over s (m - 1) (s.low f)

    c : Table
    c = function_over s (m - 1) (s.high f)

    joined : function_over s m f ≡ a ++ c
    joined = ap (λ (d : ℕ). function_over s d f) is ∙ over_node s (m - 1) f (e ∙ is)

    wanted : (v : Bool) → (fixing s f m v).over m ≡ cond v (c ++ c) (a ++ a)
    wanted v =
        fixing_from s f m m v (omega arith)
        ∙ ap₂ (λ (t : Table) (q : ℕ). fixed m t q v) joined none
        ∙ ap (λ (d : ℕ). fixed d (a ++ c) 0 v) is
        ∙ fixed_first (m - 1) a c v (length_over s (m - 1) (s.low f)) (length_over s (m - 1) (s.high f))

    twice : (h : ℕ) → s.height h < m → function_over s m h ≡ function_over s (m - 1) h ++ function_over s (m - 1) h
    twice h l = ap (λ (d : ℕ). function_over s d h) is ∙ over_above s (m - 1) h (omega arith)

    whole : (v : Bool) → s.height (cond v (s.high f) (s.low f)) < m → function_over s m (cond v (s.high f) (s.low f)) ≡ (fixing s f m v).over m
    whole true l = twice (s.high f) l ∙ sym (wanted true)
    whole false l = twice (s.low f) l ∙ sym (wanted false)

-- a handle below the qubit: itself
pub fixing_itself : (s : Diagram) (f m : ℕ) (b : Bool) → s.height f < m → function_over s (s.height f) f ≡ (fixing s f m b).over (s.height f)
fixing_itself s f m b l = sym (fixing_below s f m (s.height f) b l)

-- what is asked for over all n qubits
pub fixing_asked : (s : Diagram) (f n q : ℕ) (b : Bool) → q < n → (fixing s f (n - q) b).over n ≡ fixed n (function_over s n f) q b
fixing_asked s f n q b l =
    let e : n - (n - q) ≡ q = omega arith in
    fixing_from s f (n - q) n b (omega arith) ∙ ap (λ (x : ℕ). fixed n (function_over s n f) x b) e

-- ---- the bit of a qubit
pub bit_extends : (m : ℕ) → Extends (bit_of m)
bit_extends m = record {
  sized = λ d l. length_literal d (d - m);
  doubled = λ d l. let z : suc d - m ≡ suc (d - m) = omega arith in ap (literal (suc d)) z ∙ literal_later d (d - m);
}

pub bit_splits : (m : ℕ) → 0 < m → Splits (bit_of m) (constantly false) (constantly true) m
bit_splits m some = record {
  extends = bit_extends m;
  least = refl;
  below = m - 1;
  is = is;
  low_least = omega arith;
  high_least = omega arith;
  low_sized = length_constant (m - 1) false;
  joined = ap₂ (λ (d q : ℕ). literal d q) is none ∙ literal_first (m - 1);
}
  where
    is : m ≡ suc (m - 1)
    is = omega arith

    none : m - m ≡ 0
    none = omega arith

pub bit_asked : (n q : ℕ) → q < n → (bit_of (n - q)).over n ≡ literal n q
bit_asked n q l = let e : n - (n - q) ≡ q = omega arith in ap (literal n) e
