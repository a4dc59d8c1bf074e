-- Forming a function in a diagram, and why it may not be possible.
use Rattle.std.specs.Prelude.{◌≡◌, ℕ, suc, ◌+◌, ◌-◌, ◌^◌, ◌<◌, ◌≤◌, max, Bool, cond, ◌⊎◌, ◌++◌, length, ◌≢◌, nat_lt}
use Rattle.functions.specs.Tables.{Table, literal, fixed, combined}
use Rattle.diagrams.specs.Diagrams.{Diagram, function_over, Held}

-- From s to t: what is held stays as it is.
pub record Keeps (s t : Diagram) : Type 0 where
  pub height : (h : ℕ) → Held s h → t.height h ≡ s.height h
  pub low : (h : ℕ) → Held s h → 2 ≤ h → t.low h ≡ s.low h
  pub high : (h : ℕ) → Held s h → 2 ≤ h → t.high h ≡ s.high h

-- The same nodes.
pub record Alike (s t : Diagram) : Type 0 where
  pub height : (h : ℕ) → t.height h ≡ s.height h
  pub low : (h : ℕ) → 0 < s.height h → t.low h ≡ s.low h
  pub high : (h : ℕ) → 0 < s.height h → t.high h ≡ s.high h

-- h is the node of height m with these halves.
pub record IsNode (s : Diagram) (h m low high : ℕ) : Type 0 where
  pub height : s.height h ≡ m
  pub is_low : s.low h ≡ low
  pub is_high : s.high h ≡ high

abbrev pub NoNode : Diagram → ℕ → ℕ → ℕ → Type 0
NoNode s m low high = (h : ℕ) → IsNode s h m low high → ⊥

-- h stands for the two halves at height m, and at most h is new.
pub record Joined (s t : Diagram) (m low high h : ℕ) : Type 0 where
  pub kind : ((low ≡ high) × (h ≡ low)) ⊎ IsNode t h m low high
  pub new : (k : ℕ) → 0 < t.height k → (0 < s.height k) ⊎ (k ≡ h)

-- every handle from 2 to limit + 1 is a node
abbrev pub Filled : ℕ → Diagram → Type 0
Filled limit s = (h : ℕ) → 2 ≤ h → h < limit + 2 → 0 < s.height h

-- The two halves need a node, there is none, and none is free.
pub record NoRoom (s : Diagram) (limit m low high : ℕ) : Type 0 where
  pub differ : low ≡ high → ⊥
  pub absent : NoNode s m low high
  pub filled : Filled limit s

-- A function that is wanted: it looks at none but the last `least` qubits, and `over` gives it as a function of the last d
-- qubits, for d from `least` on.
pub record Wanted : Type 0 where
  pub least : ℕ
  pub over : ℕ → Table

-- three handles combined by a rule
abbrev pub combination : Diagram → ℕ → ℕ → ℕ → ℕ → Wanted
combination s rule f g h = record {
  least = max (max (s.height f) (s.height g)) (s.height h);
  over = λ d. combined d rule (function_over s d f) (function_over s d g) (function_over s d h);
}

-- a handle with the qubit of height m set to b
abbrev pub fixing : Diagram → ℕ → ℕ → Bool → Wanted
fixing s f m b = record {
  least = s.height f;
  over = λ d. cond (nat_lt d m) (function_over s d f) (fixed d (function_over s d f) (d - m) b);
}

-- the bit of the qubit of height m
abbrev pub bit_of : ℕ → Wanted
bit_of m = record { least = m; over = λ d. literal d (d - m) }

-- u, a function of the last e qubits, comes from f, a function of the last d, by fixing the first d − e of these
pub data Restricts : ℕ → Table → ℕ → Table → Type 0 where
  whole : {d : ℕ} {f : Table} → Restricts d f d f
  low_side : {d e : ℕ} {f u : Table} (a b : Table) → f ≡ a ++ b → length a ≡ 2 ^ d → Restricts d a e u → Restricts (suc d) f e u
  high_side : {d e : ℕ} {f u : Table} (a b : Table) → f ≡ a ++ b → length a ≡ 2 ^ d → Restricts d b e u → Restricts (suc d) f e u

-- each node of t is one of s, or comes from what is wanted by fixing first qubits
abbrev pub OnlyParts : Diagram → Diagram → ℕ → Table → Type 0
OnlyParts s t d f = (k : ℕ) → 0 < t.height k → (0 < s.height k) ⊎ Restricts d f (t.height k) (function_over t (t.height k) k)

-- From s to t, r was formed as the function that is wanted, and nothing else is new but its parts.
pub record Formed (s t : Diagram) (f : Wanted) (r : ℕ) : Type 0 where
  pub held : Held t r
  pub low_enough : (d : ℕ) → f.least ≤ d → t.height r ≤ d
  pub is : (d : ℕ) → f.least ≤ d → function_over t d r ≡ f.over d
  pub only_parts : (d : ℕ) → f.least ≤ d → OnlyParts s t d (f.over d)

-- a part of a function of the last d qubits that no handle stands for
pub record Lacks (t : Diagram) (d : ℕ) (f : Table) : Type 0 where
  pub over : ℕ
  pub part : Table
  pub is_part : Restricts d f over part
  pub not_held : (k : ℕ) → Held t k → t.height k ≤ over → function_over t over k ≢ part

-- From s to t, the diagram was filled with nothing but parts of the function that is wanted, and lacks one more of them.
pub record Short (s t : Diagram) (limit : ℕ) (f : Wanted) : Type 0 where
  pub filled : Filled limit t
  pub only_parts : (d : ℕ) → f.least ≤ d → OnlyParts s t d (f.over d)
  pub lacks : (d : ℕ) → f.least ≤ d → Lacks t d (f.over d)
