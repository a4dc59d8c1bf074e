-- Reduced ordered decision diagrams. A node is known by its handle; handles 0 and 1 are the constants.
use Rattle.std.specs.Prelude.{◌≡◌, ℕ, zero, suc, ◌<◌, ◌≤◌, cond, [], ◌∷◌, ◌++◌, ◌==◌, ◌≢◌}
use Rattle.functions.specs.Tables.{Table}

-- For each handle its height, the number of qubits from the node's own to the last one (0 for a constant, and where there
-- is no node), and the handles of its two halves: where its qubit is 0, and where it is 1.
pub record Diagram : Type 0 where
  pub height : ℕ → ℕ
  pub low : ℕ → ℕ
  pub high : ℕ → ℕ

-- the halves of a handle as a function of the last d + 1 qubits: its own if it looks at the first of them, else itself twice
abbrev pub low_half : Diagram → ℕ → ℕ → ℕ
low_half s d h = cond (s.height h == suc d) (s.low h) h

abbrev pub high_half : Diagram → ℕ → ℕ → ℕ
high_half s d h = cond (s.height h == suc d) (s.high h) h

-- the function of the last d qubits that a handle stands for
unfoldable pub function_over : Diagram → ℕ → ℕ → Table
function_over s zero h = (h == 1) ∷ []
function_over s (suc d) h = function_over s d (low_half s d h) ++ function_over s d (high_half s d h)

-- a constant, or a node
abbrev pub Held : Diagram → ℕ → Type 0
Held s h = 2 ≤ h → 0 < s.height h

-- The diagram of n qubits is ordered and reduced: halves are held and look at later qubits, no node has equal halves, and no
-- two nodes have the same qubit and the same halves.
pub record Reduced (n : ℕ) (s : Diagram) : Type 0 where
  pub constants : (h : ℕ) → h < 2 → s.height h ≡ 0
  pub within : (h : ℕ) → s.height h ≤ n
  pub low_held : (h : ℕ) → 0 < s.height h → Held s (s.low h)
  pub high_held : (h : ℕ) → 0 < s.height h → Held s (s.high h)
  pub low_later : (h : ℕ) → 0 < s.height h → s.height (s.low h) < s.height h
  pub high_later : (h : ℕ) → 0 < s.height h → s.height (s.high h) < s.height h
  pub halves_differ : (h : ℕ) → 0 < s.height h → s.low h ≢ s.high h
  pub no_double : (h k : ℕ) → 0 < s.height h → s.height h ≡ s.height k → s.low h ≡ s.low k → s.high h ≡ s.high k → h ≡ k

-- the diagram that has no node
abbrev pub no_nodes : Diagram
no_nodes = record { height = λ h. 0; low = λ h. 0; high = λ h. 0 }
