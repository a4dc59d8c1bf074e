-- What a diagram means as a function store.
use Rattle.std.specs.Prelude.{◌≡◌, ℕ, zero, suc, ◌+◌, ◌≤◌, cond, List, [], ◌∷◌, ◌==◌}
use Rattle.functions.specs.Tables.{Table}
use Rattle.functions.specs.Meanings.{Setting, Meaning}
use Rattle.diagrams.specs.Diagrams.{Diagram, function_over}
use Rattle.diagrams.specs.Parts.{prefix_parts}

abbrev pub diagram_setting : ℕ → ℕ → Setting
diagram_setting n limit = record { qubits = n; limit = limit; parts = prefix_parts n }

-- the nodes among k handles from h on, each with its function of n qubits
unfoldable pub nodes_from : ℕ → Diagram → ℕ → ℕ → List (ℕ × Table)
nodes_from n s h zero = []
nodes_from n s h (suc k) = cond (s.height h == 0) (nodes_from n s (h + 1) k) ((h, function_over s n h) ∷ nodes_from n s (h + 1) k)

-- a diagram of n qubits whose nodes have handles from 2 to limit + 1
unfoldable pub diagram_meaning : ℕ → ℕ → Diagram → Meaning
diagram_meaning n limit s = record { setting = diagram_setting n limit; entries = nodes_from n s 2 limit }

-- no node has a handle past limit + 1
abbrev pub InLimit : ℕ → Diagram → Type 0
InLimit limit s = (h : ℕ) → limit + 2 ≤ h → s.height h ≡ 0
