-- A node more.
use Rattle.std.specs.Prelude.{◌≡◌, ℕ, ◌+◌, ◌<◌, ◌≤◌, Some, None, Option, ◌≢◌}
use Rattle.diagrams.specs.Diagrams.{Diagram, Held}
use Rattle.diagrams.specs.Forming.{NoNode, Joined, NoRoom}
use Rattle.node_table.specs.declared.table.NodeTable.{NodeTable}
use Rattle.node_table.specs.Layout.{diagram_of, word, head, Node}

-- a node with these three may be added to the diagram of n qubits
pub record Fits (n : ℕ) (s : Diagram) (m low high : ℕ) : Type 0 where
  pub positive : 0 < m
  pub within : m ≤ n
  pub low_held : Held s low
  pub low_later : s.height low < m
  pub high_held : Held s high
  pub high_later : s.height high < m
  pub differ : low ≡ high → ⊥
  pub absent : NoNode s m low high

-- every handle from `from` up to `to` is a node
abbrev pub AllNodes : NodeTable → ℕ → ℕ → Type 0
AllNodes t from to = (h : ℕ) → from ≤ h → h < to → Node t h

-- k is the first free handle from the used places on
pub record FirstFree (t : NodeTable) (k : ℕ) : Type 0 where
  pub after : t.used + 2 ≤ k
  pub within : k < t.limit + 2
  pub passed : AllNodes t (t.used + 2) k
  pub free : (diagram_of t).height k ≡ 0

-- the handle k was written, with neither mark nor link
pub record Written (s t : NodeTable) (k m low high : ℕ) : Type 0 where
  pub word_0 : word t k 0 ≡ m
  pub word_1 : word t k 1 ≡ low
  pub word_2 : word t k 2 ≡ high
  pub others : (h j : ℕ) → j ≤ 2 → 2 ≤ h → (h ≢ k) → word t h j ≡ word s h j
  pub heads : (b : ℕ) → head t b ≡ head s b

-- What a join of two halves at height m answers: a handle, or that there is no room, and then the nodes are as they were.
abbrev pub JoinAnswer : NodeTable → NodeTable → ℕ → ℕ → ℕ → Option ℕ → Type 0
JoinAnswer s t m low high (Some h) = Joined (diagram_of s) (diagram_of t) m low high h
JoinAnswer s t m low high None = (diagram_of t ≡ diagram_of s) × NoRoom (diagram_of s) s.limit m low high
