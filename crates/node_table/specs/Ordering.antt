-- A node table in order, and how it grows.
use Rattle.std.specs.Prelude.{◌≡◌, ℕ, ◌+◌, ◌<◌, ◌≤◌}
pub use Rattle.node_table.specs.Layout.{diagram_of}
use Rattle.diagrams.specs.Diagrams.{Reduced}
use Rattle.diagrams.specs.Forming.{Keeps}
use Rattle.node_table.specs.declared.table.NodeTable.{NodeTable}
use Rattle.node_table.specs.Layout.{word, Node, mark}
use Rattle.node_table.specs.Chains.{Chains}

-- The nodes are a reduced ordered diagram; every place before `used` has one, every node from there on is marked, and all
-- stand in their chains.
pub record InOrder (t : NodeTable) : Type 0 where
  pub some : 1 ≤ t.qubits.number
  pub reduced : Reduced t.qubits.number (diagram_of t)
  pub in_limit : (h : ℕ) → t.limit + 2 ≤ h → (diagram_of t).height h ≡ 0
  pub filled : (h : ℕ) → 2 ≤ h → h < t.used + 2 → Node t h
  pub marked : (h : ℕ) → t.used + 2 ≤ h → Node t h → mark t h ≡ 1
  pub chains : Chains t (t.limit + t.used) (Node t)

-- From s to t, nodes were added: what was a node is as it was, and what is new stands between the two `used`, unmarked.
pub record Grown (s t : NodeTable) : Type 0 where
  pub qubits : t.qubits.number ≡ s.qubits.number
  pub limit : t.limit ≡ s.limit
  pub keeps : Keeps (diagram_of s) (diagram_of t)
  pub onward : s.used ≤ t.used
  pub word_0 : (h : ℕ) → Node s h → word t h 0 ≡ word s h 0
  pub new : (h : ℕ) → (diagram_of s).height h ≡ 0 → Node t h → (s.used + 2 ≤ h) × (h < t.used + 2) × (mark t h ≡ 0)
