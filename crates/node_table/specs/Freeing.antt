-- Nodes that are freed.
use Rattle.std.specs.Prelude.{◌≡◌, ℕ, ◌+◌, ◌<◌, ◌≤◌, ◌≢◌}
use Rattle.diagrams.specs.Forming.{Alike}
use Rattle.node_table.specs.declared.table.NodeTable.{NodeTable}
use Rattle.node_table.specs.Layout.{word, mark, diagram_of}
use Rattle.node_table.specs.Ordering.{InOrder}

-- the places from `from` up to `to` that are not marked were freed
pub record Freed (s t : NodeTable) (from to : ℕ) : Type 0 where
  pub freed : (h : ℕ) → from + 2 ≤ h → h < to + 2 → mark s h ≡ 0 → word t h 0 ≡ 0
  pub others : (h : ℕ) → 2 ≤ h → (from + 2 ≤ h → h < to + 2 → mark s h ≢ 0) → word t h 0 ≡ word s h 0
  pub word_1 : (h : ℕ) → word t h 1 ≡ word s h 1
  pub word_2 : (h : ℕ) → word t h 2 ≡ word s h 2

-- The table is in order, with the nodes that `old` had.
pub record Restored (old t : NodeTable) : Type 0 where
  pub used : t.used ≡ old.used
  pub order : InOrder t
  pub alike : Alike (diagram_of old) (diagram_of t)
