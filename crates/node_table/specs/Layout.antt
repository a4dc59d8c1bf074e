-- The words of a node table, and the diagram that they hold.
use Rattle.std.specs.Prelude.{◌≡◌, ℕ, ◌+◌, ◌-◌, ◌*◌, ◌/◌, ◌%◌, ◌<◌, cond, vec_items, nat_lt, slice_index}
use Rattle.diagrams.specs.Diagrams.{Diagram}
use Rattle.node_table.specs.declared.table.NodeTable.{NodeTable}

-- word k of the place of handle h
abbrev pub word : NodeTable → ℕ → ℕ → ℕ
word t h k = slice_index (vec_items t.words) (4 * (h - 2) + k)

-- Word 0 of a node has its height, 32 more if it is marked, and 64 times the next handle of its chain; words 1 and 2 are its
-- halves. A place whose height is 0 is free.
unfoldable pub diagram_of : NodeTable → Diagram
diagram_of t = record {
  height = λ h. cond (nat_lt h 2) 0 (cond (nat_lt h (t.limit + 2)) (word t h 0 % 32) 0);
  low = λ h. word t h 1;
  high = λ h. word t h 2;
}

-- h is a node
abbrev pub Node : NodeTable → ℕ → Type 0
Node t h = 0 < (diagram_of t).height h

-- the mark of a node: 1 if a keep has kept it
abbrev pub mark : NodeTable → ℕ → ℕ
mark t h = word t h 0 / 32 % 2

-- the next handle of a chain; below 2 the chain has ended
unfoldable pub link : NodeTable → ℕ → ℕ
link t h = cond (nat_lt h 2) 0 (word t h 0 / 64)

-- the first handle of chain b, in word 3 of place b
abbrev pub head : NodeTable → ℕ → ℕ
head t b = slice_index (vec_items t.words) (4 * b + 3)

-- no call changes these
pub record SameSetting (s t : NodeTable) : Type 0 where
  pub qubits : t.qubits.number ≡ s.qubits.number
  pub limit : t.limit ≡ s.limit

-- the tables differ in words alone
pub record OnlyWords (s t : NodeTable) : Type 0 where
  pub setting : SameSetting s t
  pub used : t.used ≡ s.used
