-- Marks, and what a keep answers.
use Rattle.std.specs.Prelude.{◌≡◌, ℕ, ◌/◌, ◌%◌, ◌<◌, ◌≤◌, List, length, Ok, Err, Result, slice_index}
use Rattle.functions.specs.declared.faults.StoreFault.{StoreFault}
use Rattle.functions.specs.declared.faults.StoreFault.TheVariants.{NotHeld}
use Rattle.diagrams.specs.Diagrams.{Diagram, Held}
use Rattle.diagrams.specs.Forming.{Alike}
use Rattle.diagrams.specs.Reaching.{Reaches, Swept}
use Rattle.node_table.specs.declared.table.NodeTable.{NodeTable}
use Rattle.node_table.specs.Layout.{word, Node, mark, head, diagram_of}

-- the tables differ in marks alone
pub record SameButMarks (s t : NodeTable) : Type 0 where
  pub height : (h : ℕ) → 2 ≤ h → word t h 0 % 32 ≡ word s h 0 % 32
  pub link : (h : ℕ) → 2 ≤ h → word t h 0 / 64 ≡ word s h 0 / 64
  pub word_1 : (h : ℕ) → word t h 1 ≡ word s h 1
  pub word_2 : (h : ℕ) → word t h 2 ≡ word s h 2
  pub heads : (b : ℕ) → head t b ≡ head s b

-- a constant, or marked
abbrev pub Marked : NodeTable → ℕ → Type 0
Marked t h = 2 ≤ h → mark t h ≡ 1

-- h was marked; what is newly marked is reached from h, and has both halves marked
pub record Marks (s t : NodeTable) (h : ℕ) : Type 0 where
  pub same : SameButMarks s t
  pub root : Marked t h
  pub stays : (k : ℕ) → 2 ≤ k → mark s k ≡ 1 → mark t k ≡ 1
  pub reached : (k : ℕ) → 2 ≤ k → mark s k ≡ 0 → mark t k ≡ 1 → Reaches (diagram_of s) h k
  pub closed : (k : ℕ) → 2 ≤ k → mark s k ≡ 0 → mark t k ≡ 1 → Marked t ((diagram_of s).low k) × Marked t ((diagram_of s).high k)

-- no node is marked but those that the first i listed handles reach
pub record MarksListed (s t : NodeTable) (list : List ℕ) (i : ℕ) : Type 0 where
  pub same : SameButMarks s t
  pub held : (j : ℕ) → j < i → Held (diagram_of s) (slice_index list j)
  pub roots : (j : ℕ) → j < i → Marked t (slice_index list j)
  pub reached : (k : ℕ) → Node s k → mark t k ≡ 1 → (j : ℕ) × (j < i) × Reaches (diagram_of s) (slice_index list j) k
  pub closed : (k : ℕ) → Node s k → mark t k ≡ 1 → Marked t ((diagram_of s).low k) × Marked t ((diagram_of s).high k)

-- The refusal e names the first listed handle that is not held, and the nodes are as they were.
pub record NotKept (s t : Diagram) (list : List ℕ) (e : StoreFault) : Type 0 where
  pub place : ℕ
  pub within : place < length list
  pub before : (i : ℕ) → i < place → Held s (slice_index list i)
  pub missing : Held s (slice_index list place) → ⊥
  pub named : e ≡ NotHeld (slice_index list place)
  pub alike : Alike s t

-- What a keep of the listed handles answers.
unfoldable pub KeptNodes : Diagram → Diagram → List ℕ → Result (Unit {0}) StoreFault → Type 0
KeptNodes s t list (Ok done) = Swept s t list
KeptNodes s t list (Err e) = NotKept s t list e
