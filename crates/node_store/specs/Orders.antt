-- A node store in order, and how functions are formed in it.
use Rattle.std.specs.Prelude.{◌≡◌, ℕ, ◌^◌, ◌≤◌, length, Some, None, Ok, Err, Option, Result}
use Rattle.functions.specs.declared.faults.StoreFault.{StoreFault}
use Rattle.functions.specs.declared.faults.StoreFault.TheVariants.{NotHeld}
use Rattle.functions.specs.Meanings.{Meaning}
use Rattle.functions.specs.Answers.{Made}
use Rattle.diagrams.specs.Diagrams.{Diagram, Held}
use Rattle.diagrams.specs.Meanings.{diagram_meaning}
use Rattle.diagrams.specs.Forming.{Wanted, Formed, Short}
use Rattle.node_table.specs.Ordering.{InOrder, Grown, diagram_of}
use Rattle.node_answers.specs.Answers.{Sound}
use Rattle.node_store.specs.declared.store.NodeStore.{NodeStore}

-- the diagram of a store's nodes
abbrev pub diagram : NodeStore → Diagram
diagram s = diagram_of s.nodes

-- The nodes are in order, and what is remembered is right.
pub record Ordered (s : NodeStore) : Type 0 where
  pub nodes : InOrder s.nodes
  pub sound : Sound (diagram s) s.remembered

-- what a store means
abbrev pub node_meaning : NodeStore → Meaning
node_meaning s = diagram_meaning s.nodes.qubits.number s.nodes.limit (diagram s)

-- From s to t, a function was formed, or fell short of room.
abbrev pub FormedOrShort : NodeStore → NodeStore → Wanted → Option ℕ → Type 0
FormedOrShort s t f (Some r) = Formed (diagram s) (diagram t) f r
FormedOrShort s t f None = Short (diagram s) (diagram t) s.nodes.limit f

-- What a call that forms a function leaves and answers.
pub record Forms (s t : NodeStore) (f : Wanted) (r : Option ℕ) : Type 0 where
  pub order : Ordered t
  pub grown : Grown s.nodes t.nodes
  pub outcome : FormedOrShort s t f r

-- From `old`, whose table had the number `used`, f was tried: it was formed, or fell short of room.
pub record Tried (old s : NodeStore) (f : Wanted) (used : ℕ) (tried : Option ℕ) : Type 0 where
  pub order : Ordered old
  pub forms : Forms old s f tried
  pub since : old.nodes.used ≡ used
  pub within : f.least ≤ old.nodes.qubits.number
  pub sized : length (f.over old.nodes.qubits.number) ≡ 2 ^ old.nodes.qubits.number

-- From `old` to t, the answer r was given to a call that asked for f.
pub record Concluded (old t : NodeStore) (f : Wanted) (r : Result ℕ StoreFault) : Type 0 where
  pub order : Ordered t
  pub made : Made (node_meaning old) (node_meaning t) (Ok (f.over old.nodes.qubits.number)) r

-- a handle is held, or refused
abbrev pub HeldOrRefused : Diagram → ℕ → Result (Unit {0}) StoreFault → Type 0
HeldOrRefused s h (Ok done) = Held s h
HeldOrRefused s h (Err e) = (Held s h → ⊥) × (e ≡ NotHeld h)
