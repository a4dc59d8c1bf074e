-- What a keep answers.
use Rattle.std.proofs.Common.{ℕ, List, get_or, Ok, Err}
use Rattle.functions.specs.declared.faults.StoreFault.{StoreFault}
use Rattle.functions.specs.Answers.{Kept}
use Rattle.diagrams.specs.Reaching.{itself}
use Rattle.diagrams.specs.Meanings.{diagram_meaning}
use Rattle.diagrams.proofs.Canonical.{held_kept, alike_keeps}
use Rattle.diagrams.proofs.Meanings.{alike_meaning}
use Rattle.diagrams.proofs.Keeping.{kept_swept, kept_refused}
use Rattle.node_table.specs.declared.table.NodeTable.{NodeTable}
use Rattle.node_table.specs.Ordering.{diagram_of}
use Rattle.node_table.specs.Layout.{SameSetting}
use Rattle.node_table.specs.Marking.{KeptNodes}
use Rattle.node_answers.specs.Answers.{Sound}
use Rattle.node_answers.proofs.Answers.{sound_kept}
use Rattle.node_store.specs.declared.store.NodeStore.{NodeStore}
use Rattle.node_store.specs.Orders.{diagram, node_meaning, Ordered}
use Rattle.node_store.proofs.Concluding.{meaning_by}

pub keep_done : (s : NodeStore) → Ordered s → (t : NodeTable) → SameSetting s.nodes t → (list : List ℕ) → KeptNodes (diagram s) (diagram_of t) list (Ok tt) → Kept (node_meaning s) (diagram_meaning t.qubits.number t.limit (diagram_of t)) list (Ok tt)
unfolding KeptNodes
keep_done s o t e list w =
    rw (meaning_by s.nodes t e.qubits e.limit)
    (kept_swept s.nodes.qubits.number s.nodes.limit (diagram s) (diagram_of t) o.nodes.reduced o.nodes.in_limit list
    (λ i l. held_kept (diagram_of t) (diagram s) w.same (get_or list i 0) (w.stays i l (get_or list i 0) itself)) w)

pub keep_refused : (s : NodeStore) → Ordered s → (t : NodeTable) → SameSetting s.nodes t → (list : List ℕ) (e : StoreFault) → KeptNodes (diagram s) (diagram_of t) list (Err e) → Kept (node_meaning s) (diagram_meaning t.qubits.number t.limit (diagram_of t)) list (Err e)
unfolding KeptNodes
keep_refused s o t e list fault w =
    rw (meaning_by s.nodes t e.qubits e.limit, w.named)
    (kept_refused s.nodes.qubits.number s.nodes.limit (diagram s) (diagram_of t) o.nodes.reduced o.nodes.in_limit list w.place w.within w.before w.missing
    (alike_meaning s.nodes.qubits.number s.nodes.limit (diagram s) (diagram_of t) o.nodes.reduced w.alike))

-- what is remembered stays right where nothing is let go
pub still_sound : (s : NodeStore) → Ordered s → (t : NodeTable) (list : List ℕ) (e : StoreFault) → KeptNodes (diagram s) (diagram_of t) list (Err e) → Sound (diagram_of t) s.remembered
unfolding KeptNodes
still_sound s o t list e w = sound_kept s.nodes.qubits.number (diagram s) (diagram_of t) o.nodes.reduced (alike_keeps (diagram s) (diagram_of t) w.alike) s.remembered o.sound
