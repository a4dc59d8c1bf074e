-- What a call that makes a function answers.
use Rattle.std.proofs.Common.{◌≡◌, ℕ, ◌^◌, ◌<◌, ◌≤◌, length, Some, None, Ok, Err, Option, sym, refl, ◌∙◌, subst, ap₂}
use Rattle.functions.specs.declared.faults.StoreFault.TheVariants.{NoSpace}
use Rattle.functions.specs.Tables.{Table}
use Rattle.functions.specs.Meanings.{Meaning}
use Rattle.functions.specs.Answers.{Made, Due}
use Rattle.diagrams.specs.Diagrams.{Diagram, Reduced}
use Rattle.diagrams.specs.Forming.{Wanted, Keeps, Short, bit_of}
use Rattle.diagrams.specs.Meanings.{diagram_meaning, InLimit}
use Rattle.diagrams.proofs.Forming.{formed_literal, short_literal}
use Rattle.diagrams.proofs.Meanings.{alike_meaning}
use Rattle.diagrams.proofs.Making.{made_formed, short_exceeds}
use Rattle.node_table.specs.declared.table.NodeTable.{NodeTable}
use Rattle.node_table.specs.Ordering.{InOrder, Grown, diagram_of}
use Rattle.node_table.specs.Adding.{JoinAnswer}
use Rattle.node_table.specs.Freeing.{Restored}
use Rattle.node_answers.specs.declared.remembered.Remembered.{Remembered}
use Rattle.node_answers.specs.Answers.{Sound}
use Rattle.node_answers.proofs.Answers.{sound_kept}
use Rattle.node_store.specs.declared.store.NodeStore.{NodeStore}
use Rattle.node_store.specs.Orders.{diagram, node_meaning, Ordered, Forms, Tried, Concluded}
use Rattle.node_store.proofs.Steps.{still_reduced}

-- a meaning by the qubits and the limit of another store
pub meaning_by : (old t : NodeTable) → t.qubits.number ≡ old.qubits.number → t.limit ≡ old.limit → diagram_meaning t.qubits.number t.limit (diagram_of t) ≡ diagram_meaning old.qubits.number old.limit (diagram_of t)
meaning_by old t e l = ap₂ (λ (n m : ℕ). diagram_meaning n m (diagram_of t)) e l

-- formed
pub concluded_some : (old s : NodeStore) (f : Wanted) (used h : ℕ) → Tried old s f used (Some h) → Concluded old s f (Ok h)
concluded_some old s f used h x =
    let g = x.forms.grown in
    record {
      order = x.forms.order;
      made = rw (meaning_by old.nodes s.nodes g.qubits g.limit)
          (made_formed old.nodes.qubits.number old.nodes.limit (diagram old) (diagram s) f h (Ok (f.over old.nodes.qubits.number))
          x.order.nodes.reduced x.order.nodes.in_limit (still_reduced old.nodes s.nodes g x.forms.order.nodes)
          (subst (λ (l : ℕ). InLimit l (diagram s)) g.limit x.forms.order.nodes.in_limit)
          g.keeps x.forms.outcome x.within refl);
    }

-- there was no room, and what was made is taken back
refused : (v w : Meaning) (f : Table) (limit : ℕ) → w ≡ v → Due v (Ok f) (NoSpace limit) → Made v w (Ok f) (Err (NoSpace limit))
unfolding Made
refused v w f limit e d = record { unchanged = e; due = d }

no_space : (n limit : ℕ) (s t : Diagram) (f : Wanted) → Reduced n s → InLimit limit s → Reduced n t → Keeps s t → Short s t limit f → f.least ≤ n → length (f.over n) ≡ 2 ^ n → Due (diagram_meaning n limit s) (Ok (f.over n)) (NoSpace limit)
unfolding Due diagram_meaning
no_space n limit s t f o i p k x l z = (refl, short_exceeds n limit s t f o i p k x l z)

pub concluded_none : (old s : NodeStore) (f : Wanted) (used : ℕ) → Tried old s f used None → (t : NodeTable) → t.qubits.number ≡ s.nodes.qubits.number → t.limit ≡ s.nodes.limit → Restored old.nodes t → (m : Remembered) → ((d : Diagram) → Sound d m) → (limit : ℕ) → limit ≡ t.limit → Concluded old (record { nodes = t; remembered = m }) f (Err (NoSpace limit))
concluded_none old s f used x t q l r m forgets limit e =
    let g = x.forms.grown in
    let same : diagram_meaning t.qubits.number t.limit (diagram_of t) ≡ node_meaning old =
    meaning_by old.nodes t (q ∙ g.qubits) (l ∙ g.limit) ∙ alike_meaning old.nodes.qubits.number old.nodes.limit (diagram old) (diagram_of t) x.order.nodes.reduced r.alike in
    record {
      order = record { nodes = r.order; sound = forgets (diagram_of t) };
      made = rw (e ∙ l ∙ g.limit)
          (refused (node_meaning old) (diagram_meaning t.qubits.number t.limit (diagram_of t)) (f.over old.nodes.qubits.number) old.nodes.limit same
          (no_space old.nodes.qubits.number old.nodes.limit (diagram old) (diagram s) f x.order.nodes.reduced x.order.nodes.in_limit (still_reduced old.nodes s.nodes g x.forms.order.nodes) g.keeps x.forms.outcome x.within x.sized));
    }

-- ---- the bit of a qubit
module _ (s : NodeStore) (o : Ordered s) (m : ℕ) (some : 0 < m) (u : NodeTable) (ou : InOrder u) (gu : Grown s.nodes u) where
  still_ordered : Ordered (record { nodes = u; remembered = s.remembered })
  still_ordered = record { nodes = ou; sound = sound_kept s.nodes.qubits.number (diagram s) (diagram_of u) o.nodes.reduced gu.keeps s.remembered o.sound }

  pub literal_forms : (r : Option ℕ) → JoinAnswer s.nodes u m 0 1 r → Forms s (record { nodes = u; remembered = s.remembered }) (bit_of m) r
  literal_forms (Some r) j = record { order = still_ordered; grown = gu; outcome = formed_literal s.nodes.qubits.number (diagram s) o.nodes.reduced (diagram_of u) m r some gu.keeps j }
  literal_forms None j = record {
    order = still_ordered;
    grown = gu;
    outcome = subst (λ (d : Diagram). Short (diagram s) d s.nodes.limit (bit_of m)) (sym j.0) (short_literal s.nodes.qubits.number (diagram s) o.nodes.reduced s.nodes.limit m some j.1);
  }
