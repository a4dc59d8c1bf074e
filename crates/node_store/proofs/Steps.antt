-- Forming a function half by half: each way out of the recursion.
use Rattle.std.proofs.Common.{◌≡◌, ℕ, ◌<◌, Some, None, sym, subst}
use Rattle.diagrams.specs.Diagrams.{Diagram, Held, Reduced}
use Rattle.diagrams.specs.Forming.{Wanted, Joined, NoRoom, Formed, Short}
use Rattle.diagrams.proofs.Wanted.{SameWanted, Splits}
use Rattle.diagrams.proofs.Forming.{formed_same, short_same, short_low, short_high, short_node, low_ready, high_ready, formed_node}
use Rattle.node_table.specs.declared.table.NodeTable.{NodeTable}
use Rattle.node_table.specs.Ordering.{InOrder, Grown, diagram_of}
use Rattle.node_table.proofs.Growths.{grown_self, grown_then}
use Rattle.node_answers.specs.declared.question.Question.{Question}
use Rattle.node_answers.specs.declared.remembered.Remembered.{Remembered}
use Rattle.node_answers.specs.Answers.{asked, Given, Right, Sound}
use Rattle.node_answers.proofs.Answers.{right_formed, sound_kept}
use Rattle.node_store.specs.declared.store.NodeStore.{NodeStore}
use Rattle.node_store.specs.Orders.{diagram, Ordered, Forms}
use Rattle.node_store.proofs.Simpler.{Covers, formed_covers, short_covers}

-- the nodes stay reduced, as a diagram of the same qubits
pub still_reduced : (s : NodeTable) (t : NodeTable) → Grown s t → InOrder t → Reduced s.qubits.number (diagram_of t)
still_reduced s t g o = subst (λ (n : ℕ). Reduced n (diagram_of t)) g.qubits o.reduced

-- the answer was there
pub forms_there : (s : NodeStore) (f : Wanted) (r : ℕ) → Ordered s → Formed (diagram s) (diagram s) f r → Forms s s f (Some r)
forms_there s f r o x = record { order = o; grown = grown_self s.nodes; outcome = x }

-- a function that looks at no more qubits was formed instead
pub forms_some : (s t : NodeStore) (f g : Wanted) (r : ℕ) → Covers f g → Forms s t f (Some r) → Forms s t g (Some r)
forms_some s t f g r c x = record { order = x.order; grown = x.grown; outcome = formed_covers (diagram s) (diagram t) f g r c x.outcome }

pub forms_none : (s t : NodeStore) (f g : Wanted) → Covers f g → Forms s t f None → Forms s t g None
forms_none s t f g c x = record { order = x.order; grown = x.grown; outcome = short_covers (diagram s) (diagram t) s.nodes.limit f g c x.outcome }

-- the answer of a question q in s, from those of its halves
module _ (s : NodeStore) (o : Ordered s) (q : Question) (given : Given (diagram s) q) (f0 f1 : Wanted) (m : ℕ) (w : Splits (asked (diagram s) q) f0 f1 m) where
  -- no room for the low half
  pub low_stops : (t : NodeStore) → Forms s t f0 None → Forms s t (asked (diagram s) q) None
  low_stops t x = record {
    order = x.order;
    grown = x.grown;
    outcome = short_low (asked (diagram s) q) f0 f1 m w (diagram s) (diagram t) s.nodes.limit x.outcome;
  }

  -- with the low half formed, and g, the high half as it is then
  module _ (t0 : NodeStore) (low : ℕ) (x0 : Forms s t0 f0 (Some low)) (g : Wanted) (same : SameWanted g f1) (t1 : NodeStore) where
    o0 : Reduced s.nodes.qubits.number (diagram t0)
    o0 = still_reduced s.nodes t0.nodes x0.grown x0.order.nodes

    -- no room for the high half
    pub high_stops : Forms t0 t1 g None → Forms s t1 (asked (diagram s) q) None
    high_stops x1 = record {
      order = x1.order;
      grown = grown_then s.nodes t0.nodes t1.nodes x0.grown x1.grown;
      outcome = short_high (asked (diagram s) q) f0 f1 m w s.nodes.qubits.number (diagram s) (diagram t0) (diagram t1) o0 x1.grown.keeps low x0.outcome s.nodes.limit
          (subst (λ (l : ℕ). Short (diagram t0) (diagram t1) l f1) x0.grown.limit (short_same (diagram t0) (diagram t1) t0.nodes.limit g f1 same x1.outcome));
    }

    -- with the high half formed
    module _ (high : ℕ) (x1 : Forms t0 t1 g (Some high)) where
      grown_both : Grown s.nodes t1.nodes
      grown_both = grown_then s.nodes t0.nodes t1.nodes x0.grown x1.grown

      o1 : Reduced s.nodes.qubits.number (diagram t1)
      o1 = still_reduced s.nodes t1.nodes grown_both x1.order.nodes

      formed_high : Formed (diagram t0) (diagram t1) f1 high
      formed_high = formed_same (diagram t0) (diagram t1) g f1 high same x1.outcome

      -- both halves may be joined
      pub low_there : Held (diagram t1) low × ((diagram t1).height low < m)
      low_there = low_ready (asked (diagram s) q) f0 f1 m w s.nodes.qubits.number (diagram s) (diagram t0) (diagram t1) o0 x1.grown.keeps low x0.outcome o1 high formed_high

      pub high_there : Held (diagram t1) high × ((diagram t1).height high < m)
      high_there = high_ready (asked (diagram s) q) f0 f1 m w s.nodes.qubits.number (diagram s) (diagram t0) (diagram t1) o0 x1.grown.keeps low x0.outcome o1 high formed_high

      module _ (u : NodeTable) (ou : InOrder u) (gu : Grown t1.nodes u) where
        grown_all : Grown s.nodes u
        grown_all = grown_then s.nodes t1.nodes u grown_both gu

        still_sound : Sound (diagram_of u) t1.remembered
        still_sound = sound_kept s.nodes.qubits.number (diagram t1) (diagram_of u) o1 gu.keeps t1.remembered x1.order.sound

        -- no room for the node itself
        pub node_stops : diagram_of u ≡ diagram t1 → NoRoom (diagram t1) t1.nodes.limit m low high → Forms s (record { nodes = u; remembered = t1.remembered }) (asked (diagram s) q) None
        node_stops e x = record {
          order = record { nodes = ou; sound = still_sound };
          grown = grown_all;
          outcome = subst (λ (d : Diagram). Short (diagram s) d s.nodes.limit (asked (diagram s) q)) (sym e)
              (short_node (asked (diagram s) q) f0 f1 m w s.nodes.qubits.number (diagram s) (diagram t0) (diagram t1) o0 x1.grown.keeps low x0.outcome o1 high formed_high s.nodes.limit
              (subst (λ (l : ℕ). NoRoom (diagram t1) l m low high) grown_both.limit x));
        }

        -- joined, and remembered
        module _ (r : ℕ) (j : Joined (diagram t1) (diagram_of u) m low high r) where
          formed_all : Formed (diagram s) (diagram_of u) (asked (diagram s) q) r
          formed_all = formed_node (asked (diagram s) q) f0 f1 m w s.nodes.qubits.number (diagram s) (diagram t0) (diagram t1) o0 x1.grown.keeps low x0.outcome o1 high formed_high (diagram_of u) gu.keeps r j

          right_all : Right (diagram_of u) q r
          right_all = right_formed s.nodes.qubits.number (diagram s) (diagram_of u) o.nodes.reduced (still_reduced s.nodes u grown_all ou) grown_all.keeps q r given formed_all

          pub node_joined : (memory : Remembered) → ((d : Diagram) → Sound d t1.remembered → Right d q r → Sound d memory) → Forms s (record { nodes = u; remembered = memory }) (asked (diagram s) q) (Some r)
          node_joined memory more = record {
            order = record { nodes = ou; sound = more (diagram_of u) still_sound right_all };
            grown = grown_all;
            outcome = formed_all;
          }
