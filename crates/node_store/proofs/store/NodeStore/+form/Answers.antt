use Rattle.node_store.specs.Orders.{diagram}
use Rattle.node_store.proofs.Steps.{forms_there, forms_some}
use Rattle.node_store.proofs.Halving.{Begun, simplest_covers, simplest_given, simplest_positive, formed_at_once, some_height, lows_given, lows_fall, no_lows, highs_given_then, highs_fall, no_highs, low_joins, high_joins, height_joins, no_node, a_node}
use Rattle.node_store.proofs.store.NodeStore.+form.Goals as goal

pub at_once-requires : goal.at_once-requires
at_once-requires t c = simplest_positive c.args.question _ c.simplest-simple.ensures c.requires.positive

-- the answer is there
pub returns-in-Some : goal.returns-in-Some
returns-in-Some t c =
    let s = c.args.self.now in
    let o = c.requires.order.nodes.reduced in
    let e = c.simplest-simple.ensures in
    forms_some s s _ _ c.in-Some.r (simplest_covers s.nodes.qubits.number (diagram s) o c.args.question _ e)
    (forms_there s _ c.in-Some.r c.requires.order
    (formed_at_once s.nodes.qubits.number (diagram s) o _ c.in-Some.r (simplest_given s.nodes.qubits.number (diagram s) o c.args.question _ e c.requires.held) (simplest_positive c.args.question _ e c.requires.positive) c.in-Some.ensures))

pub returns-in-Some-recall : goal.returns-in-Some-recall
returns-in-Some-recall t c =
    let s = c.args.self.now in
    forms_some s s _ _ c.in-Some-recall.r (simplest_covers s.nodes.qubits.number (diagram s) c.requires.order.nodes.reduced c.args.question _ c.simplest-simple.ensures)
    (forms_there s _ c.in-Some-recall.r c.requires.order (c.in-Some-recall.ensures.right (diagram s) c.requires.order.sound).formed)

pub halved-lows-requires : goal.halved-lows-requires
halved-lows-requires t c =
    let b : Begun c.args.self.now c.args.question c.simplest-simple.result c.highest-height.result = record { order = c.requires.order; held = c.requires.held; positive = c.requires.positive; simplest = c.simplest-simple.ensures; unanswered = c.in_default.ensures; highest = c.highest-height.ensures } in
    some_height _ _ _ _ b

-- the low half
pub form-requires : goal.form-requires
form-requires t c =
    let b : Begun c.args.self.now c.args.question c.simplest-simple.result c.highest-height.result = record { order = c.requires.order; held = c.requires.held; positive = c.requires.positive; simplest = c.simplest-simple.ensures; unanswered = c.in_default.ensures; highest = c.highest-height.ensures } in
    (lows_fall _ _ _ _ b _ _ c.halved-lows.ensures.low c.halved-lows.ensures.high t c.decreases, (c.requires.order, lows_given _ _ _ _ b _ _ c.halved-lows.ensures.low c.halved-lows.ensures.high))

pub returns-in_err-low : goal.returns-in_err-low
returns-in_err-low t c =
    let b : Begun c.args.self.now c.args.question c.simplest-simple.result c.highest-height.result = record { order = c.requires.order; held = c.requires.held; positive = c.requires.positive; simplest = c.simplest-simple.ensures; unanswered = c.in_default.ensures; highest = c.highest-height.ensures } in
    rw c.from_residual.ensures (no_lows _ _ _ _ b _ _ c.halved-lows.ensures.low c.halved-lows.ensures.high c.form.new.self c.in_err-low.ensures)

-- the high half
pub form-requires-2 : goal.form-requires-2
form-requires-2 t c =
    let b : Begun c.args.self.now c.args.question c.simplest-simple.result c.highest-height.result = record { order = c.requires.order; held = c.requires.held; positive = c.requires.positive; simplest = c.simplest-simple.ensures; unanswered = c.in_default.ensures; highest = c.highest-height.ensures } in
    (highs_fall _ _ _ _ b _ _ c.halved-lows.ensures.low c.halved-lows.ensures.high c.form.new.self _ c.in_ok-low.ensures t c.decreases, (c.in_ok-low.ensures.order, highs_given_then _ _ _ _ b _ _ c.halved-lows.ensures.low c.halved-lows.ensures.high c.form.new.self _ c.in_ok-low.ensures))

pub returns-in_err-high : goal.returns-in_err-high
returns-in_err-high t c =
    let b : Begun c.args.self.now c.args.question c.simplest-simple.result c.highest-height.result = record { order = c.requires.order; held = c.requires.held; positive = c.requires.positive; simplest = c.simplest-simple.ensures; unanswered = c.in_default.ensures; highest = c.highest-height.ensures } in
    rw c.from_residual-in_err-high.ensures (no_highs _ _ _ _ b _ _ c.halved-lows.ensures.low c.halved-lows.ensures.high c.form.new.self _ c.in_ok-low.ensures c.form-2.new.self c.in_err-high.ensures)

-- the node
pub join-requires : goal.join-requires
join-requires t c =
    let b : Begun c.args.self.now c.args.question c.simplest-simple.result c.highest-height.result = record { order = c.requires.order; held = c.requires.held; positive = c.requires.positive; simplest = c.simplest-simple.ensures; unanswered = c.in_default.ensures; highest = c.highest-height.ensures } in
    record {
      order = c.in_ok-high.ensures.order.nodes;
      level = height_joins _ _ _ _ b _ _ c.halved-lows.ensures.low c.halved-lows.ensures.high c.form.new.self _ c.in_ok-low.ensures c.form-2.new.self _ c.in_ok-high.ensures;
      lows = low_joins _ _ _ _ b _ _ c.halved-lows.ensures.low c.halved-lows.ensures.high c.form.new.self _ c.in_ok-low.ensures c.form-2.new.self _ c.in_ok-high.ensures;
      highs = high_joins _ _ _ _ b _ _ c.halved-lows.ensures.low c.halved-lows.ensures.high c.form.new.self _ c.in_ok-low.ensures c.form-2.new.self _ c.in_ok-high.ensures;
    }

pub returns-in_err-r : goal.returns-in_err-r
returns-in_err-r t c =
    let b : Begun c.args.self.now c.args.question c.simplest-simple.result c.highest-height.result = record { order = c.requires.order; held = c.requires.held; positive = c.requires.positive; simplest = c.simplest-simple.ensures; unanswered = c.in_default.ensures; highest = c.highest-height.ensures } in
    let j = c.in_err-r.ensures in
    rw c.from_residual-in_err-r.ensures (no_node _ _ _ _ b _ _ c.halved-lows.ensures.low c.halved-lows.ensures.high c.form.new.self _ c.in_ok-low.ensures c.form-2.new.self _ c.in_ok-high.ensures c.join.new.self j.order j.grown j.joined.0 j.joined.1)

pub returns : goal.returns
returns t c =
    let b : Begun c.args.self.now c.args.question c.simplest-simple.result c.highest-height.result = record { order = c.requires.order; held = c.requires.held; positive = c.requires.positive; simplest = c.simplest-simple.ensures; unanswered = c.in_default.ensures; highest = c.highest-height.ensures } in
    let j = c.in_ok-r.ensures in
    a_node _ _ _ _ b _ _ c.halved-lows.ensures.low c.halved-lows.ensures.high c.form.new.self _ c.in_ok-low.ensures c.form-2.new.self _ c.in_ok-high.ensures c.join.new.self j.order j.grown c.in_ok-r.r j.joined c.remember.new.self c.remember.ensures.sound
