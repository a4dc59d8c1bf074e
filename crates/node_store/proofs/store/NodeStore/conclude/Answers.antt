use Rattle.std.proofs.Common.{subst}
use Rattle.node_store.specs.Orders.{Tried}
use Rattle.node_store.proofs.Concluding.{concluded_some, concluded_none}
use Rattle.node_store.proofs.store.NodeStore.conclude.Goals as goal

pub returns-in-Some : goal.returns-in-Some
returns-in-Some c old f x = concluded_some old c.args.self.now f c.args.used c.in-Some.handle (subst (Tried old c.args.self.now f c.args.used) c.in-Some.is x)

pub returns-in-None : goal.returns-in-None
returns-in-None c old f x =
    concluded_none old c.args.self.now f c.args.used (subst (Tried old c.args.self.now f c.args.used) c.in-None.is x)
    c.undo.new.self c.undo.ensures.setting.qubits c.undo.ensures.setting.limit (c.undo.ensures.restored old.nodes x.order.nodes x.forms.grown x.since)
    c.forget.new.self c.forget.ensures.sound c.limit.result c.limit.ensures
