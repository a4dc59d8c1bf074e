use Rattle.node_answers.specs.Answers.{asked}
use Rattle.node_store.specs.Orders.{diagram}
use Rattle.node_store.proofs.store.NodeStore.+form.Given as goal

abbrev pub decreases-form : goal.decreases-form
decreases-form l = (asked (diagram l.self.now) l.question).least
