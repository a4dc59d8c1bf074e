use Rattle.records.proofs.Equality.{told_same}
use Rattle.records.proofs.record.Record.same.Goals as goal

pub returns : goal.returns
returns c = told_same c.args.self.now c.args.other.now c.eq.result c.eq.ensures
