use Rattle.std.proofs.Common.{rules}
use Rattle.records.proofs.Recording.{widened}
use Rattle.records.proofs.record.Record.columns.Goals as goal

pub returns : goal.returns
returns c = search (rules, widened)
