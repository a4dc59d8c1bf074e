use Rattle.std.proofs.Common.{rules}
use Rattle.records.proofs.Recording.{trimmed_high, trimmed_wide, trimmed_done}
use Rattle.records.proofs.record.Record.trimmed.Goals as goal

pub returns-then-power-gt40 : goal.returns-then-power-gt40
returns-then-power-gt40 c = search (rules, trimmed_high)

pub returns-then-width-gt22 : goal.returns-then-width-gt22
returns-then-width-gt22 c = search (rules, trimmed_wide)

pub returns : goal.returns
returns c = search (rules, trimmed_done)
