use Rattle.std.proofs.Common.{rules}
use Rattle.columns.proofs.Places.{repeated_push}
use Rattle.columns.proofs.column.Column.repeat_top.Goals as goal

pub returns : goal.returns
returns g c = search (rules, repeated_push)
