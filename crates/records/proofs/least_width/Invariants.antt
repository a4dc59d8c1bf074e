use Rattle.std.proofs.Common.{◌≤◌}
use Rattle.records.proofs.Widths.{Trimming}
use Rattle.records.proofs.least_width.Given as goal

abbrev pub invariant-loop-top : goal.invariant-loop-top
invariant-loop-top l = (1 ≤ l.top) × Trimming l.columns l.top
