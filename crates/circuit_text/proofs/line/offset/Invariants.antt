use Rattle.std.proofs.Common.{◌≡◌, ◌+◌, ◌-◌, ◌≤◌, length}
use Rattle.circuit_text.specs.Columns.{after_spaces}
use Rattle.circuit_text.proofs.line.offset.Given as goal

abbrev pub invariant-loop : goal.invariant-loop
invariant-loop l = record {
  within : length l.rest ≤ length l.bytes;
  passed : after_spaces l.nth l.bytes + length l.rest ≡ length l.bytes + after_spaces (l.nth - l.counter) l.rest;
}
