use Rattle.std.proofs.Common.{rules}
use Rattle.gate_records.proofs.Opening.{narrowed_to_1, narrowed_to_0}
use Rattle.gate_records.proofs.narrow.Goals as goal

pub returns-then-bit-clause-narrowed : goal.returns-then-bit-clause-narrowed
returns-then-bit-clause-narrowed g c = search (rules, narrowed_to_1)

pub returns-else-bit-clause-narrowed : goal.returns-else-bit-clause-narrowed
returns-else-bit-clause-narrowed g c = search (rules, narrowed_to_0)
