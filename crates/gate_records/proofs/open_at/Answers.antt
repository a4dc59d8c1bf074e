use Rattle.std.proofs.Common.{rules}
use Rattle.gate_records.proofs.Opening.{open_stopped, open_done}
use Rattle.gate_records.proofs.open_at.Goals as goal

pub returns-in_err-product-clause-opened : goal.returns-in_err-product-clause-opened
returns-in_err-product-clause-opened g c = search (rules, open_stopped)

pub returns-clause-opened : goal.returns-clause-opened
returns-clause-opened g c = search (rules, open_done)
