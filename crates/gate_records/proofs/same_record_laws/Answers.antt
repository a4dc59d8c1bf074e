use Rattle.gate_records.proofs.Comparing.{same_record_law}
use Rattle.gate_records.proofs.same_record_laws.Goals as goal

pub returns : goal.returns
returns c = same_record_law
