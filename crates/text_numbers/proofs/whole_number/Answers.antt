use Rattle.std.proofs.Common.{None, rules}
use Rattle.text_numbers.proofs.Decimal.{reads_number}
use Rattle.text_numbers.proofs.whole_number.Goals as goal

pub returns-then-well_formed-clause-reads : goal.returns-then-well_formed-clause-reads
returns-then-well_formed-clause-reads c = reads_number _ _ (search rules)

pub returns-else-well_formed-clause-reads : goal.returns-else-well_formed-clause-reads
returns-else-well_formed-clause-reads c = reads_number _ None (search rules)
