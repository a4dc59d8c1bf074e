use Rattle.functions.proofs.Values.{same_values}
use Rattle.functions.proofs.NamedRules.{combined_202, combined_150, combined_232, combined_128}
use Rattle.functions.proofs.laws.rule_laws.Goals as goal

pub returns : goal.returns
returns c = record { same_values = same_values; rule_202 = combined_202; rule_150 = combined_150; rule_232 = combined_232; rule_128 = combined_128 }
