use Rattle.exact.proofs.NormalForms.{reached, lower, same, unique, equal_then_same, same_then_equal}
use Rattle.exact.proofs.laws.normal_form_laws.Goals as goal

pub returns : goal.returns
returns c = record { reached = reached; lower = lower; same = same; unique = unique; equal_then_same = equal_then_same; same_then_equal = same_then_equal }
