use Rattle.exact.proofs.Shares.{rounded, only}
use Rattle.exact.proofs.laws.share_laws.Goals as goal

pub returns : goal.returns
returns c = record { rounded = rounded; only = only }
