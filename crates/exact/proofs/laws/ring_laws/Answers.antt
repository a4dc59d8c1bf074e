use Rattle.exact.proofs.Expressions.{commutes, associates, distributes, one_times}
use Rattle.exact.proofs.Roots.{by_ω, by-√2}
use Rattle.exact.proofs.laws.ring_laws.Goals as goal

pub returns : goal.returns
returns c = record { commutes = commutes; associates = associates; distributes = distributes; one = one_times; by_ω = by_ω; by-√2 = by-√2 }
