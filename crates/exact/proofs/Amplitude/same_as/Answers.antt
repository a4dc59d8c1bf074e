use Rattle.exact.proofs.Roots.{symmetric}
use Rattle.exact.proofs.Amplitude.same_as.Goals as goal

pub returns-else-self-other : goal.returns-else-self-other
returns-else-self-other c =
    let d = c.same_upwards-else-self-other.ensures in
    (λ e. symmetric c.args.other c.args.self (d.0 e), λ s. d.1 (symmetric c.args.self c.args.other s))
