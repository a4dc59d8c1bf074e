use Rattle.std.proofs.Common.{rules}
use Rattle.exact.proofs.Halves.{both_even}
use Rattle.exact.proofs.Quadruple.over_root_two.Goals as goal

pub returns : goal.returns
returns c =
    both_even c.args.self c.in_ok-ac.ac c.in_ok-bd.bd
    (record { a = search rules; b = search rules; c = search rules; d = search rules })
    (search rules) (search rules) c.in_ok-ac.ensures c.in_ok-bd.ensures
