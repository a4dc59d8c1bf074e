use Rattle.std.proofs.Common.{w32, rules}
use Rattle.std.proofs.lemmas.Int.{to_z-of_z}
use Rattle.readings.proofs.Numbers.{quadruple_read}
use Rattle.readings.proofs.amplitudes.quadruple.Goals as goal

pub returns : goal.returns
returns g c =
    quadruple_read _ _ _ _ _ _ _ _ _ _ _
    (to_z-of_z w32 c.in_ok-a.a (search rules)) (to_z-of_z w32 c.in_ok-b.b (search rules)) (to_z-of_z w32 c.in_ok-c.c (search rules)) (to_z-of_z w32 c.in_ok-d.d (search rules))
    c.in_ok-a.ensures c.in_ok-b.ensures c.in_ok-c.ensures c.in_ok-d.ensures
