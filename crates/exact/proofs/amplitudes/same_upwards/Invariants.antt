use Rattle.std.proofs.Common.{◌≡◌, ◌-◌}
use Rattle.exact.specs.Quadruples.{times_power_of_√2}
use Rattle.exact.proofs.amplitudes.same_upwards.Given as goal

abbrev pub invariant-loop-power : goal.invariant-loop-power
invariant-loop-power l = times_power_of_√2 (l._power - l.low.power.0) l.quadruple ≡ l.initial.quadruple
