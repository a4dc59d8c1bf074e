-- All definitions that a register computes by, under one name.
use Rattle.std.proofs.Common.{ℕ}
use Rattle.exact.specs.Indices.{number, bits, listing, total, at_index, bits_at, with_setting, same_index}
use Rattle.exact.specs.States.{some_odd_sum, reduced, bits_within, width}
use Rattle.exact.specs.Squares.{sum_of_squares}
use Rattle.matrices.specs.Gates.{entry}
use Rattle.matrices.specs.Registers.{new_at, applied, moved, opened, led}

unfoldable pub a_register : ℕ
unfolding number bits listing total at_index bits_at with_setting same_index some_odd_sum reduced bits_within width sum_of_squares entry new_at applied moved opened led
a_register = 0
