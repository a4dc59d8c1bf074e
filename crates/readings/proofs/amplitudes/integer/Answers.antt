use Rattle.std.proofs.Common.{[], ◌∙◌, arith}
use Rattle.readings.proofs.Adding.{running_none, running_more, at_most, total_within}
use Rattle.readings.proofs.Bounds.{small_in_32, read_back_32}
use Rattle.readings.proofs.Numbers.{byte_is, byte_within, reading_none, reading_more, integer_read}
use Rattle.readings.proofs.amplitudes.integer.Goals as goal

pub loop-slice-init : goal.loop-slice-init
loop-slice-init g c = ([], running_none 1 _ c.new-bits.ensures, reading_none _ _ _)

pub add-requires-clause-few : goal.add-requires-clause-few
add-requires-clause-few g c = at_most 1 _ _ _ c.loop-slice.invariant.1 21 (omega arith) (omega arith)

pub loop-slice-preserved : goal.loop-slice-preserved
loop-slice-preserved g c = (
  _,
  running_more 1 _ _ _ c.loop-slice.invariant.1 _ _ (byte_within c.in_ok-value.field-0 _ c.into.ensures) c.add.ensures,
  reading_more _ _ _ _ _ (omega arith) _ _ c.loop-slice.invariant.2 c.in_ok-value.ensures (byte_is c.in_ok-value.field-0 _ c.into.ensures),
)

pub total-requires : goal.total-requires
total-requires g c = at_most 1 _ _ _ c.loop-slice.invariant.1 22 (omega arith) (omega arith)

pub overflow_cast-result : goal.overflow_cast-result
overflow_cast-result g c = small_in_32 _ (total_within 1 _ _ _ c.loop-slice.invariant.1 _ (omega arith) c.total.ensures)

pub returns : goal.returns
returns g c =
    let h = total_within 1 _ _ _ c.loop-slice.invariant.1 _ (omega arith) c.total.ensures in
    integer_read _ _ _ c.loop-slice.invariant.0 c.loop-slice.slice-index _ c.args.slices.some (omega arith) c.loop-slice.invariant.2 (read_back_32 _ h ∙ c.total.ensures _ c.loop-slice.invariant.1.sums)
