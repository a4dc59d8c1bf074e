-- All definitions that a run of the plain machine computes by, under one name.
use Rattle.std.proofs.Common.{ℕ}
use Rattle.recipes.proofs.Computing.{a_plan}
use Rattle.diagrams.specs.Parts.{with_first, first_fixed, prefix_parts}
use Rattle.plain.specs.Registers.{opened_at, gated, led_through, slices_of}
use Rattle.plain.specs.Calls.{first_qubits}
use Rattle.plain.specs.Refusals.{fault_if, first_that, among, first_repeated, space_needed, of_any, no_space, power_too_high, too_wide, rows, first_fault, refusal}
use Rattle.plain.specs.Runs.{effect, same_quadruples, same_state, reply, step_by, step, after, answers}

unfoldable pub a_run : ℕ
unfolding a_plan with_first first_fixed prefix_parts opened_at gated led_through slices_of first_qubits fault_if first_that among first_repeated space_needed of_any no_space power_too_high too_wide rows first_fault refusal effect same_quadruples same_state reply step_by step after answers
a_run = 0
