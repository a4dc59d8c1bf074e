-- All definitions that a plan computes by, under one name.
use Rattle.std.proofs.Common.{ℕ}
use Rattle.functions.specs.Tables.{constant, literal, fixed, choice, parity, majority, conjunction}
use Rattle.functions.specs.Sets.{among, is_constant, without_constants, different, space, parts_of_all}
use Rattle.functions.specs.Meanings.{only_itself}
use Rattle.adder.specs.Slices.{turned, slice_sum, next_carry, slice_plan}
use Rattle.matrices.proofs.Computing.{a_register}
use Rattle.slicing.specs.TwosComplement.{signed_bits, repeated}
use Rattle.slicing.specs.Columns.{slice, column_of, columns_of}
use Rattle.slicing.specs.Operations.{negation, both, zero_column, fixed_column, chosen_column, flipped_column, flip_plan, sums_from, sums_plan, added, addition_plan}
use Rattle.slicing.specs.Divisions.{lowest_odd_sum, odd_a_c, odd_b_d, divisible, summed, summed_plan, divided, reduction_plan}
use Rattle.slicing.specs.Products.{outcome_half, outcome_plan, row_plan, products_plan, squares_plan}
use Rattle.recipes.specs.Recipes.{target, controls, product_of_literals, operand_column, first_carry, term_column, controls_product, new_columns}
use Rattle.recipes.specs.Plans.{columns_of_state, slices_of_state, narrowed, opening_from, opening_plan, literals_plan, operand_plan, term_plan, move_plan, gate_plan, weight_plan}

unfoldable pub a_plan : ℕ
unfolding a_register constant literal fixed choice parity majority conjunction among is_constant without_constants different space parts_of_all only_itself turned slice_sum next_carry slice_plan signed_bits repeated slice column_of columns_of negation both zero_column fixed_column chosen_column flipped_column flip_plan sums_from sums_plan added addition_plan lowest_odd_sum odd_a_c odd_b_d divisible summed summed_plan divided reduction_plan outcome_half outcome_plan row_plan products_plan squares_plan target controls product_of_literals operand_column first_carry term_column controls_product new_columns columns_of_state slices_of_state narrowed opening_from opening_plan literals_plan operand_plan term_plan move_plan gate_plan weight_plan
a_plan = 0
