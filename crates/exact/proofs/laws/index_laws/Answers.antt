use Rattle.exact.proofs.Indices.{number_below}
use Rattle.exact.proofs.Tables.{number_of_bits, bits_of_number, highest_first, listing_laws}
use Rattle.exact.proofs.laws.index_laws.Goals as goal

pub returns : goal.returns
returns c = record { below = number_below; number_of_bits = number_of_bits; bits_of_number = bits_of_number; highest_first = highest_first; truth_tables = listing_laws _; quadruples = listing_laws _ }
