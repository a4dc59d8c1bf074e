use Rattle.recipes.proofs.Openings.{product_is, opened_width, opened_columns_are}
use Rattle.recipes.proofs.laws.opening_laws.Goals as goal

pub returns : goal.returns
returns c = record { product = product_is; width_is = opened_width; columns = opened_columns_are }
