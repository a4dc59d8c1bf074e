use Rattle.recipes.proofs.Applied.{applied_stands, moved_stands, moved_power_is, moved_width, moved_columns_are}
use Rattle.recipes.proofs.laws.recipe_laws.Goals as goal

pub returns : goal.returns
returns c = record { applies = applied_stands; reduces = moved_stands; power = moved_power_is; width_is = moved_width; columns = moved_columns_are }
