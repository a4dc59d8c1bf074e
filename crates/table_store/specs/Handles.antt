-- What handles stand for: place p has the handle p + 2.
use Rattle.std.specs.Prelude.{ℕ, ◌-◌, Bool, true, false, cond, List, Some, None, Ok, Err, Option, Result, ◌==◌}
use Rattle.std.specs.List.{slice_get}
use Rattle.functions.specs.declared.faults.StoreFault.{StoreFault}
use Rattle.functions.specs.declared.faults.StoreFault.TheVariants.{NotHeld}
use Rattle.table_places.specs.Handles.{Content}
use Rattle.table_store.specs.declared.handles.Handle.{Handle}
use Rattle.table_store.specs.declared.handles.Handle.TheVariants.{Constant, Place}

-- whether a place is there and holds a function
unfoldable pub in_use : Option Content → Bool
in_use None = false
in_use (Some None) = false
in_use (Some (Some ws)) = true

-- what a handle stands for, or the refusal that it is not held
unfoldable pub handle_of : List Content → ℕ → Result Handle StoreFault
handle_of ps k =
    cond (k == 0) (Ok (Constant false))
    (cond (k == 1) (Ok (Constant true))
    (cond (in_use (slice_get ps (k - 2))) (Ok (Place (k - 2))) (Err (NotHeld k))))
