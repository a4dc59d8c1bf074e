-- Columns of handles that stand for slices.
use Rattle.std.proofs.Common.{◌≡◌, ℕ, List, length, refl}
use Rattle.functions.specs.Tables.{Table}
use Rattle.functions.specs.Meanings.{Meaning}
use Rattle.functions.specs.Growth.{Grew}
use Rattle.functions.proofs.Handles.{stand_for_keeps}
use Rattle.slicing.specs.declared.Component.{Component}
use Rattle.slicing.specs.declared.Component.TheVariants.{A, B, C, D}
use Rattle.slicing.specs.Columns.{Columns as Four}
use Rattle.columns.specs.declared.four.Columns.{Columns}
use Rattle.columns.specs.Columns.{handles_of, AllStand}

-- all four columns have as many slices as the first
pub as_many : {N : ℕ} (hs : Columns N) (k : Component) → length (handles_of hs k) ≡ length hs.a
as_many hs A = refl
as_many hs B = hs.level.0
as_many hs C = hs.level.1
as_many hs D = hs.level.2

pub all_keep : {N : ℕ} (v w : Meaning) (fs : List Table) → Grew v w fs → (hs : Columns N) (x : Four) → AllStand v hs x → AllStand w hs x
unfolding AllStand
all_keep v w fs g hs x h k = stand_for_keeps v w fs g (handles_of hs k) (x k) (h k)
