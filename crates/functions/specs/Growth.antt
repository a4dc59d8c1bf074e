-- Making functions: what a store holds afterwards, and when there is no space for them. A list of functions to be made,
-- in their order, is called a plan.
use Rattle.std.specs.Prelude.{◌≡◌, ℕ, ◌<◌, ◌||◌, List, [], ◌∷◌, ◌++◌, map, Some, Ok, Err, Result}
use Rattle.functions.specs.declared.faults.StoreFault.{StoreFault}
use Rattle.functions.specs.declared.faults.StoreFault.TheVariants.{NoSpace}
use Rattle.functions.specs.Tables.{Table}
use Rattle.functions.specs.Sets.{among, space, parts_of_all}
use Rattle.functions.specs.Meanings.{Meaning, qubits_of, under, held}

-- The functions of a plan were made: held are those before and the parts of the plan, and earlier handles stand for what
-- they stood for.
pub record Grew (v w : Meaning) (fs : List Table) : Type 0 where
  pub setting : w.setting ≡ v.setting
  pub keeps : (k : ℕ) (f : Table) → under v k ≡ Some f → under w k ≡ Some f
  pub holds : (g : Table) → among g (held w) ≡ (among g (held v) || among g (parts_of_all v.setting.parts fs))

-- what is held and the parts of a plan
unfoldable pub with_parts : Meaning → List Table → List Table
with_parts v fs = held v ++ parts_of_all v.setting.parts fs

-- The different functions, constants apart, among what is held and the parts of the plan outnumber the limit.
unfoldable pub Exceeds : Meaning → List Table → Type 0
Exceeds v fs = v.setting.limit < space (qubits_of v) (with_parts v fs)

-- A plan that exceeds the limit was made as far as it fits: up to the first function that exceeds it.
pub record Stopped (v w : Meaning) (fs : List Table) (e : StoreFault) : Type 0 where
  pub made : List Table
  pub next : Table
  pub rest : List Table
  pub plan : fs ≡ made ++ (next ∷ rest)
  pub grew : Grew v w made
  pub exceeds : Exceeds v (made ++ (next ∷ []))
  pub fault : e ≡ NoSpace v.setting.limit

-- A plan was made, and P holds of the answer; or it was stopped by the limit.
unfoldable pub Built : {X : Type 0} → Meaning → Meaning → List Table → Result X StoreFault → (X → Type 0) → Type 0
Built v w fs (Ok x) P = Grew v w fs × P x
Built v w fs (Err e) P = Stopped v w fs e

-- The handles stand for the functions, in their order.
unfoldable pub StandFor : Meaning → List ℕ → List Table → Type 0
StandFor v ks fs = map (under v) ks ≡ map Some fs
