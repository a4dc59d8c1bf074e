-- The registers of the plain machine, 0 to 3. Each is empty or open.
use Rattle.std.specs.Prelude.{ℕ, Bool, true, false, List, [], ◌∷◌, ◌++◌, Some, None, Option, slice_index_or}
use Rattle.exact.specs.Indices.{Index}
use Rattle.exact.specs.States.{State, state, normal_form}
use Rattle.functions.specs.Tables.{Table}
use Rattle.matrices.specs.Registers.{Move, moved, opened}
use Rattle.recipes.specs.Plans.{slices_of_state}

-- what an open register contains: its state, the index that it was opened at, and the gates that it was led through since,
-- the earliest first
pub record Contents : Type 0 where
  pub state : State
  pub opening : Index
  pub moves : List Move

abbrev pub Register : Type 0
Register = Option Contents

abbrev pub Registers : Type 0
Registers = List Register

abbrev pub all_empty : Registers
all_empty = None ∷ None ∷ None ∷ None ∷ []

-- register r; above 3 there is none, and it counts as empty
abbrev pub register_of : Registers → ℕ → Register
register_of rs r = slice_index_or rs r None

abbrev pub is_open : Register → Bool
is_open None = false
is_open (Some c) = true

-- the state of an open register; an empty one has no amplitudes
abbrev pub state_of : Register → State
state_of None = state 0 []
state_of (Some c) = c.state

-- a register of n qubits opened at an index
unfoldable pub opened_at : ℕ → Index → Register
opened_at n x = Some (record { state = opened n x; opening = x; moves = [] })

-- a gate applied to a state, and the result brought to normal form
unfoldable pub gated : ℕ → Move → State → State
gated n m s = normal_form (moved n m s)

-- a gate applied to an open register
unfoldable pub led_through : ℕ → Move → Register → Register
led_through n m None = None
led_through n m (Some c) = Some (record { state = gated n m c.state; opening = c.opening; moves = c.moves ++ (m ∷ []) })

-- the slices of all open registers
unfoldable pub slices_of : ℕ → Registers → List Table
slices_of n [] = []
slices_of n (None ∷ rs) = slices_of n rs
slices_of n (Some c ∷ rs) = slices_of_state n c.state ++ slices_of n rs
