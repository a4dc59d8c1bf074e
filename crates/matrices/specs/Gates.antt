-- The table of the gates' matrices. A further gate is a further row.
use Rattle.std.specs.Prelude.{ℕ, Bool, List, [], ◌∷◌, slice_index_or}
use Rattle.exact.specs.declared.Quadruple.{Quadruple}
use Rattle.exact.specs.declared.RootTwoPower.{RootTwoPower}
use Rattle.exact.specs.Indices.{number}
use Rattle.exact.specs.Quadruples.{zero_quadruple, times_power_of_ω}
use Rattle.exact.specs.States.{root_two_power}
use Rattle.gates.specs.declared.Gate.{Gate}
use Rattle.gates.specs.declared.Gate.TheVariants.{X, Z, H, S, T, Rx, Ry, Cx, Cz, Ccx}

-- an entry is 0 or a power of ω
pub data Entry : Type 0 where
  nought : Entry
  ω_to : ℕ → Entry

-- 0, 1, ω, i, −1 and −i
abbrev pub O : Entry
O = nought

abbrev pub I : Entry
I = ω_to 0

abbrev pub ω : Entry
ω = ω_to 1

abbrev pub i : Entry
i = ω_to 2

abbrev pub −I : Entry
−I = ω_to 4

abbrev pub −i : Entry
−i = ω_to 6

-- the entries, row by row, all of them divided by √2 as often as `power` says
pub record GateMatrix : Type 0 where
  pub power : RootTwoPower
  pub rows : List (List Entry)

-- lists of two, four and eight
abbrev pub two : {A : Type 0} → A → A → List A
two a b = a ∷ b ∷ []

abbrev pub four : {A : Type 0} → A → A → A → A → List A
four a b c d = a ∷ b ∷ c ∷ d ∷ []

abbrev pub eight : {A : Type 0} → A → A → A → A → A → A → A → A → List A
eight a b c d e f g h = a ∷ b ∷ c ∷ d ∷ e ∷ f ∷ g ∷ h ∷ []

-- the rows, divided k times by √2
abbrev pub over_power : ℕ → List (List Entry) → GateMatrix
over_power k rows = record { power = root_two_power k; rows = rows }

-- x flips a qubit, z and s and t turn its phase by π, π/2 and π/4, h is Hadamard's, rx and ry rotate by π/2; the last three
-- apply x, z and x to their last qubit where all the others are 1
abbrev pub gate_matrix : Gate → GateMatrix
gate_matrix X = over_power 0 (two
    (two O I)
    (two I O))
gate_matrix Z = over_power 0 (two
    (two I O)
    (two O −I))
gate_matrix H = over_power 1 (two
    (two I I)
    (two I −I))
gate_matrix S = over_power 0 (two
    (two I O)
    (two O i))
gate_matrix T = over_power 0 (two
    (two I O)
    (two O ω))
gate_matrix Rx = over_power 1 (two
    (two I −i)
    (two −i I))
gate_matrix Ry = over_power 1 (two
    (two I −I)
    (two I I))
gate_matrix Cx = over_power 0 (four
    (four I O O O)
    (four O I O O)
    (four O O O I)
    (four O O I O))
gate_matrix Cz = over_power 0 (four
    (four I O O O)
    (four O I O O)
    (four O O I O)
    (four O O O −I))
gate_matrix Ccx = over_power 0 (eight
    (eight I O O O O O O O)
    (eight O I O O O O O O)
    (eight O O I O O O O O)
    (eight O O O I O O O O)
    (eight O O O O I O O O)
    (eight O O O O O I O O)
    (eight O O O O O O O I)
    (eight O O O O O O I O))

-- how often the gate's matrix is divided by √2
abbrev pub power_of : Gate → RootTwoPower
power_of g = (gate_matrix g).power

-- the entry at a row and a column, each a setting of the gate's qubits, the first named qubit first
unfoldable pub entry : Gate → List Bool → List Bool → Entry
entry g row column = slice_index_or (slice_index_or (gate_matrix g).rows (number row) []) (number column) nought

abbrev pub times_entry : Entry → Quadruple → Quadruple
times_entry nought q = zero_quadruple
times_entry (ω_to k) q = times_power_of_ω k q
