-- What a function store means, and the laws of every store in order.
use Rattle.std.specs.Prelude.{◌≡◌, ℕ, ◌^◌, ◌<◌, ◌≤◌, Bool, true, false, cond, List, [], ◌∷◌, length, Some, None, Option, ◌==◌}
use Rattle.functions.specs.Tables.{Table, constant}
use Rattle.functions.specs.Sets.{among, is_constant, space}

-- What no call changes: the number of qubits, the limit, and the rule that names a function's parts, the functions that
-- must be held for it.
pub record Setting : Type 0 where
  pub qubits : ℕ
  pub limit : ℕ
  pub parts : Table → List Table

-- The setting, and the functions held, each with its handle. The constants are held besides, as handles 0 and 1.
pub record Meaning : Type 0 where
  pub setting : Setting
  pub entries : List (ℕ × Table)

abbrev pub qubits_of : Meaning → ℕ
qubits_of m = m.setting.qubits

-- the function with the handle k in a list of entries
unfoldable pub entry : List (ℕ × Table) → ℕ → Option Table
entry [] k = None
entry (e ∷ es) k = cond (k == e.0) (Some e.1) (entry es k)

-- the function held under the handle k
unfoldable pub under : Meaning → ℕ → Option Table
under m k = cond (k == 0) (Some (constant (qubits_of m) false)) (cond (k == 1) (Some (constant (qubits_of m) true)) (entry m.entries k))

-- the functions of a list of entries
unfoldable pub functions_of : List (ℕ × Table) → List Table
functions_of [] = []
functions_of (e ∷ es) = e.1 ∷ functions_of es

-- the functions held, besides the constants
unfoldable pub held : Meaning → List Table
held m = functions_of m.entries

-- f is held, besides the constants
abbrev pub Holds : Meaning → Table → Type 0
Holds m f = among f (held m) ≡ true

-- g is a part of f
abbrev pub Part : Setting → Table → Table → Type 0
Part s g f = among g (s.parts f) ≡ true

-- The laws of what no call changes.
pub record SettingLaws (s : Setting) : Type 0 where
  -- from 1 to 16 qubits
  pub some_qubits : 1 ≤ s.qubits
  pub few_qubits : s.qubits ≤ 16
  -- a function that is not constant is one of its own parts, a constant has none, and a part of a part is a part
  pub own_part : (f : Table) → length f ≡ 2 ^ s.qubits → is_constant s.qubits f ≡ false → Part s f f
  pub no_part : (b : Bool) → s.parts (constant s.qubits b) ≡ []
  pub part_of_part : (f g h : Table) → Part s g f → Part s h g → Part s h f

-- The laws of every store in order.
pub record Laws (m : Meaning) : Type 0 where
  pub setting : SettingLaws m.setting
  -- a handle is a u32, and stands for a function of n qubits
  pub handle_fits : (k : ℕ) (f : Table) → under m k ≡ Some f → k < 2 ^ 32
  pub of_qubits : (k : ℕ) (f : Table) → under m k ≡ Some f → length f ≡ 2 ^ qubits_of m
  -- a function that is held is held under a handle, and under one only
  pub has_handle : (f : Table) → Holds m f → (k : ℕ) × (under m k ≡ Some f)
  pub one_handle : (j k : ℕ) (f : Table) → under m j ≡ Some f → under m k ≡ Some f → j ≡ k
  -- the parts of what is held are held, within the limit
  pub parts_held : (f g : Table) → Holds m f → Part m.setting g f → Holds m g
  pub within_limit : space (qubits_of m) (held m) ≤ m.setting.limit

-- a store that holds only the constants
abbrev pub constants_only : Setting → Meaning
constants_only s = record { setting = s; entries = [] }

-- the simplest rule of parts: a function that is not constant is its only part
unfoldable pub only_itself : ℕ → Table → List Table
only_itself n f = cond (is_constant n f) [] (f ∷ [])
