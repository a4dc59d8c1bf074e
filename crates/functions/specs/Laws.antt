-- The laws of functions, of making them, and of their handles.
use Rattle.std.specs.Prelude.{◌≡◌, ℕ, ◌^◌, ◌≤◌, true, false, List, [], ◌∷◌, ◌++◌, length, Some}
use Rattle.exact.specs.Indices.{Index}
use Rattle.functions.specs.declared.faults.StoreFault.{StoreFault}
use Rattle.functions.specs.Tables.{Table, value_at, constant, combined, choice, parity, majority, conjunction}
use Rattle.functions.specs.Meanings.{Setting, SettingLaws, Meaning, Laws, qubits_of, under, constants_only, only_itself}
use Rattle.functions.specs.Growth.{Grew, Exceeds, Stopped}

pub record RuleLaws : Type 0 where
  -- functions of n qubits that have the same value at every index are equal
  pub same_values : (n : ℕ) (f g : Table) → length f ≡ 2 ^ n → length g ≡ 2 ^ n → ((x : Index) → length x ≡ n → value_at f x ≡ value_at g x) → f ≡ g
  pub rule_202 : (n : ℕ) (f g h : Table) → combined n 202 f g h ≡ choice n f g h
  pub rule_150 : (n : ℕ) (f g h : Table) → combined n 150 f g h ≡ parity n f g h
  pub rule_232 : (n : ℕ) (f g h : Table) → combined n 232 f g h ≡ majority n f g h
  pub rule_128 : (n : ℕ) (f g h : Table) → combined n 128 f g h ≡ conjunction n f g h

-- a plan and another after it make one plan, whether they are made or stopped
pub record PlanLaws : Type 0 where
  pub made_none : (v : Meaning) → Grew v v []
  pub made_both : (u v w : Meaning) (a b : List Table) → Grew u v a → Grew v w b → Grew u w (a ++ b)
  pub stopped_in_second : (u v w : Meaning) (e : StoreFault) (a b : List Table) → Grew u v a → Stopped v w b e → Stopped u w (a ++ b) e
  pub stopped_in_first : (v w : Meaning) (e : StoreFault) (a b : List Table) → Stopped v w a e → Stopped v w (a ++ b) e
  -- a plan is stopped exactly if it exceeds the limit
  pub stopped_exceeds : (v w : Meaning) (e : StoreFault) (fs : List Table) → Stopped v w fs e → Exceeds v fs
  pub made_fits : (v w : Meaning) (fs : List Table) → Grew v w fs → Laws w → Exceeds v fs → ⊥

pub record HandleLaws : Type 0 where
  pub zero : (m : Meaning) → under m 0 ≡ Some (constant (qubits_of m) false)
  pub one : (m : Meaning) → under m 1 ≡ Some (constant (qubits_of m) true)
  -- two held handles are equal exactly if their functions are
  pub same_function : (m : Meaning) (j k : ℕ) (f g : Table) → under m j ≡ Some f → under m k ≡ Some g → j ≡ k → f ≡ g
  pub same_handle : (m : Meaning) → Laws m → (j k : ℕ) (f g : Table) → under m j ≡ Some f → under m k ≡ Some g → f ≡ g → j ≡ k
  -- to make a function that has a handle changes nothing
  pub made_again : (m : Meaning) (k : ℕ) (f : Table) → Laws m → under m k ≡ Some f → Grew m m (f ∷ [])

pub record NewStoreLaws : Type 0 where
  -- a store that holds only the constants keeps the laws, if its setting does
  pub new_store : (s : Setting) → SettingLaws s → Laws (constants_only s)
  -- and there are such settings
  pub simplest : (n limit : ℕ) → 1 ≤ n → n ≤ 16 → SettingLaws (record { qubits = n; limit = limit; parts = only_itself n })
