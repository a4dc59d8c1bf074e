-- What each call of a function store answers, and what the store means afterwards.
use Rattle.std.specs.Prelude.{◌≡◌, ℕ, ◌^◌, Bool, cond, List, [], ◌∷◌, Some, None, Ok, Err, Option, Result, nat_lt}
use Rattle.exact.specs.Indices.{bits}
use Rattle.exact.specs.declared.Qubit.{Qubit}
use Rattle.functions.specs.declared.faults.StoreFault.{StoreFault}
use Rattle.functions.specs.declared.faults.StoreFault.TheVariants.{IndexOutOfRange, QubitOutOfRange, NotHeld, NoSpace}
use Rattle.functions.specs.Tables.{Table, value_at, literal, fixed, combined, ones}
use Rattle.functions.specs.Sets.{among, parts_of_all}
use Rattle.functions.specs.Meanings.{Meaning, qubits_of, under, held, Holds}
use Rattle.functions.specs.Growth.{Grew, Exceeds}

-- r if the check passes, else the refusal
unfoldable pub checked : {X : Type 0} → Bool → StoreFault → Result X StoreFault → Result X StoreFault
checked passes e r = cond passes r (Err e)

-- a refusal, or what is made of an answer
unfoldable pub and_then : {X Y : Type 0} → Result X StoreFault → (X → Result Y StoreFault) → Result Y StoreFault
and_then (Ok x) f = f x
and_then (Err e) f = Err e

unfoldable pub or_not_held : ℕ → Option Table → Result Table StoreFault
or_not_held k (Some f) = Ok f
or_not_held k None = Err (NotHeld k)

-- the function under a handle, or the refusal that none is held under it
unfoldable pub function_under : Meaning → ℕ → Result Table StoreFault
function_under m k = or_not_held k (under m k)

-- The function that a call asks for, or the refusal that is due before any space is looked at.
unfoldable pub literal_asked : Meaning → Qubit → Result Table StoreFault
literal_asked m q = checked (nat_lt q.0 (qubits_of m)) (QubitOutOfRange q) (Ok (literal (qubits_of m) q.0))

unfoldable pub fixed_asked : Meaning → ℕ → Qubit → Bool → Result Table StoreFault
fixed_asked m f q b = checked (nat_lt q.0 (qubits_of m)) (QubitOutOfRange q)
    (and_then (function_under m f) (λ s. Ok (fixed (qubits_of m) s q.0 b)))

unfoldable pub combine_asked : Meaning → ℕ → ℕ → ℕ → ℕ → Result Table StoreFault
combine_asked m rule f g h =
    and_then (function_under m f) (λ s. and_then (function_under m g) (λ t. and_then (function_under m h) (λ u.
    Ok (combined (qubits_of m) rule s t u))))

-- The function asked for was made, or was there, and has the handle h.
pub record Handed (v w : Meaning) (asked : Result Table StoreFault) (h : ℕ) : Type 0 where
  pub function : Table
  pub asked_for : asked ≡ Ok function
  pub handle : under w h ≡ Some function
  pub grew : Grew v w (function ∷ [])

-- the refusal that is due: the one before any space is looked at, or else that there is no space
unfoldable pub Due : Meaning → Result Table StoreFault → StoreFault → Type 0
Due v (Ok f) e = (e ≡ NoSpace v.setting.limit) × Exceeds v (f ∷ [])
Due v (Err d) e = e ≡ d

pub record Refused (v w : Meaning) (asked : Result Table StoreFault) (e : StoreFault) : Type 0 where
  pub unchanged : w ≡ v
  pub due : Due v asked e

-- What a call that makes a function answers.
unfoldable pub Made : Meaning → Meaning → Result Table StoreFault → Result ℕ StoreFault → Type 0
Made v w asked (Ok h) = Handed v w asked h
Made v w asked (Err e) = Refused v w asked e

-- The value at the index of a number, and the number of ones.
unfoldable pub value_answer : Meaning → ℕ → ℕ → Result Bool StoreFault
value_answer m f i = checked (nat_lt i (2 ^ qubits_of m)) (IndexOutOfRange i)
    (and_then (function_under m f) (λ s. Ok (value_at s (bits (qubits_of m) i))))

unfoldable pub ones_answer : Meaning → ℕ → Result ℕ StoreFault
ones_answer m f = and_then (function_under m f) (λ s. Ok (ones (qubits_of m) s))

-- the functions under some handles, or the refusal of the first that is not held
unfoldable pub functions_under : Meaning → List ℕ → Result (List Table) StoreFault
functions_under m [] = Ok []
functions_under m (k ∷ ks) = and_then (function_under m k) (λ f. and_then (functions_under m ks) (λ fs. Ok (f ∷ fs)))

-- Only the parts of the functions fs are still held, and they keep their handles.
pub record Shrank (v w : Meaning) (fs : List Table) : Type 0 where
  pub setting : w.setting ≡ v.setting
  pub holds : (g : Table) → among g (held w) ≡ among g (parts_of_all v.setting.parts fs)
  pub keeps : (k : ℕ) (f : Table) → under v k ≡ Some f → Holds w f → under w k ≡ Some f

pub record Released (v w : Meaning) (ks : List ℕ) : Type 0 where
  pub functions : List Table
  pub listed : functions_under v ks ≡ Ok functions
  pub shrank : Shrank v w functions

pub record Retained (v w : Meaning) (ks : List ℕ) (e : StoreFault) : Type 0 where
  pub unchanged : w ≡ v
  pub due : functions_under v ks ≡ Err e

-- What keep answers for a list of handles.
unfoldable pub Kept : Meaning → Meaning → List ℕ → Result (Unit {0}) StoreFault → Type 0
Kept v w ks (Ok done) = Released v w ks
Kept v w ks (Err e) = Retained v w ks e
