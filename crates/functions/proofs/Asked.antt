-- Calls that make a function, where it is known which.
use Rattle.std.proofs.Common.{◌≡◌, ℕ, ◌<◌, Bool, ltb, [], ◌∷◌, Some, None, Ok, Err, Option, Result, sym, refl, ap, ◌∙◌, subst, arith}
use Rattle.std.proofs.lemmas.Bool.{cond-true, lt-ltb}
use Rattle.exact.specs.declared.Qubit.{Qubit}
use Rattle.functions.specs.declared.faults.StoreFault.{StoreFault}
use Rattle.functions.specs.declared.faults.StoreFault.TheVariants.{QubitOutOfRange, NotHeld}
use Rattle.functions.specs.Tables.{Table, literal, fixed, combined}
use Rattle.functions.specs.Meanings.{Setting, Meaning, Laws, qubits_of, under}
use Rattle.functions.specs.Growth.{Grew, Built}
use Rattle.functions.specs.Answers.{checked, and_then, or_not_held, function_under, literal_asked, fixed_asked, combine_asked, Due, Made}
use Rattle.functions.proofs.Growth.{grew_none}
use Rattle.functions.proofs.Handles.{grew_again}

pub function_at : (m : Meaning) (k : ℕ) (f : Table) → under m k ≡ Some f → function_under m k ≡ Ok f
unfolding function_under or_not_held
function_at m k f e = ap (or_not_held k) e

pub at_function : (m : Meaning) (k : ℕ) (f : Table) → function_under m k ≡ Ok f → under m k ≡ Some f
unfolding function_under or_not_held
at_function m k f e = go (under m k) e
  where
    go : (o : Option Table) → or_not_held k o ≡ Ok f → o ≡ Some f
    go None e = absurd (let z : ◌≡◌ {A = ℕ} 0 1 = cc in let b : ⊥ = omega arith in b)
    go (Some s) e = let q : s ≡ f = cc in ap Some q

pub and_then_ok : {X Y : Type 0} (r : Result X StoreFault) (f : X → Result Y StoreFault) (x : X) → r ≡ Ok x → and_then r f ≡ f x
unfolding and_then
and_then_ok {X = X} r f x e = ap (λ (s : Result X StoreFault). and_then s f) e

pub and_then_inverse : {X Y : Type 0} (r : Result X StoreFault) (f : X → Result Y StoreFault) (y : Y) → and_then r f ≡ Ok y → (x : X) × (r ≡ Ok x) × (f x ≡ Ok y)
unfolding and_then
and_then_inverse (Ok x) f y e = (x, refl, e)
and_then_inverse (Err d) f y e = absurd (let z : ◌≡◌ {A = ℕ} 0 1 = cc in let b : ⊥ = omega arith in b)

pub and_then_err : {X Y : Type 0} (r : Result X StoreFault) (f : X → Result Y StoreFault) (d : StoreFault) → r ≡ Err d → and_then r f ≡ Err d
unfolding and_then
and_then_err {X = X} r f d e = ap (λ (s : Result X StoreFault). and_then s f) e

pub function_none : (m : Meaning) (k : ℕ) → under m k ≡ None → function_under m k ≡ Err (NotHeld k)
unfolding function_under or_not_held
function_none m k e = ap (or_not_held k) e

-- a refusal that is due before any space is looked at
pub made_refused : (v w : Meaning) (asked : Result Table StoreFault) (d e : StoreFault) → asked ≡ Err d → e ≡ d → w ≡ v → Made v w asked (Err e)
unfolding Made Due
made_refused v w asked d e p q u = record { unchanged = u; due = subst (λ (o : Result Table StoreFault). Due v o e) (sym p) q }

-- the same function asked for, in other words
pub made_as : (v w : Meaning) (a b : Result Table StoreFault) (r : Result ℕ StoreFault) → a ≡ b → Made v w a r → Made v w b r
made_as v w a b r e h = subst (λ (o : Result Table StoreFault). Made v w o r) e h

-- the function that is asked for, where the handles are held and the qubit is in range
pub literal_known : (m : Meaning) (q : Qubit) → q.0 < qubits_of m → literal_asked m q ≡ Ok (literal (qubits_of m) q.0)
unfolding literal_asked checked
literal_known m q l = cond-true (ltb q.0 (qubits_of m)) (Ok (literal (qubits_of m) q.0)) (Err (QubitOutOfRange q)) (lt-ltb q.0 (qubits_of m) l)

pub fixed_known : (m : Meaning) (f : ℕ) (q : Qubit) (b : Bool) (s : Table) → q.0 < qubits_of m → under m f ≡ Some s → fixed_asked m f q b ≡ Ok (fixed (qubits_of m) s q.0 b)
unfolding fixed_asked checked
fixed_known m f q b s l a =
    cond-true (ltb q.0 (qubits_of m)) (and_then (function_under m f) (λ t. Ok (fixed (qubits_of m) t q.0 b))) (Err (QubitOutOfRange q)) (lt-ltb q.0 (qubits_of m) l)
    ∙ and_then_ok (function_under m f) _ s (function_at m f s a)

pub combine_known : (m : Meaning) (rule f g h : ℕ) (s t u : Table) → under m f ≡ Some s → under m g ≡ Some t → under m h ≡ Some u → combine_asked m rule f g h ≡ Ok (combined (qubits_of m) rule s t u)
unfolding combine_asked
combine_known m rule f g h s t u a b c =
    and_then_ok (function_under m f) _ s (function_at m f s a)
    ∙ and_then_ok (function_under m g) _ t (function_at m g t b)
    ∙ and_then_ok (function_under m h) _ u (function_at m h u c)

-- and the handles of a combination that is asked for are held
pub combine_inverse : (m : Meaning) (rule f g h : ℕ) (y : Table) → combine_asked m rule f g h ≡ Ok y → (s : Table) × (t : Table) × (u : Table) × (under m f ≡ Some s) × (under m g ≡ Some t) × (under m h ≡ Some u) × (y ≡ combined (qubits_of m) rule s t u)
unfolding combine_asked
combine_inverse m rule f g h y e =
    let a = and_then_inverse (function_under m f) _ y e in
    let b = and_then_inverse (function_under m g) _ y a.2 in
    let c = and_then_inverse (function_under m h) _ y b.2 in
    let q : combined (qubits_of m) rule a.0 b.0 c.0 ≡ y = (let p = c.2 in cc) in
    (a.0, b.0, c.0, at_function m f a.0 a.1, at_function m g b.0 b.1, at_function m h c.0 c.1, sym q)

-- a call whose function is known builds the plan of that function
pub made_built : (v w : Meaning) (asked : Result Table StoreFault) (f : Table) (r : Result ℕ StoreFault) → asked ≡ Ok f → Made v w asked r → Built v w (f ∷ []) r (λ h. under w h ≡ Some f)
unfolding Made Built Due
made_built v w asked f (Ok h) e m =
    let p : m.function ≡ f = (let a = m.asked_for in cc) in
    (subst (λ (s : Table). Grew v w (s ∷ [])) p m.grew, subst (λ (s : Table). under w h ≡ Some s) p m.handle)
made_built v w asked f (Err d) e m =
    let q : Due v (Ok f) d = subst (λ (o : Result Table StoreFault). Due v o d) e m.due in
    record {
      made = [];
      next = f;
      rest = [];
      plan = refl;
      grew = subst (λ (x : Meaning). Grew v x []) (sym m.unchanged) (grew_none v);
      exceeds = q.1;
      fault = q.0;
    }

-- what has a handle is answered by it, and nothing changes
pub made_again : (m : Meaning) (asked : Result Table StoreFault) (f : Table) (k : ℕ) → Laws m → asked ≡ Ok f → under m k ≡ Some f → Made m m asked (Ok k)
unfolding Made
made_again m asked f k laws e h = record { function = f; asked_for = e; handle = h; grew = grew_again m k f laws h }

-- earlier handles stand for what they stood for, whether the call made something or not
pub made_keeps : (v w : Meaning) (asked : Result Table StoreFault) (r : Result ℕ StoreFault) → Made v w asked r → (k : ℕ) (f : Table) → under v k ≡ Some f → under w k ≡ Some f
unfolding Made
made_keeps v w asked (Ok h) m k f e = m.grew.keeps k f e
made_keeps v w asked (Err d) m k f e = subst (λ (x : Meaning). under x k ≡ Some f) (sym m.unchanged) e

pub made_setting : (v w : Meaning) (asked : Result Table StoreFault) (r : Result ℕ StoreFault) → Made v w asked r → w.setting ≡ v.setting
unfolding Made
made_setting v w asked (Ok h) m = m.grew.setting
made_setting v w asked (Err d) m = ap (λ (x : Meaning). x.setting) m.unchanged

-- a combination of known functions, in a store with the setting of v, builds the plan of what they make
pub combination : (v u w : Meaning) (rule f g h : ℕ) (s t x y : Table) (r : Result ℕ StoreFault) → u.setting ≡ v.setting → under u f ≡ Some s → under u g ≡ Some t → under u h ≡ Some x → combined (qubits_of v) rule s t x ≡ y → Made u w (combine_asked u rule f g h) r → Built u w (y ∷ []) r (λ k. under w k ≡ Some y)
combination v u w rule f g h s t x y r e a b c d m =
    made_built u w (combine_asked u rule f g h) y r
    (combine_known u rule f g h s t x a b c ∙ ap (λ (z : Setting). Ok (combined z.qubits rule s t x)) e ∙ ap Ok d) m
