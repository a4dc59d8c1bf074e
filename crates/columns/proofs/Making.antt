-- Functions that are made where the setting is that of an earlier meaning: each builds the plan of that function.
use Rattle.std.proofs.Common.{◌≡◌, ℕ, ◌<◌, Bool, [], ◌∷◌, Some, Ok, Result, sym, ap, ◌∙◌, subst}
use Rattle.exact.specs.declared.Qubit.{Qubit}
use Rattle.functions.specs.declared.faults.StoreFault.{StoreFault}
use Rattle.functions.specs.Tables.{Table, literal, fixed}
use Rattle.functions.specs.Meanings.{Setting, Meaning, qubits_of, under}
use Rattle.functions.specs.Growth.{Built}
use Rattle.functions.specs.Answers.{Made, literal_asked, fixed_asked}
use Rattle.functions.proofs.Asked.{made_built, literal_known, fixed_known}

-- a qubit of one store is a qubit of another with the same setting
pub inside_too : (v u : Meaning) (q : ℕ) → u.setting ≡ v.setting → q < qubits_of v → q < qubits_of u
inside_too v u q e h = subst (λ (s : Setting). q < s.qubits) (sym e) h

pub literal_made : (v u w : Meaning) (q : Qubit) (r : Result ℕ StoreFault) → u.setting ≡ v.setting → q.0 < qubits_of v → Made u w (literal_asked u q) r
    → Built u w (literal (qubits_of v) q.0 ∷ []) r (λ k. under w k ≡ Some (literal (qubits_of v) q.0))
literal_made v u w q r e h m =
    made_built u w (literal_asked u q) (literal (qubits_of v) q.0) r
    (literal_known u q (inside_too v u q.0 e h) ∙ ap (λ (s : Setting). Ok (literal s.qubits q.0)) e) m

pub fixed_made : (v u w : Meaning) (k : ℕ) (q : Qubit) (b : Bool) (f : Table) (r : Result ℕ StoreFault) → u.setting ≡ v.setting → q.0 < qubits_of v → under u k ≡ Some f → Made u w (fixed_asked u k q b) r
    → Built u w (fixed (qubits_of v) f q.0 b ∷ []) r (λ h. under w h ≡ Some (fixed (qubits_of v) f q.0 b))
fixed_made v u w k q b f r e h a m =
    made_built u w (fixed_asked u k q b) (fixed (qubits_of v) f q.0 b) r
    (fixed_known u k q b f (inside_too v u q.0 e h) a ∙ ap (λ (s : Setting). Ok (fixed s.qubits f q.0 b)) e) m
