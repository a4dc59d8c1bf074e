-- The ways out of reading a whole text.
use Rattle.std.proofs.Common.{◌≡◌, ℕ, List, [], length, IsErrAnd, Ok, Err, Result, sym, ap, ◌∙◌}
use Rattle.text_reader.specs.declared.fault.TextFault.{TextFault}
use Rattle.text_grammar.specs.Circuits.{Opening, Step, Question}
use Rattle.text_grammar.specs.Syntaxes.{Reading}
use Rattle.circuit_text.specs.declared.form.Form.{Form}
use Rattle.circuit_text.specs.Forms.{form_read}

pub form_stuck : (r : Result Form TextFault) (e : TextFault) (x : Result Reading TextFault) → IsErrAnd r (λ y. y ≡ e) → x ≡ Err e → r ≡ form_read x
form_stuck (Ok a) e x q h = absurd q
form_stuck (Err y) e x q h = ap Err q ∙ sym (ap form_read h)

-- the counts that were read are those of the circuit
pub form_all : (x : Result Reading TextFault) (n o m r : ℕ) (os : List Opening) (ss : List Step) (qs : List Question) → x ≡ Ok (record { qubits = n; opens = os; steps = ss; reads = qs }, []) → length os ≡ o → length ss ≡ m → length qs ≡ r → Ok (record { qubits = n; opens = o; steps = m; reads = r }) ≡ form_read x
form_all x n o m r os ss qs e lo lm lr = sym (ap form_read e ∙ (λ i. Ok (record { qubits = n; opens = lo i; steps = lm i; reads = lr i })))
