use Rattle.std.proofs.Common.{◌<◌, ◌≤◌, sym, ◌∙◌, ⊎_elim}
use Rattle.table_store.proofs.Fresh.{check_low, check_high, check_none, check_passes}
use Rattle.table_store.proofs.TableStore.check.Goals as goal

pub returns-then-qubits-lt1 : goal.returns-then-qubits-lt1
returns-then-qubits-lt1 c = ⊎_elim
    (λ (h : c.args.qubits < 1). check_low c.args.qubits c.args.words h)
    (λ (h : (1 ≤ c.args.qubits) × (8 < c.args.qubits)). check_high c.args.qubits c.args.words h.1)
    c.then-qubits-lt1.either

pub returns-then-limit-eq0 : goal.returns-then-limit-eq0
returns-then-limit-eq0 c = check_none c.args.qubits c.args.words c.if-qubits-lt1.false c.if-qubits-gt8.false (sym c.limit.ensures ∙ c.if-limit-eq0.true)

pub returns : goal.returns
returns c = check_passes c.args.qubits c.args.words c.if-qubits-lt1.false c.if-qubits-gt8.false (λ z. c.if-limit-eq0.false (c.limit.ensures ∙ z))
