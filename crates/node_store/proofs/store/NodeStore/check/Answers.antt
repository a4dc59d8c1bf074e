use Rattle.std.proofs.Common.{length, sym, ⊎_elim, arith}
use Rattle.node_store.proofs.Beginning.{checked_qubits, checked_words, checked_all}
use Rattle.node_store.proofs.store.NodeStore.check.Goals as goal

pub returns-then-qubits-lt1 : goal.returns-then-qubits-lt1
returns-then-qubits-lt1 c = sym (checked_qubits (length c.args.words.now) c.args.qubits (λ l m. ⊎_elim (λ x. omega arith) (λ x. omega arith) c.then-qubits-lt1.either))

pub returns-then-words-lt4 : goal.returns-then-words-lt4
returns-then-words-lt4 c = sym (checked_words (length c.args.words.now) c.args.qubits c.if-qubits-lt1.false c.if-qubits-gt16.false c.if-words-lt4.true)

pub returns : goal.returns
returns c = sym (checked_all (length c.args.words.now) c.args.qubits c.if-qubits-lt1.false c.if-qubits-gt16.false c.if-words-lt4.false)
