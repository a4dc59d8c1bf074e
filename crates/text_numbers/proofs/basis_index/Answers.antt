use Rattle.std.proofs.Common.{◌≡◌, ◌+◌, ◌*◌, true, false, ◌&&◌, leb, get_or, None, subst, arith, rules}
use Rattle.std.proofs.lemmas.Bool.Decides.{nat_tests}
use Rattle.text_numbers.proofs.Indices.{BitsRead, bits_none, bits_more, bits_stop, bits_all, reads_index}
use Rattle.text_numbers.proofs.basis_index.Goals as goal
use Rattle.text_numbers.proofs.basis_index.Goals.{in-48, in-49}

pub returns-then-word-qubits-clause-reads : goal.returns-then-word-qubits-clause-reads
returns-then-word-qubits-clause-reads c = reads_index c.args.qubits.number c.args.word.now None (search rules)

pub loop-b-init : goal.loop-b-init
loop-b-init c = bits_none c.args.word.now

pub returns-in_default : goal.returns-in_default
returns-in_default c =
    let h : (leb 48 (get_or c.args.word.now c.loop-b.b-index 0) && leb (get_or c.args.word.now c.loop-b.b-index 0) 49) ≡ false = grind (arith, nat_tests) in
    let e = bits_stop _ _ _ c.args.qubits.number c.loop-b.invariant c.loop-b-test.true h in
    record { equals = e; reads = reads_index _ _ _ e }

pub loop-b-preserved : goal.loop-b-preserved
loop-b-preserved c =
    elim c.match-b.branch [
      | in-48 w ↦ subst (BitsRead _ _) (let e : 2 * c.loop-b.value + 0 ≡ c.match-b.value = omega (arith, w.value-is) in e) (bits_more _ _ _ false c.loop-b.invariant c.loop-b-test.true w.in-48.is)
      | in-49 w ↦ subst (BitsRead _ _) (let e : 2 * c.loop-b.value + 1 ≡ c.match-b.value = omega (arith, w.value-is) in e) (bits_more _ _ _ true c.loop-b.invariant c.loop-b-test.true w.in-49.is)
    ]

pub returns : goal.returns
returns c =
    let e = bits_all _ _ _ c.args.qubits.number c.loop-b.invariant (omega arith) (omega arith) in
    record { equals = e; reads = reads_index _ _ _ e }
