use Rattle.table_words.proofs.Packed.{fixed_packed}
use Rattle.table_words.proofs.PackedTable.fixed.Goals as goal

pub returns : goal.returns
returns c = fixed_packed c.args.qubits.number c.args.q.0 c.args.f.words c.args.bit _ c.requires c.packed.ensures
