use Rattle.table_words.proofs.Packed.{literal_packed}
use Rattle.table_words.proofs.PackedTable.literal.Goals as goal

pub returns : goal.returns
returns c = literal_packed c.args.qubits.number c.args.q.0 _ c.requires c.packed.ensures
