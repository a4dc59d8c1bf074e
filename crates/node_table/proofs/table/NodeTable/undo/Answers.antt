use Rattle.std.proofs.Common.{◌≡◌, ℕ, ◌∙◌, subst, arith}
use Rattle.node_table.specs.Freeing.{Freed}
use Rattle.node_table.proofs.Restoring.{restored}
use Rattle.node_table.proofs.table.NodeTable.undo.Goals as goal

pub returns-clause-restored : goal.returns-clause-restored
returns-clause-restored c old o g e =
    let s = c.args.self.now in
    let f = c.free_unmarked.ensures in
    let r = c.rebuild.ensures in
    let from : c.min-from.result ≡ old.used = omega (arith, c.min-from.ensures, g.onward) in
    restored old s c.free_unmarked.new.self c.rebuild.new.self (record {
      order = o;
      grown = g;
      freed = subst (λ (y : ℕ). Freed s c.free_unmarked.new.self y s.used) from f.freed;
      setting_a = f.only.setting;
      same = record { word_0 = r.same.word_0; word_1 = r.same.word_1; word_2 = r.same.word_2 };
      setting_t = record { qubits = r.only.setting.qubits; limit = r.only.setting.limit };
      used = r.only.used ∙ from;
      chains = r.chains;
    })
