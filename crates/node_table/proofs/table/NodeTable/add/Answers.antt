use Rattle.std.proofs.Common.{◌∙◌, arith}
use Rattle.node_table.specs.Adding.{Written}
use Rattle.node_table.proofs.Additions.{Steps, written_node, steps_order, steps_grown, steps_joined}
use Rattle.node_table.proofs.table.NodeTable.add.Goals as goal

pub attach-requires-clause-node : goal.attach-requires-clause-node
attach-requires-clause-node c =
    let s = c.args.self.now in
    let w = c.write.ensures in
    let b = c.args.branch in
    let f = c.requires.free in
    let written : Written s c.write.new.self c.args.h b.height b.low b.high = record { word_0 = w.written.word_0; word_1 = w.written.word_1; word_2 = w.written.word_2; others = w.written.others; heads = w.written.heads } in
    written_node s c.write.new.self c.args.h b.height b.low b.high w.only.setting.limit f.free written (omega (arith, f.after)) f.within c.requires.fits.positive (omega (arith, c.requires.fits.within, s.qubits.within))

pub returns : goal.returns
returns c =
    let s = c.args.self.now in
    let a = c.write.new.self in
    let u = c.attach.new.self in
    let w = c.write.ensures in
    let b = c.args.branch in
    let steps : Steps s a u c.args.h b.height b.low b.high = record {
      order = c.requires.order;
      free = c.requires.free;
      fits = c.requires.fits;
      setting_a = record { qubits = w.only.setting.qubits; limit = w.only.setting.limit };
      written = record { word_0 = w.written.word_0; word_1 = w.written.word_1; word_2 = w.written.word_2; others = w.written.others; heads = w.written.heads };
      setting_u = c.attach.ensures.only.setting;
      attached = c.attach.ensures.attached;
      used = c.attach.ensures.only.used ∙ w.only.used;
    } in
    record {
      order = steps_order s a u c.args.h b.height b.low b.high steps;
      grown = steps_grown s a u c.args.h b.height b.low b.high steps;
      joined = steps_joined s a u c.args.h b.height b.low b.high steps;
    }
