use Rattle.std.proofs.Common.{sym, arith}
use Rattle.node_table.proofs.Layouts.{only_words_then}
use Rattle.node_table.proofs.Markings.{remarked, same_marks_then, marks_both}
use Rattle.node_table.proofs.table.NodeTable.+mark.Goals as goal

pub mark-requires : goal.mark-requires
mark-requires t c =
    let e = c.set_mark.ensures in
    let x = remarked c.args.self.now c.set_mark.new.self c.args.h c.requires.reduced e.only.setting e.same (c.requires.held c.if-h-lt2.false) in
    let l = x.low c.branch-low.result.low (sym c.branch-low.ensures.is_low) in
    (omega (arith, l.1, c.decreases), (x.reduced, l.0))

pub mark-requires-2 : goal.mark-requires-2
mark-requires-2 t c =
    let a = c.set_mark.new.self in
    let b = c.mark.new.self in
    let s = c.args.self.now in
    let e = c.set_mark.ensures in
    let m = c.mark.ensures in
    let x = remarked s b c.args.h c.requires.reduced (only_words_then s a b e.only m.only).setting (same_marks_then s a b e.same m.marks.same) (c.requires.held c.if-h-lt2.false) in
    let l = x.high c.branch-low.result.high (sym c.branch-low.ensures.is_high) in
    (omega (arith, l.1, c.decreases), (x.reduced, l.0))

pub returns-clause-marks : goal.returns-clause-marks
returns-clause-marks t c =
    let s = c.args.self.now in
    let a = c.set_mark.new.self in
    let b = c.mark.new.self in
    let u = c.mark-2.new.self in
    let e = c.set_mark.ensures in
    let l = c.mark.ensures in
    let r = c.mark-2.ensures in
    marks_both s a b u c.args.h c.branch-low.result.low c.branch-low.result.high (record {
      node = c.requires.held c.if-h-lt2.false;
      limit_a = e.only.setting.limit;
      same_a = e.same;
      marked = e.marked;
      others = e.others;
      is_low = sym c.branch-low.ensures.is_low;
      limit_b = l.only.setting.limit;
      low_marks = l.marks;
      is_high = sym c.branch-low.ensures.is_high;
      high_marks = r.marks;
    })
