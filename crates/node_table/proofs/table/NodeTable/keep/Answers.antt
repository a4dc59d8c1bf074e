use Rattle.std.proofs.Common.{◌≡◌, length, subst, arith}
use Rattle.std.proofs.lemmas.Bool.{both_ways}
use Rattle.node_table.specs.Marking.{MarksListed, KeptNodes}
use Rattle.node_table.proofs.Layouts.{only_words_self, only_words_then}
use Rattle.node_table.proofs.Markings.{same_marks_then, marks_reduced}
use Rattle.node_table.proofs.Sweeping.{listed_none, listed_more, Refusing, refused_setting, refused_order, refused_kept, Sweep, swept_setting, swept_order, swept_kept}
use Rattle.node_table.proofs.table.NodeTable.keep.Goals as goal

pub loop-h-init : goal.loop-h-init
loop-h-init c =
    let a = c.set_marks.new.self in
    (only_words_self _, listed_none a c.args.list.now (λ h l m. c.set_marks.ensures.all h l (omega (arith, c.set_marks.ensures.only.setting.limit))))

pub mark-requires : goal.mark-requires
mark-requires c =
    let s = c.args.self.now in
    let a = c.set_marks.new.self in
    let b = c.loop-h.self in
    let v = c.loop-h.invariant in
    record {
      reduced = marks_reduced s b (only_words_then s a b c.set_marks.ensures.only v.0).setting (same_marks_then s a b c.set_marks.ensures.same v.1.same) c.requires.reduced;
      held = c.holds.ensures.0 c.if-not-holds.false;
    }

pub loop-h-preserved : goal.loop-h-preserved
loop-h-preserved c =
    let a = c.set_marks.new.self in
    let b = c.loop-h.self in
    let t = c.mark.new.self in
    let v = c.loop-h.invariant in
    let m = c.mark.ensures in
    (only_words_then a b t v.0 m.only, listed_more a b t c.args.list.now c.loop-h.h-index v.0.setting.limit v.1 (c.holds.ensures.0 c.if-not-holds.false) m.marks)

pub returns-then-not-holds : goal.returns-then-not-holds
unfolding KeptNodes
returns-then-not-holds c =
    let s = c.args.self.now in
    let a = c.set_marks.new.self in
    let b = c.loop-h.self in
    let t = c.set_marks-then-not-holds.new.self in
    let v = c.loop-h.invariant in
    let x : Refusing s a b t c.args.list.now c.loop-h.h-index = record {
      order = c.requires;
      setting_a = c.set_marks.ensures.only.setting;
      used_a = c.set_marks.ensures.only.used;
      same_a = c.set_marks.ensures.same;
      setting_b = v.0.setting;
      used_b = v.0.used;
      marks = v.1;
      setting_t = c.set_marks-then-not-holds.ensures.only.setting;
      used_t = c.set_marks-then-not-holds.ensures.only.used;
      same_t = c.set_marks-then-not-holds.ensures.same;
      all = c.set_marks-then-not-holds.ensures.all;
      within = omega arith;
      missing = λ p. both_ways _ c.if-not-holds.true (c.holds.ensures.1 p);
    } in
    record {
      setting = refused_setting s a b t c.args.list.now c.loop-h.h-index x;
      order = refused_order s a b t c.args.list.now c.loop-h.h-index x;
      kept = refused_kept s a b t c.args.list.now c.loop-h.h-index x;
    }

pub returns : goal.returns
unfolding KeptNodes
returns c =
    let s = c.args.self.now in
    let a = c.set_marks.new.self in
    let b = c.loop-h.self in
    let d = c.free_unmarked.new.self in
    let t = c.rebuild.new.self in
    let v = c.loop-h.invariant in
    let r = c.rebuild.ensures in
    let all : c.loop-h.h-index ≡ length c.args.list.now = omega arith in
    let x : Sweep s a b d t c.args.list.now = record {
      order = c.requires;
      setting_a = c.set_marks.ensures.only.setting;
      same_a = c.set_marks.ensures.same;
      setting_b = v.0.setting;
      marks = subst (MarksListed a b c.args.list.now) all v.1;
      setting_c = c.free_unmarked.ensures.only.setting;
      freed = c.free_unmarked.ensures.freed;
      setting_t = record { qubits = r.only.setting.qubits; limit = r.only.setting.limit };
      used = r.only.used;
      same_t = record { word_0 = r.same.word_0; word_1 = r.same.word_1; word_2 = r.same.word_2 };
      chains = r.chains;
    } in
    record {
      setting = swept_setting s a b d t c.args.list.now x;
      order = swept_order s a b d t c.args.list.now x;
      kept = swept_kept s a b d t c.args.list.now x;
    }
