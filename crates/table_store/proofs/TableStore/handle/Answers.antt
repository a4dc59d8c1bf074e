use Rattle.std.proofs.Common.{true, false, Ok, sym, ◌∙◌, subst, rules}
use Rattle.functions.specs.Answers.{Made}
use Rattle.table_words.specs.declared.PackedTable.{PackedTable}
use Rattle.table_words.specs.Words.{unpacked, Clean}
use Rattle.table_places.specs.Order.{Varies}
use Rattle.table_store.specs.Stores.{meaning_of}
use Rattle.table_store.proofs.Adding.{constant_handed, not_constants}
use Rattle.table_store.proofs.TableStore.handle.Goals as goal

pub returns-then-same : goal.returns-then-same
returns-then-same c = record { order = c.requires.order; made = constant_handed c.args.self.now c.args.table.words false _ c.requires.order c.constant.ensures (search rules) (search rules) (sym c.same.ensures ∙ c.if-same.true) }

pub returns-then-same-2 : goal.returns-then-same-2
returns-then-same-2 c = record { order = c.requires.order; made = constant_handed c.args.self.now c.args.table.words true _ c.requires.order c.constant-2.ensures (search rules) (search rules) (sym c.same-2.ensures ∙ c.if-same-2.true) }

pub store-requires : goal.store-requires
store-requires c =
    let same = sym c.of.ensures in
    let n = c.args.self.now.qubits.number in
    record {
      order = c.requires.order;
      clean = subst (λ (t : PackedTable). Clean n t.words) same c.requires.clean;
      varies = subst (λ (t : PackedTable). Varies n t.words) same (not_constants n c.args.table.words _ _ (search rules) (search rules) (search rules) c.requires.clean c.constant.ensures c.constant-2.ensures (sym c.same.ensures ∙ c.if-same.false) (sym c.same-2.ensures ∙ c.if-same-2.false));
    }

pub returns : goal.returns
returns c = record {
  order = c.store.ensures.order;
  made = subst (λ (t : PackedTable). Made (meaning_of c.args.self.now) (meaning_of c.store.new.self) (Ok (unpacked c.args.self.now.qubits.number t.words)) c.store.result) c.of.ensures c.store.ensures.made;
}
