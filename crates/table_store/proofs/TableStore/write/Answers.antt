use Rattle.std.proofs.Common.{vec_items, refl, rules}
use Rattle.table_store.proofs.Laid.{written_part}
use Rattle.table_store.proofs.TableStore.write.Goals as goal

pub returns-clause-written : goal.returns-clause-written
returns-clause-written c =
    written_part _ _ _ _ _ _ _ c.args.self.now.words.len (vec_items c.args.self.now.words) c.args.function.table.words _ c.deref_mut.result.now _ c.requires.order c.requires.within (search rules) c.requires.clean c.args.function.right
    c.width-width.ensures.value c.width-width.ensures.few c.range-range.ensures.start c.range-range.ensures.end c.range-range.ensures.suffice
    c.copy_from_slice.ensures.after c.deref_mut.ensures.value c.args.self.now.words.ok.0 refl
