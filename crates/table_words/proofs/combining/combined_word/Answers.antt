use Rattle.table_words.proofs.Packed.{word_by_choices}
use Rattle.table_words.proofs.combining.combined_word.Goals as goal

pub returns : goal.returns
returns c =
    word_by_choices c.args.rule c.args.f c.args.g c.args.h _ _ _ _ _ _ _ _ _ _ _ _ _ _ _
    c.repeated.ensures c.repeated-2.ensures c.repeated-3.ensures c.repeated-4.ensures
    c.repeated-5.ensures c.repeated-6.ensures c.repeated-7.ensures c.repeated-8.ensures
    c.choice-both.ensures c.choice-only_f.ensures c.choice-only_g.ensures c.choice-neither.ensures
    c.choice.ensures c.choice-2.ensures c.choice-3.ensures
