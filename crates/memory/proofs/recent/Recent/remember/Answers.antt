use Rattle.std.proofs.Common.{◌≡◌, ◌+◌, ◌%◌, List, length, set, ap, ◌∙◌, arith}
use Rattle.std.proofs.lemmas.List.{length-set}
use Rattle.memory.specs.declared.entry.Remembered.{Remembered}
use Rattle.memory.specs.Recalling.{newest_first}
use Rattle.memory.proofs.Rings.{round, refilled, written_more, written_over}
use Rattle.memory.proofs.recent.Recent.remember.Goals as goal

pub returns-then-len-lt-MOST : goal.returns-then-len-lt-MOST
unfolding newest_first
returns-then-len-lt-MOST c =
    let room = c.len.ensures.value in
    ap (λ (l : List Remembered). round c.args.self.now.oldest l) c.push.ensures.items
    ∙ written_more _ _ _ (omega arith) (c.args.self.now.in_turn (omega arith))

pub returns-else-len-lt-MOST : goal.returns-else-len-lt-MOST
unfolding newest_first
returns-else-len-lt-MOST c =
    let full : length c.args.self.now.entries.items ≡ 64 = omega (arith, c.args.self.now.within, c.len.ensures.value, c.if-len-lt-MOST.false) in
    let size = length-set c.deref_mut.result.now c.args.self.now.oldest c.args.remembered ∙ ap length c.deref_mut.ensures.value in
    ap (λ (l : List Remembered). round ((c.args.self.now.oldest + 1) % 64) l)
    (refilled _ _ _ size ∙ ap (λ (l : List Remembered). set l c.args.self.now.oldest c.args.remembered) c.deref_mut.ensures.value)
    ∙ written_over _ _ _ full c.args.self.now.slot
