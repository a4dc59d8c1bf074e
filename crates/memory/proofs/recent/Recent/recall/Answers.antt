use Rattle.std.proofs.Common.{List, take, drop, reverse, sym, ap, ◌∙◌}
use Rattle.memory.specs.declared.entry.Remembered.{Remembered}
use Rattle.memory.specs.Recalling.{newest_first, recalled}
use Rattle.memory.proofs.Rings.{recalled_newer, recalled_older}
use Rattle.memory.proofs.recent.Recent.recall.Goals as goal

pub returns-in-Some : goal.returns-in-Some
unfolding newest_first
returns-in-Some c =
    let ring = c.args.self.now in
    let newer = reverse (take ring.oldest ring.entries.items) in
    let older = reverse (drop ring.oldest ring.entries.items) in
    let front = c.split_at.ensures.front ∙ ap (λ (l : List Remembered). take ring.oldest l) c.deref.ensures.0 in
    sym (recalled_newer newer older c.args.asked _ (ap (λ (l : List Remembered). recalled (reverse l) c.args.asked) (sym front) ∙ sym c.last_for.ensures ∙ c.in-Some.is))

pub returns-in-None : goal.returns-in-None
unfolding newest_first
returns-in-None c =
    let ring = c.args.self.now in
    let newer = reverse (take ring.oldest ring.entries.items) in
    let older = reverse (drop ring.oldest ring.entries.items) in
    let front = c.split_at.ensures.front ∙ ap (λ (l : List Remembered). take ring.oldest l) c.deref.ensures.0 in
    let back = c.split_at.ensures.back ∙ ap (λ (l : List Remembered). drop ring.oldest l) c.deref.ensures.0 in
    c.last_for-in-None.ensures
    ∙ ap (λ (l : List Remembered). recalled (reverse l) c.args.asked) back
    ∙ sym (recalled_older newer older c.args.asked (ap (λ (l : List Remembered). recalled (reverse l) c.args.asked) (sym front) ∙ sym c.last_for.ensures ∙ c.in-None.is))
