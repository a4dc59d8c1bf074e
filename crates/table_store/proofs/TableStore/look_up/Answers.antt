use Rattle.std.proofs.Common.{◌-◌, ◌<◌, length, vec_items, sym, ◌∙◌, arith}
use Rattle.std.proofs.lemmas.List.{get_or_read}
use Rattle.table_store.proofs.Laid.{limit_within}
use Rattle.table_store.proofs.Looking.{constant_looked_up, place_looked_up, free_looked_up, none_looked_up}
use Rattle.table_store.proofs.TableStore.look_up.Goals as goal
use Rattle.table_store.proofs.TableStore.look_up.Goals.{else-place-self-via-then-place-self+else-index-ne0, else-place-self-via-else-place-self}

pub returns-then-k-lt2 : goal.returns-then-k-lt2
returns-then-k-lt2 c = constant_looked_up _ c.args.k c.if-k-lt2.true

pub returns-then-index-ne0 : goal.returns-then-index-ne0
returns-then-index-ne0 c =
    let ws = vec_items c.args.self.now.words in
    let l : c.args.k - 2 < length ws = omega (arith, limit_within _ _ ws c.requires.laid_out, c.if-place-self.true) in
    place_looked_up _ _ ws c.args.k c.if-k-lt2.false c.if-place-self.true (λ z. c.if-index-ne0.true (get_or_read ws (c.args.k - 2) _ l c.index.ensures 0 ∙ z))

pub returns-else-place-self : goal.returns-else-place-self
returns-else-place-self c = elim c.else-place-self.branch [
  | else-place-self-via-then-place-self+else-index-ne0 w ↦ free_looked_up _ _ (vec_items c.args.self.now.words) c.args.k c.if-k-lt2.false w.if-place-self.true
      (sym (get_or_read (vec_items c.args.self.now.words) (c.args.k - 2) _ (let l : c.args.k - 2 < length (vec_items c.args.self.now.words) = omega (arith, limit_within _ _ (vec_items c.args.self.now.words) c.requires.laid_out, w.if-place-self.true) in l) w.index.ensures 0) ∙ w.if-index-ne0.false)
  | else-place-self-via-else-place-self w ↦ none_looked_up _ _ _ c.args.k c.if-k-lt2.false w.if-place-self.false
]
