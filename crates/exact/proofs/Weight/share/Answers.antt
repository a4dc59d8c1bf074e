use Rattle.std.proofs.Common.{◌≡◌, ℕ, ◌*◌, ◌^◌, Bool, true, false, cond, eqb, nat_abs, Some, None, sym, ap, ◌∙◌, w64, SFits, rules}
use Rattle.std.proofs.lemmas.Bool.{eq-eqb, ne_eqb}
use Rattle.exact.specs.Shares.{nearest, share}
use Rattle.exact.proofs.Shares.{zero_from, not_zero}
use Rattle.exact.proofs.Weight.share.Goals as goal

pub returns-then-self-eq0 : goal.returns-then-self-eq0
unfolding share
returns-then-self-eq0 c =
    let f : SFits w64 c.args.self.root = search rules in
    let e : eqb (nat_abs c.args.self.root) 0 ≡ true = eq-eqb _ 0 (zero_from c.args.self.root f c.if-self-eq0.true) in
    ap (λ (n : ℕ). Some n) c.thousandths.ensures ∙ ap (λ (b : Bool). cond b (Some (nearest (1000 * c.args.self.whole) (2 ^ c.args.self.power.0))) None) (sym e)

pub returns-else-self-eq0 : goal.returns-else-self-eq0
unfolding share
returns-else-self-eq0 c =
    let e : eqb (nat_abs c.args.self.root) 0 ≡ false = ne_eqb _ 0 (not_zero c.args.self.root c.if-self-eq0.false) in
    ap (λ (b : Bool). cond b (Some (nearest (1000 * c.args.self.whole) (2 ^ c.args.self.power.0))) None) (sym e)
