use Rattle.std.proofs.Common.{◌≡◌, ℕ, true, eqb, ◌&&◌, sym, ◌∙◌, subst, arith, rules}
use Rattle.std.proofs.lemmas.Bool.{both_ways}
use Rattle.diagrams.specs.Diagrams.{Diagram}
use Rattle.diagrams.specs.Forming.{IsNode}
use Rattle.node_table.specs.Layout.{diagram_of, Node, link}
use Rattle.node_table.specs.Chains.{walk}
use Rattle.node_table.proofs.Layouts.{node_two, handle_none, handle_some}
use Rattle.node_table.proofs.Walks.{walk_end, walk_on}
use Rattle.node_table.proofs.table.NodeTable.find.Goals as goal

pub returns-in_err-h : goal.returns-in_err-h
returns-in_err-h c =
    let t = c.args.self.now in
    let v = c.loop-step.invariant in
    let end = handle_none v.0 (sym v.1 ∙ c.in_err-h.was) in
    rw c.from_residual.ensures (λ h i.
    let w = v.3 h i in
    let p : Node t h = omega (arith, i.height, c.requires.positive) in
    let z = walk_end (link t) c.requires.chains.ends w.0 v.0 end in
    omega (arith, node_two t h p, w.2, z))

-- the node at h is another
same : (s : Diagram) (h m low high m' low' high' : ℕ) → IsNode s h m low high → IsNode s h m' low' high' → eqb m m' && (eqb low low' && eqb high high') ≡ true
same s h m low high m' low' high' i j =
    let a = sym i.height ∙ j.height in
    let b = sym i.is_low ∙ j.is_low in
    let c = sym i.is_high ∙ j.is_high in
    rw (a, b, c) (search rules)

pub branch-self-requires : goal.branch-self-requires
branch-self-requires c =
    let v = c.loop-step.invariant in
    let q = handle_some v.0 c.in_ok-h.h (sym v.1 ∙ c.in_ok-h.was) in
    subst (Node c.args.self.now) q.0 (v.2 (omega (arith, q.0, q.1)))

pub link-next-requires : goal.link-next-requires
link-next-requires c =
    let v = c.loop-step.invariant in
    let q = handle_some v.0 c.in_ok-h.h (sym v.1 ∙ c.in_ok-h.was) in
    subst (Node c.args.self.now) q.0 (v.2 (omega (arith, q.0, q.1)))

pub loop-step-preserved : goal.loop-step-preserved
loop-step-preserved c =
    let t = c.args.self.now in
    let b = c.args.branch in
    let h = c.in_ok-h.h in
    let v = c.loop-step.invariant in
    let q = handle_some v.0 h (sym v.1 ∙ c.in_ok-h.was) in
    let p : Node t h = subst (Node t) q.0 (v.2 (omega (arith, q.0, q.1))) in (
      link t h,
      c.link-next.ensures,
      c.requires.chains.link_in h p,
      λ x i.
          let w = v.3 x i in
          let ne : h ≡ x → ⊥ = λ e. both_ways _ c.if-eq.false (c.eq.ensures ∙ same (diagram_of t) h _ _ _ _ _ _ c.branch-self.ensures (subst (λ (y : ℕ). IsNode (diagram_of t) y b.height b.low b.high) (sym e) i)) in
          let z = walk_on (link t) w.0 h x (subst (λ (y : ℕ). walk (link t) w.0 y ≡ x) q.0 w.2) ne in
          (z.0, omega (arith, w.1, z.1), z.2),
    )
