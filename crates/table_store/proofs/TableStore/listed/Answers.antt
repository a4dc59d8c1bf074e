use Rattle.std.proofs.Common.{◌+◌, ◌<◌, Bool, false, List, replicate, Ok, Err, vec_items, sym, ap, ◌∙◌, subst, arith, rules}
use Rattle.std.proofs.lemmas.List.{length-replicate, get_or-replicate}
use Rattle.std.proofs.lemmas.Result.{err_from_is_err_and}
use Rattle.table_store.specs.Keeping.{Checked}
use Rattle.table_store.specs.Stores.{meaning_of}
use Rattle.table_store.proofs.Looking.{constant_told, place_told, place_there, none_under}
use Rattle.table_store.proofs.Releasing.{Listing, listing_none, listing_refused, listing_constant, listing_place, listing_all}
use Rattle.table_store.proofs.TableStore.listed.Goals as goal
use Rattle.table_store.proofs.TableStore.listed.Goals.{in-Place, in-Constant}

pub loop-k-init : goal.loop-k-init
loop-k-init c = listing_none _ _ (replicate 4096 false) (length-replicate 4096 false) (λ p l. get_or-replicate 4096 p false false l)

pub returns-in_err-place : goal.returns-in_err-place
unfolding Checked
returns-in_err-place c =
    let p = err_from_is_err_and c.from_residual.result c.from_residual.ensures.1 in
    let x = none_under c.args.self.now.qubits.number c.args.self.now.limit _ _ _ c.in_err-place.ensures in
    rw (p.1, p.2) (listing_refused _ c.args.list.now c.loop-k.k-index _ c.loop-k-test.true (search rules) _ x.1 c.loop-k.invariant ∙ ap Err (sym x.0))

pub bounds-places-place : goal.bounds-places-place
bounds-places-place c =
    let a : c.in-Place.place < c.args.self.now.limit = place_there c.args.self.now.qubits.number _ (vec_items c.args.self.now.words) _ _ (ap Ok (sym c.in-Place.is) ∙ c.in_ok-place.ensures) in
    omega (arith, a, c.requires.laid_out.few_places)

pub loop-k-preserved : goal.loop-k-preserved
loop-k-preserved c = elim c.match-branch-2.branch [
  | in-Place w ↦
      (let h = ap Ok (sym w.in-Place.is) ∙ c.in_ok-place.ensures in
      let t = place_told c.args.self.now.qubits.number c.args.self.now.limit (vec_items c.args.self.now.words) _ _ h in
      let a : w.in-Place.place < c.args.self.now.limit = place_there c.args.self.now.qubits.number _ (vec_items c.args.self.now.words) _ _ h in
      subst (λ (flags : List Bool). Listing (meaning_of c.args.self.now) c.args.list.now flags (c.loop-k.k-index + 1)) (sym w.places-is)
      (listing_place _ c.args.list.now c.loop-k.k-index _ c.loop-k-test.true (search rules) c.loop-k.places w.in-Place.place t.1 (omega (arith, a, c.requires.laid_out.few_places)) t.0 t.2 c.loop-k.invariant))
  | in-Constant w ↦
      (let h = ap Ok (sym w.in-Constant.is) ∙ c.in_ok-place.ensures in
      let t = constant_told c.args.self.now.qubits.number c.args.self.now.limit _ _ _ h in
      subst (λ (flags : List Bool). Listing (meaning_of c.args.self.now) c.args.list.now flags (c.loop-k.k-index + 1)) (sym w.places-is)
      (listing_constant _ c.args.list.now c.loop-k.k-index _ c.loop-k-test.true (search rules) c.loop-k.places _ t.0 t.1 c.loop-k.invariant))
]

pub returns : goal.returns
unfolding Checked
returns c =
    let x = listing_all (meaning_of c.args.self.now) c.args.list.now c.loop-k.places c.loop-k.k-index c.loop-k-test.false c.loop-k.invariant in
    record { functions = x.0; listed = x.1; places = x.2 }
