use Rattle.std.proofs.Common.{Ok, sym, ap, ◌∙◌}
use Rattle.std.proofs.lemmas.Result.{err_from_is_err_and}
use Rattle.table_store.specs.Stores.{TableUnder}
use Rattle.table_store.proofs.Looking.{constant_under, place_under, place_there, none_under}
use Rattle.table_store.proofs.TableStore.table.Goals as goal

pub returns-in_err-bit : goal.returns-in_err-bit
unfolding TableUnder
returns-in_err-bit c =
    let p = err_from_is_err_and c.from_residual.result c.from_residual.ensures.1 in
    rw (p.1, p.2) (none_under _ _ _ c.args.k _ c.in_err-bit.ensures)

pub read-requires : goal.read-requires
read-requires c = record { order = c.requires.laid_out; within = place_there _ _ _ c.args.k _ (ap Ok (sym c.in-Place.is) ∙ c.in_ok-bit.ensures) }

pub returns-in-Constant : goal.returns-in-Constant
unfolding TableUnder
returns-in-Constant c = constant_under _ _ _ c.args.k _ _ (ap Ok (sym c.in-Constant.is) ∙ c.in_ok-bit.ensures) c.constant.ensures

pub returns-in-Place : goal.returns-in-Place
unfolding TableUnder
returns-in-Place c = place_under _ _ _ c.args.k _ _ c.requires.places (ap Ok (sym c.in-Place.is) ∙ c.in_ok-bit.ensures) c.read.ensures
