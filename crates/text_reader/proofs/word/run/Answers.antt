use Rattle.std.proofs.Common.{not, rules}
use Rattle.std.proofs.lemmas.Iterator.{YieldsList-from_slice}
use Rattle.std.proofs.lemmas.Iterator.Search.{position_from_yields_List}
use Rattle.text_reader.proofs.Runs.{run_found}
use Rattle.text_reader.proofs.word.run.Goals as goal

pub returns : goal.returns
returns g c = λ of_kind tells.
    let text = c.args.text.now in
    let found = position_from_yields_List (λ b. not (of_kind b)) _ _ _ c.position-end.ensures.ran (YieldsList-from_slice text cc) (λ x b q k. search rules) in
    run_found of_kind text _ _ found c.unwrap_or.ensures
