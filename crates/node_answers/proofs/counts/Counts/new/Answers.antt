use Rattle.std.proofs.Common.{◌%◌, IfSome, arith}
use Rattle.std.proofs.lemmas.List.Elements.{All-replicate}
use Rattle.node_answers.specs.Counts.{IsCount}
use Rattle.node_answers.proofs.Slots.{nothing_in}
use Rattle.node_answers.proofs.counts.Counts.new.Goals as goal

pub returns-clause-none : goal.returns-clause-none
returns-clause-none c handle ones e = nothing_in 2048 (handle % 2048) _ (omega arith) e

pub returns-clause-right : goal.returns-clause-right
returns-clause-right c s = All-replicate (λ e. IfSome e (λ x. IsCount s x.handle x.ones)) 2048 _ tt
