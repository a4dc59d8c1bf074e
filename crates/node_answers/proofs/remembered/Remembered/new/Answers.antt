use Rattle.std.proofs.Common.{◌≡◌, ◌≤◌, IfSome}
use Rattle.std.proofs.lemmas.List.Elements.{All-replicate}
use Rattle.node_answers.specs.Answers.{Right, slot_of}
use Rattle.node_answers.proofs.Slots.{nothing_in, slot_below}
use Rattle.node_answers.proofs.remembered.Remembered.new.Goals as goal

pub invariant_of-result : goal.invariant_of-result
invariant_of-result c = record { dated = All-replicate (λ e. IfSome e (λ x. x.generation ≤ 0)) 4096 _ tt }

pub returns-clause-none : goal.returns-clause-none
returns-clause-none c q a e = nothing_in 4096 (slot_of q) _ (slot_below q) e

pub returns-clause-sound : goal.returns-clause-sound
returns-clause-sound c s = All-replicate (λ e. IfSome e (λ x. x.generation ≡ 0 → Right s x.question x.answer)) 4096 _ tt
