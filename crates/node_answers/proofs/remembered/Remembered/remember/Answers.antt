use Rattle.std.proofs.Common.{◌≡◌, IfSome}
use Rattle.std.proofs.lemmas.List.Elements.{All-set}
use Rattle.node_answers.specs.Answers.{Right}
use Rattle.node_answers.proofs.remembered.Remembered.remember.Goals as goal

pub returns-clause-sound : goal.returns-clause-sound
returns-clause-sound c s sound right = All-set (λ e. IfSome e (λ x. x.generation ≡ c.args.self.now.generation → Right s x.question x.answer)) _ _ _ (λ p. right) sound
