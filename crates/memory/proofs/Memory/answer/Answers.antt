use Rattle.std.proofs.Common.{sym, ◌∙◌}
use Rattle.memory.proofs.Remembering.{all_right_made, made_recalled}
use Rattle.memory.proofs.Memory.answer.Goals as goal

pub returns-in-Some-clause-made : goal.returns-in-Some-clause-made
returns-in-Some-clause-made g c =
    made_recalled _ _ c.args.asked _ (g.met.S.FunctionStore.lawful _ c.requires.below) c.requires.right (sym c.recall.ensures ∙ c.in-Some.is)

pub returns-in-None-clause-order : goal.returns-in-None-clause-order
returns-in-None-clause-order g c = record { below = c.combine.ensures.order; right = all_right_made _ _ _ _ _ c.combine.ensures.made c.requires.right }
