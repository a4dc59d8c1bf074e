use Rattle.std.proofs.Common.{◌≡◌, Bool, true, false, cond, refl}
use mir.Val.{bool_byte}
use Rattle.node_answers.specs.Answers.{key, slot_of}
use Rattle.node_answers.proofs.remembering.slot.Goals as goal
use Rattle.node_answers.proofs.remembering.slot.Goals.{in-Combined, in-Fixed}

byte : (b : Bool) → bool_byte b ≡ cond b 1 0
byte true = refl
byte false = refl

pub returns-clause-is : goal.returns-clause-is
unfolding slot_of key
returns-clause-is c = elim c.match-question.branch [
  | in-Combined w ↦ rw (w.key-is, w.in-Combined.is, w.from.ensures, w.from-in-Combined.ensures, w.from-in-Combined-2.ensures, w.from-in-Combined-3.ensures) refl
  | in-Fixed w ↦ rw (w.key-is, w.in-Fixed.is, w.from-in-Fixed.ensures, w.from-in-Fixed-2.ensures, w.from-in-Fixed-3.ensures, byte w.in-Fixed.x.bit) refl
]
