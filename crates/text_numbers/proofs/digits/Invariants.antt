use Rattle.std.proofs.Common.{◌≡◌, ◌^◌, ◌<◌, drop}
use Rattle.text_numbers.specs.Numbers.{digits_value}
use Rattle.text_numbers.proofs.digits.Given as goal

abbrev pub invariant-loop-b : goal.invariant-loop-b
invariant-loop-b l = (l.value < 10 ^ l.b-index) × (digits_value l.value (drop l.b-index l.word) ≡ digits_value 0 l.word)
