use Rattle.plain.proofs.Arrays.{first_of_array}
use Rattle.plain.proofs.Steps.{refused_unchanged, refused_answer, accepted_answer, amplitude_unchanged, weight_unchanged, same_unchanged, others_unchanged, opened, gate_applied, closed, copied, source_unchanged}
use Rattle.plain.proofs.call_laws.Goals as goal

pub returns : goal.returns
returns c = record {
  refused_unchanged = refused_unchanged;
  refused_answer = refused_answer;
  accepted_answer = accepted_answer;
  amplitude_unchanged = amplitude_unchanged;
  weight_unchanged = weight_unchanged;
  same_unchanged = same_unchanged;
  others_unchanged = others_unchanged;
  first_of_array = first_of_array;
  opened = opened;
  gate_applied = gate_applied;
  closed = closed;
  copied = copied;
  source_unchanged = source_unchanged;
}
