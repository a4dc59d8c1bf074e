use Rattle.plain.proofs.Pairs.{amplitudes, equal_then_same, same_then_equal, same_answers, equal_products, outcomes}
use Rattle.plain.proofs.Sounds.{goes_on, answers_go_on, sound_run, four}
use Rattle.plain.proofs.run_laws.Goals as goal

pub returns : goal.returns
returns c = record {
  goes_on = goes_on;
  answers_go_on = answers_go_on;
  four = four;
  sound = sound_run;
  amplitudes = λ s cs r c o. amplitudes s.qubits c (sound_run s cs r c o);
  equal_then_same = λ s cs q r c d o p. equal_then_same s.qubits c (sound_run s cs q c o) d (sound_run s cs r d p);
  same_then_equal = λ s cs q r c d o p. same_then_equal s.qubits c (sound_run s cs q c o) d (sound_run s cs r d p);
  same_answers = λ s cs q r c d o p. same_answers s.qubits c (sound_run s cs q c o) d (sound_run s cs r d p);
  equal_products = λ s cs q r c d o p. equal_products s.qubits c (sound_run s cs q c o) d (sound_run s cs r d p);
  outcomes = λ s cs r q c o. outcomes s.qubits c (sound_run s cs r c o) q;
}
