-- The first qubits of an array.
use Rattle.std.proofs.Common.{◌≡◌, ℕ, ◌+◌, ◌<◌, ◌≤◌, List, map, length, get_or, take, sym, ap, ◌∙◌, subst, arith}
use Rattle.std.specs.List.{range_with_len}
use Rattle.std.proofs.lemmas.List.FromFn.{get_or-map-range_with_len, length-range_with_len}
use Rattle.std.proofs.lemmas.List.{length-map, length-take-le, get_or-map, get_or-take, ext_get_or}
use Rattle.exact.specs.declared.Qubit.{Qubit}
use Rattle.plain.specs.Calls.{first_qubits}

number : Qubit → ℕ
number q = q.0

qubit_0 : Qubit
qubit_0 = record { 0 = 0 }

pub first_qubits_length : (m : ℕ) (qs : List Qubit) → length (first_qubits m qs) ≡ m
unfolding first_qubits
first_qubits_length m qs = length-map (range_with_len 0 m) (λ (i : ℕ). (get_or qs i (record { 0 = 0 })).0) ∙ length-range_with_len 0 m

pub first_of_array : (m : ℕ) (qs : List Qubit) → m ≤ length qs → first_qubits m qs ≡ map (λ (q : Qubit). q.0) (take m qs)
unfolding first_qubits number qubit_0
first_of_array m qs l = ext_get_or 0 (first_qubits m qs) (map number (take m qs)) (first_qubits_length m qs ∙ sym (length-map (take m qs) number ∙ length-take-le m qs l)) each
  where
    each : (i : ℕ) → i < length (first_qubits m qs) → get_or (first_qubits m qs) i 0 ≡ get_or (map number (take m qs)) i 0
    each i h =
        let b : i < m = subst (λ (k : ℕ). i < k) (first_qubits_length m qs) h in
        let t : i < length (take m qs) = subst (λ (k : ℕ). i < k) (sym (length-take-le m qs l)) b in
        get_or-map-range_with_len (λ (j : ℕ). (get_or qs j qubit_0).0) 0 m i i 0 b (let e : 0 + i ≡ i = omega arith in e)
        ∙ sym (get_or-map number (take m qs) i qubit_0 0 t ∙ ap number (get_or-take m qs i qubit_0 b))
