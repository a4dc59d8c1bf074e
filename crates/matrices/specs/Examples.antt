-- Worked examples, as one table.
use Rattle.std.specs.Prelude.{◌≡◌, ℕ, true, false, List, [], ◌∷◌, map, ℤ, pos, negsuc, codes}
use Rattle.exact.specs.declared.Quadruple.{Quadruple}
use Rattle.exact.specs.declared.Weight.{Weight}
use Rattle.exact.specs.Indices.{bits}
use Rattle.exact.specs.Quadruples.{quadruple}
use Rattle.exact.specs.States.{State, state, amplitude_at, width}
use Rattle.exact.specs.Squares.{outcome, weight}
use Rattle.exact.specs.Texts.{amplitude_text, weight_text}
use Rattle.gates.specs.declared.Gate.{Gate}
use Rattle.gates.specs.declared.Gate.TheVariants.{X, Z, H, S, T, Rx, Ry, Cx, Cz, Ccx}
use Rattle.matrices.specs.Registers.{Move, register}

abbrev pub on_0 : Gate → Move
on_0 g = record { gate = g; qubits = 0 ∷ [] }

abbrev pub cx_0_1 : Move
cx_0_1 = record { gate = Cx; qubits = 0 ∷ 1 ∷ [] }

abbrev pub cz_0_1 : Move
cz_0_1 = record { gate = Cz; qubits = 0 ∷ 1 ∷ [] }

abbrev pub ccx_0_1_2 : Move
ccx_0_1_2 = record { gate = Ccx; qubits = 0 ∷ 1 ∷ 2 ∷ [] }

-- one or two qubits, opened at i and led through gates
abbrev pub one_qubit : ℕ → List Gate → State
one_qubit i gates = register 1 (bits 1 i) (map on_0 gates)

abbrev pub two_qubits : ℕ → List Move → State
two_qubits i moves = register 2 (bits 2 i) moves

-- (|00⟩ + |11⟩)/√2
abbrev pub bell_pair : State
bell_pair = two_qubits 0 (on_0 H ∷ cx_0_1 ∷ [])

abbrev pub −1 : ℤ
−1 = negsuc 0

abbrev pub 𝟎 : Quadruple
𝟎 = quadruple (pos 0) (pos 0) (pos 0) (pos 0)

abbrev pub 𝟏 : Quadruple
𝟏 = quadruple (pos 0) (pos 0) (pos 0) (pos 1)

abbrev pub −𝟏 : Quadruple
−𝟏 = quadruple (pos 0) (pos 0) (pos 0) −1

-- whole part, root part and power
abbrev pub weighs : ℕ → ℤ → ℕ → Weight
weighs whole root k = record { whole = whole; root = root; power = record { 0 = k } }

pub record Examples : Type 0 where
  pub open_0 : one_qubit 0 [] ≡ state 0 (𝟏 ∷ 𝟎 ∷ [])
  pub open_0_width : width (one_qubit 0 []).quadruples ≡ 2
  pub h : one_qubit 0 (H ∷ []) ≡ state 1 (𝟏 ∷ 𝟏 ∷ [])
  pub h_h : one_qubit 0 (H ∷ H ∷ []) ≡ one_qubit 0 []
  pub h_t_h : one_qubit 0 (H ∷ T ∷ H ∷ []) ≡ state 2 (quadruple (pos 0) (pos 0) (pos 1) (pos 1) ∷ quadruple (pos 0) (pos 0) −1 (pos 1) ∷ [])
  pub h_t_h_outcome_0 : weight 1 (outcome 0 false) (one_qubit 0 (H ∷ T ∷ H ∷ [])) ≡ weighs 2 (pos 1) 2
  pub h_t_h_outcome_1 : weight 1 (outcome 0 true) (one_qubit 0 (H ∷ T ∷ H ∷ [])) ≡ weighs 2 −1 2
  pub z : one_qubit 1 (Z ∷ []) ≡ state 0 (𝟎 ∷ −𝟏 ∷ [])
  pub z_width : width (one_qubit 1 (Z ∷ [])).quadruples ≡ 1
  pub rx : one_qubit 0 (Rx ∷ []) ≡ state 1 (𝟏 ∷ quadruple (pos 0) −1 (pos 0) (pos 0) ∷ [])
  pub ry : one_qubit 1 (Ry ∷ []) ≡ state 1 (−𝟏 ∷ 𝟏 ∷ [])
  pub cx : two_qubits 2 (cx_0_1 ∷ []) ≡ state 0 (𝟎 ∷ 𝟎 ∷ 𝟎 ∷ 𝟏 ∷ [])
  -- every gate that the rows above leave out: x, s and t on one qubit, cz on 11, ccx on 110
  pub x : one_qubit 0 (X ∷ []) ≡ state 0 (𝟎 ∷ 𝟏 ∷ [])
  pub s : one_qubit 1 (S ∷ []) ≡ state 0 (𝟎 ∷ quadruple (pos 0) (pos 1) (pos 0) (pos 0) ∷ [])
  pub t : one_qubit 1 (T ∷ []) ≡ state 0 (𝟎 ∷ quadruple (pos 0) (pos 0) (pos 1) (pos 0) ∷ [])
  pub cz : two_qubits 3 (cz_0_1 ∷ []) ≡ state 0 (𝟎 ∷ 𝟎 ∷ 𝟎 ∷ −𝟏 ∷ [])
  pub ccx : register 3 (bits 3 6) (ccx_0_1_2 ∷ []) ≡ state 0 (𝟎 ∷ 𝟎 ∷ 𝟎 ∷ 𝟎 ∷ 𝟎 ∷ 𝟎 ∷ 𝟎 ∷ 𝟏 ∷ [])
  pub bell : bell_pair ≡ state 1 (𝟏 ∷ 𝟎 ∷ 𝟎 ∷ 𝟏 ∷ [])
  -- as they are written
  pub bell_amplitude : amplitude_text (amplitude_at bell_pair 3) ≡ codes "0 0 0 1 1"
  pub bell_weight : weight_text (weight 2 (outcome 0 true) bell_pair) ≡ codes "1 0 1 500"
  pub h_t_h_weight : weight_text (weight 1 (outcome 0 true) (one_qubit 0 (H ∷ T ∷ H ∷ []))) ≡ codes "2 -1 2 -"
