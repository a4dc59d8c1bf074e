-- How many qubits a gate acts on.
use Rattle.std.specs.Prelude.{ℕ}
use Rattle.gates.specs.declared.Gate.{Gate}
use Rattle.gates.specs.declared.Gate.TheVariants.{X, Z, H, S, T, Rx, Ry, Cx, Cz, Ccx}

abbrev pub qubits_of : Gate → ℕ
qubits_of X = 1
qubits_of Z = 1
qubits_of H = 1
qubits_of S = 1
qubits_of T = 1
qubits_of Rx = 1
qubits_of Ry = 1
qubits_of Cx = 2
qubits_of Cz = 2
qubits_of Ccx = 3
