-- What is computed from the table, gate by gate. A further gate is a further line of each.
use Rattle.std.proofs.Common.{◌≡◌, ◌^◌, map, length, replicate, refl}
use Rattle.exact.specs.Indices.{number, total}
use Rattle.exact.proofs.Ring.{normal}
use Rattle.exact.proofs.Sums.{doubled}
use Rattle.gates.specs.declared.Gate.{Gate}
use Rattle.gates.specs.declared.Gate.TheVariants.{X, Z, H, S, T, Rx, Ry, Cx, Cz, Ccx}
use Rattle.gates.specs.Arity.{qubits_of}
use Rattle.matrices.specs.Gates.{gate_matrix, entry}
use Rattle.matrices.proofs.Small.{Multiplies}
use Rattle.matrices.proofs.Computed.{computed}

pub square_shaped : (g : Gate) → map length (gate_matrix g).rows ≡ replicate (2 ^ qubits_of g) (2 ^ qubits_of g)
square_shaped X = refl
square_shaped Z = refl
square_shaped H = refl
square_shaped S = refl
square_shaped T = refl
square_shaped Rx = refl
square_shaped Ry = refl
square_shaped Cx = refl
square_shaped Cz = refl
square_shaped Ccx = refl

pub kept : (g : Gate) → Multiplies g
unfolding total number entry doubled normal
kept X = computed X refl refl
kept Z = computed Z refl refl
kept H = computed H refl refl
kept S = computed S refl refl
kept T = computed T refl refl
kept Rx = computed Rx refl refl
kept Ry = computed Ry refl refl
kept Cx = computed Cx refl refl
kept Cz = computed Cz refl refl
kept Ccx = computed Ccx refl refl
