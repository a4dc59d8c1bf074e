-- The four components of a quadruple.
use Rattle.std.specs.Prelude.{ℤ}
use Rattle.exact.specs.declared.Quadruple.{Quadruple}
use Rattle.slicing.specs.declared.Component.{Component}
use Rattle.slicing.specs.declared.Component.TheVariants.{A, B, C, D}

abbrev pub component : Component → Quadruple → ℤ
component A q = q.a
component B q = q.b
component C q = q.c
component D q = q.d
