use Rattle.std.proofs.Common.{List, ℤ}
use Rattle.readings.proofs.Adding.{Running}
use Rattle.readings.proofs.Numbers.{Reading}
use Rattle.readings.proofs.amplitudes.integer.Given as goal

-- the bits so far
abbrev pub invariant-loop-slice : goal.invariant-loop-slice
invariant-loop-slice g l = (bits : List ℤ) × Running 1 l.bits bits l.slice-index × Reading (g.S.FunctionStore.meaning l.store) l.slices.handles.now l.index bits l.slice-index
