use Rattle.std.proofs.Common.{◌∷◌, take}
use Rattle.rectilinear.specs.Extents.{HoldsSides}
use Rattle.rectilinear.proofs.simple.hull_of.Given as goal

abbrev pub invariant-loop-side : goal.invariant-loop-side
invariant-loop-side l = HoldsSides l.hull (l.fn.first ∷ take l.side-index l.others)
