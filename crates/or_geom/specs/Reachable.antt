-- Shapes that lie near the origin.
use Rattle.std.specs.Prelude.{List, [], ◌∷◌}
use Rattle.or_geom.specs.declared.shape.Shape.{Shape}
use Rattle.or_geom.specs.Distance.{IsReachable}

-- all coordinates are within 2^40
abbrev pub AreReachable : List Shape → Type 0
AreReachable [] = Unit {0}
AreReachable (s ∷ ss) = IsReachable s.rect × AreReachable ss
