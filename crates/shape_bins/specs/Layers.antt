-- The shapes of one layer.
use Rattle.std.specs.Prelude.{ℕ, List, [], ◌∷◌, ◌==◌, if◌then◌else◌}
use Rattle.or_geom.specs.declared.shape.Rect.{Rect}
use Rattle.or_geom.specs.declared.shape.Shape.{Shape}
use Rattle.or_geom.specs.Covered.{IsCovered}

-- the rectangles of a layer
abbrev pub rects_on : ℕ → List Shape → List Rect
rects_on layer [] = []
rects_on layer (s ∷ ss) = if s.layer == layer then s.rect ∷ rects_on layer ss else rects_on layer ss

-- each unit cell of the area lies in some shape of the layer
abbrev pub IsCoveredBy : ℕ → List Shape → Rect → Type 0
IsCoveredBy layer shapes area = IsCovered area (rects_on layer shapes)
