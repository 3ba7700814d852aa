-- How a pin's shape has to lie in its cell, whose lower left corner is the origin.
use Rattle.std.specs.Prelude.{◌≡◌, ℤ, pos, ◌-ℤ◌}
use Rattle.or_geom.specs.declared.shape.Rect.{Rect}
use Rattle.leaf_shapes.specs.declared.fit.CellSize.{CellSize}
use Rattle.leaf_shapes.specs.declared.fit.Fit.{Fit}
use Rattle.leaf_shapes.specs.declared.fit.Fit.TheVariants.{Top, Bottom, TopAndBottom, Left, Right, LeftAndRight, Anywhere, LowerRail, UpperRail}

-- it is as wide as a wire
abbrev pub IsAcross : ℤ → Rect → Type 0
IsAcross wire r = r.x2 -ℤ r.x1 ≡ wire

-- it is as high as a wire is wide
abbrev pub IsWireHigh : ℤ → Rect → Type 0
IsWireHigh wire r = r.y2 -ℤ r.y1 ≡ wire

-- it goes from the cell's left edge to its right edge
abbrev pub Spans : CellSize → Rect → Type 0
Spans size r = (r.x1 ≡ pos 0) × (r.x2 ≡ size.width)

abbrev pub FitsCell : Fit → ℤ → CellSize → Rect → Type 0
FitsCell Top wire size r = (r.y2 ≡ size.height) × IsAcross wire r
FitsCell Bottom wire size r = (r.y1 ≡ pos 0) × IsAcross wire r
FitsCell TopAndBottom wire size r = (r.y2 ≡ size.height) × (r.y1 ≡ pos 0) × IsAcross wire r
FitsCell Left wire size r = (r.x1 ≡ pos 0) × IsWireHigh wire r
FitsCell Right wire size r = (r.x2 ≡ size.width) × IsWireHigh wire r
FitsCell LeftAndRight wire size r = Spans size r × IsWireHigh wire r
FitsCell Anywhere wire size r = IsWireHigh wire r
FitsCell LowerRail wire size r = Spans size r × (r.y1 ≡ pos 0) × (r.y2 ≡ wire)
FitsCell UpperRail wire size r = Spans size r × (r.y1 ≡ size.height -ℤ wire) × (r.y2 ≡ size.height)
