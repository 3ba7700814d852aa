-- Which rectangles a query looks for.
use Rattle.or_geom.specs.declared.shape.Rect.{Rect}
use Rattle.or_geom.specs.Covered.{HasCell}
use Rattle.or_geom.specs.Joined.{IsIn, AreJoined}
use Rattle.shape_bins.specs.declared.query.Query.{Query}
use Rattle.shape_bins.specs.declared.query.Query.TheVariants.{Meets, MeetsOutside, Joins, Overlaps, At, Holds}
use Rattle.or_geom.specs.Containing.{HoldsRect}
use Rattle.shape_bins.specs.Meets.{Meet, Overlap}

-- the rectangle meets the area, and isn't held
pub record IsOutside (area held r : Rect) : Type 0 where
  pub meets : Meet r area
  pub outside : HoldsRect held r → ⊥

-- a shape with this rectangle is one that the query looks for
abbrev pub FitsQuery : Query → Rect → Type 0
FitsQuery (Meets area) r = Meet r area
FitsQuery (MeetsOutside area held) r = IsOutside area held r
FitsQuery (Joins area) r = AreJoined r area
FitsQuery (Overlaps area) r = Overlap r area
FitsQuery (At point) r = IsIn r point
FitsQuery (Holds cell) r = HasCell r cell.x cell.y
