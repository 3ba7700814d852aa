-- Pieces of boxes that were added to others.
use Rattle.std.specs.Prelude.{List}
use Rattle.or_geom.specs.declared.shape.Rect.{Rect}
use Rattle.box_pieces.specs.declared.pieces.Pieces.{Pieces}
use Rattle.box_pieces.specs.Cells.{AddsCells, IsInArea, IsCellInside, IsCellOutside}

-- those of the boxes
pub record AreAdded (boxes by : List Rect) (old new : Pieces) : Type 0 where
  pub inside : AddsCells old.inside.items new.inside.items (IsCellInside boxes by)
  pub outside : AddsCells old.outside.items new.outside.items (IsCellOutside boxes by)

-- those of what lies in the area
pub record AreAddedIn (area : Rect) (boxes by : List Rect) (old new : Pieces) : Type 0 where
  pub inside : AddsCells old.inside.items new.inside.items (IsInArea area (IsCellInside boxes by))
  pub outside : AddsCells old.outside.items new.outside.items (IsInArea area (IsCellOutside boxes by))
