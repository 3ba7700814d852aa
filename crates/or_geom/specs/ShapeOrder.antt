-- The order of rectangles and of shapes.
use Rattle.std.specs.Ordering.{ordering_then, int_cmp, nat_cmp}
use Rattle.std.specs.declared.cmp.Ordering.{Ordering}
use Rattle.or_geom.specs.declared.shape.Rect.{Rect}
use Rattle.or_geom.specs.declared.shape.Shape.{Shape}

-- by x1, y1, x2 and y2
abbrev pub rect_order : Rect → Rect → Ordering
rect_order a b = ordering_then (int_cmp a.x1 b.x1) (ordering_then (int_cmp a.y1 b.y1) (ordering_then (int_cmp a.x2 b.x2) (int_cmp a.y2 b.y2)))

-- by layer, and then as the rectangles
abbrev pub shape_order : Shape → Shape → Ordering
shape_order a b = ordering_then (nat_cmp a.layer b.layer) (rect_order a.rect b.rect)
