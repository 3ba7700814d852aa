-- When a rectangle contains another, and the least that contains two.
use Rattle.std.specs.Prelude.{◌≡◌, ◌≤ℤ◌}
use Rattle.std.specs.Int.{int_max, int_min}
use Rattle.or_geom.specs.declared.shape.Rect.{Rect}

-- the outer rectangle contains the inner
pub record HoldsRect (outer inner : Rect) : Type 0 where
  pub left : outer.x1 ≤ℤ inner.x1
  pub right : inner.x2 ≤ℤ outer.x2
  pub low : outer.y1 ≤ℤ inner.y1
  pub high : inner.y2 ≤ℤ outer.y2

-- the least rectangle that contains both
pub record IsAround (a b r : Rect) : Type 0 where
  pub x1 : r.x1 ≡ int_min a.x1 b.x1
  pub y1 : r.y1 ≡ int_min a.y1 b.y1
  pub x2 : r.x2 ≡ int_max a.x2 b.x2
  pub y2 : r.y2 ≡ int_max a.y2 b.y2
