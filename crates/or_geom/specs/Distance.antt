-- The squared distance of two rectangles.
use Rattle.std.specs.Prelude.{◌≡◌, ◌⊎◌, ◌^◌, ℤ, pos, ◌≤ℤ◌, ◌+ℤ◌, ◌-ℤ◌, ◌*ℤ◌}
use Rattle.or_geom.specs.declared.shape.Point.{Point}
use Rattle.or_geom.specs.declared.shape.Rect.{Rect}
use Rattle.or_geom.specs.declared.span.Span.{Span}
use Rattle.or_geom.specs.Joined.{IsIn}

-- a coordinate within 2^40
pub record IsNear (z : ℤ) : Type 0 where
  pub above : pos 0 ≤ℤ (z +ℤ pos (2 ^ 40))
  pub below : z ≤ℤ pos (2 ^ 40)

-- all four coordinates are
pub record IsReachable (r : Rect) : Type 0 where
  pub x1 : IsNear r.x1
  pub y1 : IsNear r.y1
  pub x2 : IsNear r.x2
  pub y2 : IsNear r.y2

-- the squared Euclidean distance of two points
abbrev pub dist2_of : Point → Point → ℤ
dist2_of p q = (p.x -ℤ q.x) *ℤ (p.x -ℤ q.x) +ℤ (p.y -ℤ q.y) *ℤ (p.y -ℤ q.y)

-- d is the least squared distance of a point of a from a point of b
pub record IsLeastDist2 (a b : Rect) (d : ℤ) : Type 0 where
  pub least : (p q : Point) → IsIn a p → IsIn b q → d ≤ℤ dist2_of p q
  pub p : Point
  pub q : Point
  pub p_in_a : IsIn a p
  pub q_in_b : IsIn b q
  pub reached : dist2_of p q ≡ d

-- both ends are within 2^40
pub record IsReachableSpan (s : Span) : Type 0 where
  pub low : IsNear s.low
  pub high : IsNear s.high

-- the number lies in the span or at its end
pub record IsInSpan (s : Span) (z : ℤ) : Type 0 where
  pub above : s.low ≤ℤ z
  pub below : z ≤ℤ s.high

-- d is the least distance of a number of a from a number of b
pub record IsLeastDistance (a b : Span) (d : ℤ) : Type 0 where
  pub least : (p q : ℤ) → IsInSpan a p → IsInSpan b q → ((p +ℤ d) ≤ℤ q) ⊎ (((q +ℤ d) ≤ℤ p) ⊎ (d ≡ pos 0))
  pub positive : pos 0 ≤ℤ d
  pub p : ℤ
  pub q : ℤ
  pub p_in_a : IsInSpan a p
  pub q_in_b : IsInSpan b q
  pub reached : (p +ℤ d ≡ q) ⊎ (q +ℤ d ≡ p)
