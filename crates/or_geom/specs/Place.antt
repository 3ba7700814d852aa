-- Turns and offsets of the plane, and what they make of a rectangle.
use Rattle.std.specs.Prelude.{◌≡◌, ℕ, pos, ◌≤ℤ◌, ◌+ℤ◌, ◌-ℤ◌}
use Rattle.std.specs.Int.{int_max, int_min}
use Rattle.or_geom.specs.declared.shape.Point.{Point}
use Rattle.or_geom.specs.declared.shape.Rect.{Rect}
use Rattle.or_geom.specs.Distance.{IsNear}
use Rattle.or_geom.specs.declared.place.Orient.{Orient}
use Rattle.or_geom.specs.declared.place.Orient.TheVariants.{R0, R90, R180, R270, MX, MX90, MX180, MX270}
use Rattle.or_geom.specs.declared.place.Place.{Place}

-- both coordinates lie within 2^40
pub record IsNearPoint (p : Point) : Type 0 where
  pub x : IsNear p.x
  pub y : IsNear p.y

-- both coordinates lie within n
pub record IsWithin (n : ℕ) (p : Point) : Type 0 where
  pub x_above : pos 0 ≤ℤ (p.x +ℤ pos n)
  pub x_below : p.x ≤ℤ pos n
  pub y_above : pos 0 ≤ℤ (p.y +ℤ pos n)
  pub y_below : p.y ≤ℤ pos n

-- a counter-clockwise quarter turn
abbrev pub quarter : Point → Point
quarter p = record { x = pos 0 -ℤ p.y; y = p.x }

-- a reflection about the x axis
abbrev pub reflected : Point → Point
reflected p = record { x = p.x; y = pos 0 -ℤ p.y }

-- The eight turns, each a signed permutation of the coordinates. An MX form reflects about the x axis and then turns.
abbrev pub turned : Orient → Point → Point
turned R0 p = p
turned R90 p = record { x = pos 0 -ℤ p.y; y = p.x }
turned R180 p = record { x = pos 0 -ℤ p.x; y = pos 0 -ℤ p.y }
turned R270 p = record { x = p.y; y = pos 0 -ℤ p.x }
turned MX p = record { x = p.x; y = pos 0 -ℤ p.y }
turned MX90 p = record { x = p.y; y = p.x }
turned MX180 p = record { x = pos 0 -ℤ p.x; y = p.y }
turned MX270 p = record { x = pos 0 -ℤ p.y; y = pos 0 -ℤ p.x }

-- the turn and then the offset
abbrev pub placed : Place → Point → Point
placed place p = record { x = (turned place.orient p).x +ℤ place.at.x; y = (turned place.orient p).y +ℤ place.at.y }

abbrev pub low_corner : Rect → Point
low_corner r = record { x = r.x1; y = r.y1 }

abbrev pub high_corner : Rect → Point
high_corner r = record { x = r.x2; y = r.y2 }

-- s is the rectangle with these two opposite corners, in any order
pub record IsBetween (a b : Point) (s : Rect) : Type 0 where
  pub x1 : s.x1 ≡ int_min a.x b.x
  pub y1 : s.y1 ≡ int_min a.y b.y
  pub x2 : s.x2 ≡ int_max a.x b.x
  pub y2 : s.y2 ≡ int_max a.y b.y

-- s is the rectangle between the images of r's corners
abbrev pub IsImage : (Point → Point) → Rect → Rect → Type 0
IsImage move r s = IsBetween (move (low_corner r)) (move (high_corner r)) s
