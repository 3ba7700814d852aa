-- What lies inside a ring of right angles, and the slabs into which it is cut.
use Rattle.std.specs.Prelude.{◌≡◌, ◌⊎◌, ◌↔◌, pos, ℤ, ◌-ℤ◌, ◌≤ℤ◌, ◌<ℤ◌, List, [], ◌∷◌, Bool, true, false, ◌&&◌, int_le, Contains}
use Rattle.or_geom.specs.declared.shape.Point.{Point}
use Rattle.or_geom.specs.declared.shape.Rect.{Rect}
use Rattle.or_geom.specs.Covered.{HasCell}
use Rattle.rectilinear.specs.declared.ring.RingSide.{RingSide}
use Rattle.rectilinear.specs.Ring.{sides_of}

abbrev pub xor : Bool → Bool → Bool
xor true true = false
xor true false = true
xor false b = b

-- the point lies at or below the row of cells
abbrev pub is_below : Point → ℤ → Bool
is_below p y = int_le p.y y

-- the side passes the row: one end lies at or below it, the other above
abbrev pub passes : RingSide → ℤ → Bool
passes s y = xor (is_below s.a y) (is_below s.b y)

abbrev pub is_left_of : RingSide → ℤ → ℤ → Bool
is_left_of s x y = passes s y && int_le s.a.x x

-- an odd number of the sides pass the cell's row at its left
abbrev pub is_odd_left : List RingSide → ℤ → ℤ → Bool
is_odd_left [] x y = false
is_odd_left (s ∷ ss) x y = xor (is_left_of s x y) (is_odd_left ss x y)

-- the unit cell with this lower left corner lies inside the ring
abbrev pub IsInside : List Point → ℤ → ℤ → Type 0
IsInside corners x y = is_odd_left (sides_of corners) x y ≡ true

abbrev pub HasHeight : List Point → ℤ → Type 0
HasHeight [] h = ⊥
HasHeight (p ∷ ps) h = (h ≡ p.y) ⊎ HasHeight ps h

-- two heights of corners with none between them
pub record AreNeighbours (corners : List Point) (low high : ℤ) : Type 0 where
  pub has_low : HasHeight corners low
  pub has_high : HasHeight corners high
  pub below : low <ℤ high
  pub none : (h : ℤ) → HasHeight corners h → low <ℤ h → high ≤ℤ h

-- between two neighbouring heights, a stretch inside the ring that is as long as can be
pub record IsSlab (corners : List Point) (r : Rect) : Type 0 where
  pub heights : AreNeighbours corners r.y1 r.y2
  pub inside : (x y : ℤ) → HasCell r x y → IsInside corners x y
  pub left_end : (y : ℤ) → r.y1 ≤ℤ y → y <ℤ r.y2 → IsInside corners (r.x1 -ℤ pos 1) y → ⊥
  pub right_end : (y : ℤ) → r.y1 ≤ℤ y → y <ℤ r.y2 → IsInside corners r.x2 y → ⊥

-- no item stands in the list again
abbrev pub AreDistinct : List Rect → Type 0
AreDistinct [] = Unit {0}
AreDistinct (r ∷ rs) = (Contains rs r → ⊥) × AreDistinct rs

-- all slabs of the ring, each once
pub record IsSlabList (corners : List Point) (rects : List Rect) : Type 0 where
  pub exact : (r : Rect) → Contains rects r ↔ IsSlab corners r
  pub distinct : AreDistinct rects
