-- Edges of boxes in an area, and cuts across it.
use Rattle.std.specs.Prelude.{◌≡◌, ◌⊎◌, ℕ, ◌+◌, ◌<◌, ℤ, ◌-ℤ◌, ◌<ℤ◌, List, length, Contains, unsigned_abs}
use Rattle.or_geom.specs.declared.shape.Rect.{Rect}
use Rattle.or_geom.specs.Covered.{HasCell}
use Rattle.box_pieces.specs.declared.edges.Axis.{Axis}
use Rattle.box_pieces.specs.declared.edges.Axis.TheVariants.{Across, Upward}
use Rattle.box_pieces.specs.declared.cut.Cut.{Cut}

-- the ends of what a rectangle takes of an axis
abbrev pub low_of : Axis → Rect → ℤ
low_of Across r = r.x1
low_of Upward r = r.y1

abbrev pub high_of : Axis → Rect → ℤ
high_of Across r = r.x2
high_of Upward r = r.y2

-- a place between two others
pub record IsPlaceBetween (low high place : ℤ) : Type 0 where
  pub above : low <ℤ place
  pub below : place <ℤ high

-- a place of an axis that lies within the area
abbrev pub IsPlaceWithin : Axis → Rect → ℤ → Type 0
IsPlaceWithin axis area place = IsPlaceBetween (low_of axis area) (high_of axis area) place

-- neither edge of the rectangle does
pub record HasNoEdge (axis : Axis) (area r : Rect) : Type 0 where
  pub low : IsPlaceWithin axis area (low_of axis r) → ⊥
  pub high : IsPlaceWithin axis area (high_of axis r) → ⊥

-- nor those of any box
abbrev pub HaveNoEdge : Axis → Rect → List Rect → Type 0
HaveNoEdge axis area boxes = (r : Rect) → Contains boxes r → HasNoEdge axis area r

-- places within the area; there are some unless no box has an edge there
pub record AreEdges (axis : Axis) (area : Rect) (boxes : List Rect) (places : List ℤ) : Type 0 where
  pub each : (place : ℤ) → Contains places place → IsPlaceWithin axis area place
  pub none : length places ≡ 0 → HaveNoEdge axis area boxes

-- a value was added, if it lies between the ends
pub record AddsBetween (low high place : ℤ) (old new : List ℤ) : Type 0 where
  pub more : length old < length new ⊎ (IsPlaceBetween low high place → ⊥)
  pub longer : length old < length new + 1
  pub only : (p : ℤ) → Contains new p → Contains old p ⊎ IsPlaceBetween low high p

-- the cut runs within the area
abbrev pub CutsArea : Rect → Cut → Type 0
CutsArea area cut = IsPlaceWithin cut.axis area cut.at

-- no edge of the boxes runs within the area
pub record AreUncut (area : Rect) (boxes : List Rect) : Type 0 where
  pub across : HaveNoEdge Across area boxes
  pub upward : HaveNoEdge Upward area boxes

-- half of the way round the rectangle
abbrev pub half_round : Rect → ℕ
half_round r = unsigned_abs (r.x2 -ℤ r.x1) + unsigned_abs (r.y2 -ℤ r.y1)

-- two parts of the area that have all its unit cells
pub record AreHalves (area low high : Rect) : Type 0 where
  pub in_low : (x y : ℤ) → HasCell low x y → HasCell area x y
  pub in_high : (x y : ℤ) → HasCell high x y → HasCell area x y
  pub each : (x y : ℤ) → HasCell area x y → HasCell low x y ⊎ HasCell high x y
  pub low_less : half_round low < half_round area
  pub high_less : half_round high < half_round area
