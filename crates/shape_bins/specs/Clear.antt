-- How far other shapes stand from a box that a layer covers.
use Rattle.std.specs.Prelude.{◌≡◌, ℕ, ℤ, pos, ◌+ℤ◌, ◌<ℤ◌, List, length, slice_get, Some}
use Rattle.or_geom.specs.declared.shape.Point.{Point}
use Rattle.or_geom.specs.declared.shape.Rect.{Rect}
use Rattle.or_geom.specs.declared.shape.Shape.{Shape}
use Rattle.or_geom.specs.Containing.{HoldsRect}
use Rattle.or_geom.specs.Row.{IsFound}
use Rattle.shape_bins.specs.declared.clear.ClearBox.{ClearBox}
use Rattle.shape_bins.specs.Layers.{rects_on}
use Rattle.shape_bins.specs.Meets.{Meet}

-- across and upward the rectangles are nearer to each other than this
pub record AreNearer (reach : ℤ) (a b : Rect) : Type 0 where
  pub left : a.x1 <ℤ (b.x2 +ℤ reach)
  pub right : b.x1 <ℤ (a.x2 +ℤ reach)
  pub low : a.y1 <ℤ (b.y2 +ℤ reach)
  pub high : b.y1 <ℤ (a.y2 +ℤ reach)

-- no shape of the layer that the box doesn't hold comes nearer to it than the clearance, where that is positive
abbrev pub HasClearance : List Shape → ℕ → Rect → ℤ → Type 0
HasClearance shapes layer box clearance = pos 0 <ℤ clearance → (place : ℕ) (s : Shape) → slice_get shapes place ≡ Some s → s.layer ≡ layer → AreNearer clearance s.rect box → (HoldsRect box s.rect → ⊥) → ⊥

-- what comes nearer to the rectangle than the clearance meets the grown one
abbrev pub IsGrownBelow : ℤ → Rect → Rect → Type 0
IsGrownBelow clearance rect grown = (r : Rect) → AreNearer clearance r rect → Meet r grown

-- the clearances of the first boxes
pub record AreClearTo (shapes boxes : List Shape) (count : ℕ) (clearances : List ℤ) : Type 0 where
  pub sized : length clearances ≡ count
  pub each : (place : ℕ) (box : Shape) (clearance : ℤ) → slice_get boxes place ≡ Some box → slice_get clearances place ≡ Some clearance → HasClearance shapes box.layer box.rect clearance

-- of all boxes
abbrev pub AreClear : List Shape → List Shape → List ℤ → Type 0
AreClear shapes boxes = AreClearTo shapes boxes (length boxes)

-- a box that the layer covers and that holds the cell, with its clearance
pub record IsClearBox (shapes : List Shape) (layer : ℕ) (cell : Point) (box : ClearBox) : Type 0 where
  pub found : IsFound (rects_on layer shapes) cell box.rect
  pub clear : HasClearance shapes layer box.rect box.clearance
