-- What holds of rings and their slabs.
use Rattle.std.specs.Prelude.{◌≡◌, ◌↔◌, ℕ, ℤ, List, false}
use Rattle.std.specs.List.{AllByRecursion}
use Rattle.or_geom.specs.declared.shape.Point.{Point}
use Rattle.or_geom.specs.declared.shape.Rect.{Rect}
use Rattle.or_geom.specs.Covered.{HasCellInSome}
use Rattle.or_geom.specs.Place.{IsWithin, low_corner, high_corner}
use Rattle.rectilinear.specs.Ring.{sides_of}
use Rattle.rectilinear.specs.Slabs.{IsInside, IsSlab, IsSlabList}
use Rattle.rectilinear.specs.Rows.{is_odd_passed}

-- Each row of cells is passed by an even number of a ring's sides.
abbrev pub RingIsClosed : Type 0
RingIsClosed = (corners : List Point) (y : ℤ) → is_odd_passed (sides_of corners) y ≡ false

-- The slabs of a ring have exactly the cells inside it.
abbrev pub SlabsFill : Type 0
SlabsFill = (corners : List Point) (rects : List Rect) → IsSlabList corners rects → (x y : ℤ) → HasCellInSome rects x y ↔ IsInside corners x y

-- Slabs lie no further out than the corners of their ring.
abbrev pub SlabsStayNear : Type 0
SlabsStayNear = (n : ℕ) (corners : List Point) (r : Rect) → AllByRecursion (IsWithin n) corners → IsSlab corners r → IsWithin n (low_corner r) × IsWithin n (high_corner r)
