-- The heights of corners.
use Rattle.std.specs.Prelude.{◌≡◌, ℤ, ◌≤ℤ◌, ◌<ℤ◌, List, Contains}
use Rattle.or_geom.specs.declared.shape.Point.{Point}
use Rattle.or_geom.specs.declared.shape.Rect.{Rect}
use Rattle.rectilinear.specs.Slabs.{HasHeight, IsSlab, AreDistinct}

-- the lowest height of a corner above low
pub record IsNext (corners : List Point) (low high : ℤ) : Type 0 where
  pub has : HasHeight corners high
  pub above : low <ℤ high
  pub none : (h : ℤ) → HasHeight corners h → low <ℤ h → high ≤ℤ h

-- all slabs that begin at this height, each once
pub record AreSlabsFrom (corners : List Point) (low : ℤ) (rects : List Rect) : Type 0 where
  pub only : (r : Rect) → Contains rects r → IsSlab corners r
  pub each : (r : Rect) → IsSlab corners r → r.y1 ≡ low → Contains rects r
  pub level : (r : Rect) → Contains rects r → r.y1 ≡ low
  pub distinct : AreDistinct rects
