-- The segments of a path while its boxes are made.
use Rattle.std.specs.Prelude.{◌≡◌, ◌^◌, pos, ℤ, ◌≤ℤ◌, ◌<ℤ◌, ◌+ℤ◌, ◌-ℤ◌, List, [], ◌∷◌, FitsSigned}
use Rattle.std.specs.Int.{w32}
use Rattle.or_geom.specs.declared.shape.Point.{Point}
use Rattle.or_geom.specs.declared.shape.Rect.{Rect}
use Rattle.rectilinear.specs.Simple.{IsStraight}
use Rattle.gds_records.specs.Values.{IsShort}
use Rattle.element_drawing.specs.declared.extent.AxisExtent.{AxisExtent}
use Rattle.element_drawing.specs.declared.stretch.Stretch.{Stretch}
use Rattle.element_drawing.specs.declared.boxes.Stroke.{Stroke}
use Rattle.element_drawing.specs.declared.boxes.Tip.{Tip}
use Rattle.element_drawing.specs.declared.boxes.Segment.{Segment}
use Rattle.element_drawing.specs.Paths.{IsEnd}

-- at most half of the greatest width
pub record IsHalfWidth (z : ℤ) : Type 0 where
  pub above : pos 0 ≤ℤ z
  pub below : z ≤ℤ pos (2 ^ 30)

pub record IsShortStretch (s : Stretch) : Type 0 where
  pub from : FitsSigned w32 s.from
  pub to : FitsSigned w32 s.to
  pub before : IsHalfWidth s.before
  pub after : IsHalfWidth s.after

abbrev pub turned_stretch : Stretch → Stretch
turned_stretch s = record { from = s.to; to = s.from; before = s.after; after = s.before }

-- from a low number to a high one
pub record IsFromTo (from to : ℤ) (e : AxisExtent) : Type 0 where
  pub low : e.low ≡ from
  pub high : e.high ≡ to

-- longer before its beginning and after its end, whichever of them is the lower
pub record IsStretchExtent (s : Stretch) (e : AxisExtent) : Type 0 where
  pub rising : s.from ≤ℤ s.to → IsFromTo (s.from -ℤ s.before) (s.to +ℤ s.after) e
  pub falling : s.to <ℤ s.from → IsFromTo (s.to -ℤ s.after) (s.from +ℤ s.before) e

pub record IsOver (across upward : AxisExtent) (r : Rect) : Type 0 where
  pub x1 : r.x1 ≡ across.low
  pub y1 : r.y1 ≡ upward.low
  pub x2 : r.x2 ≡ across.high
  pub y2 : r.y2 ≡ upward.high

pub record IsShortStroke (stroke : Stroke) : Type 0 where
  pub some : pos 0 <ℤ stroke.half
  pub half : IsHalfWidth stroke.half
  pub last : IsHalfWidth stroke.last

-- half the width, and the length of the path's ends
pub record IsStroke (kind width : ℤ) (stroke : Stroke) : Type 0 where
  pub halves : width ≡ stroke.half +ℤ stroke.half
  pub last_is : IsEnd kind stroke.half stroke.last

pub record IsShortSegment (s : Segment) : Type 0 where
  pub from : IsShort s.from
  pub to : IsShort s.to
  pub some : pos 0 <ℤ s.half
  pub half : IsHalfWidth s.half
  pub before : IsHalfWidth s.before
  pub after : IsHalfWidth s.after
  pub straight : IsStraight (record { a = s.from; b = s.to })

-- the length at a point that these others follow
abbrev pub longer_before : Stroke → List Point → ℤ
longer_before stroke [] = stroke.last
longer_before stroke (p ∷ ps) = stroke.half

abbrev pub segment_at : Stroke → Tip → Point → List Point → Segment
segment_at stroke tip to others = record { from = tip.at; to = to; half = stroke.half; before = tip.before; after = longer_before stroke others }
