-- The boxes of a path, segment by segment.
use Rattle.std.proofs.Common.{◌≡◌, List, [], ◌++◌, ℤ, ◌-ℤ◌, refl, subst, ◌∙◌, FitsSigned, to_z, of_z, arith}
use Rattle.std.proofs.lemmas.Int.{ints, to_z-of_z}
use Rattle.std.specs.Int.{w32, w64}
use Rattle.std.proofs.lemmas.List.{append-nil}
use Rattle.std.specs.List.{AllByRecursion}
use Rattle.or_geom.specs.declared.shape.Point.{Point}
use Rattle.or_geom.specs.declared.shape.Rect.{Rect}
use Rattle.rectilinear.specs.Simple.{AllStraight}
use Rattle.gds_records.specs.Values.{IsShort}
use Rattle.gds_library.specs.Values.{segments_from}
use Rattle.element_drawing.specs.declared.extent.AxisExtent.{AxisExtent}
use Rattle.element_drawing.specs.declared.boxes.Stroke.{Stroke}
use Rattle.element_drawing.specs.declared.boxes.Tip.{Tip}
use Rattle.element_drawing.specs.declared.boxes.Segment.{Segment}
use Rattle.element_drawing.specs.Paths.{IsSegmentBox, AreBoxesFrom}
use Rattle.element_drawing.specs.Segments.{IsHalfWidth, IsStretchExtent, IsOver}

-- the boxes so far, which those of the rest complete
pub record AreBoxesBut (stroke : Stroke) (first : Point) (others : List Point) (tip : Tip) (rest : List Point) (boxes : List Rect) : Type 0 where
  pub completes : (more : List Rect) → AreBoxesFrom stroke.half stroke.last tip.before tip.at rest more → AreBoxesFrom stroke.half stroke.last stroke.last first others (boxes ++ more)
  pub before : IsHalfWidth tip.before
  pub at : IsShort tip.at
  pub short : AllByRecursion IsShort rest
  pub straight : AllStraight (segments_from tip.at rest)

pub boxes_all : (stroke : Stroke) (first : Point) (others : List Point) (tip : Tip) (boxes : List Rect) → AreBoxesBut stroke first others tip [] boxes → AreBoxesFrom stroke.half stroke.last stroke.last first others boxes
boxes_all stroke first others tip boxes but = subst (AreBoxesFrom stroke.half stroke.last stroke.last first others) (append-nil boxes) (but.completes [] refl)

pub upright_is_box : (s : Segment) (across upward : AxisExtent) (r : Rect) → s.from.x ≡ s.to.x → IsStretchExtent (record { from = s.from.x; to = s.from.x; before = s.half; after = s.half }) across
    → IsStretchExtent (record { from = s.from.y; to = s.to.y; before = s.before; after = s.after }) upward → IsOver across upward r → IsSegmentBox s.half s.before s.after s.from s.to r
upright_is_box s across upward r level x y over =
    let x_is = x.rising (omega (arith, ints)) in
    record {
      right = λ h. let less = h.rises in absurd (omega (arith, ints, less, level));
      left = λ h. let less = h.rises in absurd (omega (arith, ints, less, level));
      up = λ h. let less = h.rises in let y_is = y.rising (omega (arith, ints, less)) in record { x1 = over.x1 ∙ x_is.low; y1 = over.y1 ∙ y_is.low; x2 = over.x2 ∙ x_is.high; y2 = over.y2 ∙ y_is.high };
      down = λ h. let y_is = y.falling h.rises in record { x1 = over.x1 ∙ x_is.low; y1 = over.y1 ∙ y_is.low; x2 = over.x2 ∙ x_is.high; y2 = over.y2 ∙ y_is.high };
    }

pub level_is_box : (s : Segment) (across upward : AxisExtent) (r : Rect) → s.from.y ≡ s.to.y → IsStretchExtent (record { from = s.from.x; to = s.to.x; before = s.before; after = s.after }) across
    → IsStretchExtent (record { from = s.from.y; to = s.from.y; before = s.half; after = s.half }) upward → IsOver across upward r → IsSegmentBox s.half s.before s.after s.from s.to r
level_is_box s across upward r level x y over =
    let y_is = y.rising (omega (arith, ints)) in
    record {
      right = λ h. let less = h.rises in let x_is = x.rising (omega (arith, ints, less)) in record { x1 = over.x1 ∙ x_is.low; y1 = over.y1 ∙ y_is.low; x2 = over.x2 ∙ x_is.high; y2 = over.y2 ∙ y_is.high };
      left = λ h. let x_is = x.falling h.rises in record { x1 = over.x1 ∙ x_is.low; y1 = over.y1 ∙ y_is.low; x2 = over.x2 ∙ x_is.high; y2 = over.y2 ∙ y_is.high };
      up = λ h. let less = h.rises in absurd (omega (arith, ints, less, level));
      down = λ h. let less = h.rises in absurd (omega (arith, ints, less, level));
    }

pub difference_kept : (a b : ℤ) → FitsSigned w32 a → IsHalfWidth b → to_z w64 (of_z w64 (to_z w64 (of_z w64 a) -ℤ to_z w64 (of_z w64 b))) ≡ a -ℤ b
difference_kept a b f length =
    let fits_a : FitsSigned w64 a = omega (arith, ints, f) in
    let fits_b : FitsSigned w64 b = omega (arith, ints, length.above, length.below) in
    let fits : FitsSigned w64 (a -ℤ b) = omega (arith, ints, f, length.above, length.below) in
    rw (to_z-of_z w64 a fits_a, to_z-of_z w64 b fits_b, to_z-of_z w64 (a -ℤ b) fits) refl

pub short_kept : (z : ℤ) → FitsSigned w32 z → to_z w64 (of_z w64 z) ≡ z
short_kept z fits = to_z-of_z w64 z (omega (arith, ints, fits))

pub length_kept : (z : ℤ) → IsHalfWidth z → to_z w64 (of_z w64 z) ≡ z
length_kept z length = to_z-of_z w64 z (omega (arith, ints, length.above, length.below))
