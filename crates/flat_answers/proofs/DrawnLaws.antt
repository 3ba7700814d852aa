-- The elements of a library draw a list of shapes.
use Rattle.std.proofs.Common.{◌≡◌, ◌≢◌, ◌⊎◌, inl, inr, ℕ, ℤ, pos, ◌≤ℤ◌, ◌<ℤ◌, ◌+ℤ◌, ◌-ℤ◌, ◌*ℤ◌, List, [], ◌∷◌, ◌++◌, map, Option, Some, None, refl}
use Rattle.std.proofs.Common.{arith, int_div, int_rem}
use Rattle.std.specs.List.{AllByRecursion}
use Rattle.std.proofs.lemmas.Int.{ints, by_lt_z, quot-rem}
use Rattle.or_geom.specs.declared.shape.Point.{Point}
use Rattle.or_geom.specs.declared.shape.Rect.{Rect}
use Rattle.or_geom.specs.declared.shape.Shape.{Shape}
use Rattle.rectilinear.specs.Ring.{side}
use Rattle.rectilinear.specs.Simple.{AllStraight, IsStraight}
use Rattle.gds_library.specs.declared.library.Element.{Element}
use Rattle.gds_library.specs.declared.library.Element.TheVariants.{Boundary, Path, Sref, Aref, Text}
use Rattle.gds_library.specs.Values.{segments_from}
use Rattle.gds_library.specs.Writable.{IsWritableBody, IsWritableElement, IsWritableTrack}
use Rattle.tech_rules.specs.declared.tech.Layer.{Layer}
use Rattle.element_drawing.specs.Drawing.{IsDrawing}
use Rattle.element_drawing.specs.OwnShapes.{element_layer, on_layer, AreOn, AreOwnShapes}
use Rattle.element_drawing.specs.Paths.{IsSegmentBox, AreBoxesFrom, IsEnd, AreBoxes}
use Rattle.flat_answers.proofs.SlabThereLaws.{slabs_there}

-- some length, or none
abbrev IsSome : ℤ → Type 0
IsSome z = pos 0 ≤ℤ z

-- the box of a segment, by its direction
module _ (half before after : ℤ) (some : pos 0 <ℤ half) (b : IsSome before) (a : IsSome after) (p q : Point) where
  level_box : p.y ≡ q.y → p.x ≢ q.x → (r : Rect) × IsSegmentBox half before after p q r
  level_box level differ = by_lt_z p.x q.x
      (λ lt. (
        record {
          x1 = p.x -ℤ before;
          y1 = p.y -ℤ half;
          x2 = q.x +ℤ after;
          y2 = p.y +ℤ half;
          wide = omega (arith, ints, a, b, lt);
          tall = omega (arith, ints, some);
        },
        record {
          right = λ w. record { x1 = refl; y1 = refl; x2 = refl; y2 = refl };
          left = λ w. let rises = w.rises in absurd (omega (arith, ints, rises, lt));
          up = λ w. let rises = w.rises in absurd (omega (arith, ints, rises, level));
          down = λ w. let rises = w.rises in absurd (omega (arith, ints, rises, level));
        },
      ))
      (λ ge. let lt : q.x <ℤ p.x = by_lt_z q.x p.x (λ l. l) (λ le. absurd (differ (omega (arith, ints, ge, le)))) in (
        record {
          x1 = q.x -ℤ after;
          y1 = p.y -ℤ half;
          x2 = p.x +ℤ before;
          y2 = p.y +ℤ half;
          wide = omega (arith, ints, a, b, lt);
          tall = omega (arith, ints, some);
        },
        record {
          right = λ w. let rises = w.rises in absurd (omega (arith, ints, rises, lt));
          left = λ w. record { x1 = refl; y1 = refl; x2 = refl; y2 = refl };
          up = λ w. let rises = w.rises in absurd (omega (arith, ints, rises, level));
          down = λ w. let rises = w.rises in absurd (omega (arith, ints, rises, level));
        },
      ))

  upright_box : p.x ≡ q.x → p.y ≢ q.y → (r : Rect) × IsSegmentBox half before after p q r
  upright_box upright differ = by_lt_z p.y q.y
      (λ lt. (
        record {
          x1 = p.x -ℤ half;
          y1 = p.y -ℤ before;
          x2 = p.x +ℤ half;
          y2 = q.y +ℤ after;
          wide = omega (arith, ints, some);
          tall = omega (arith, ints, a, b, lt);
        },
        record {
          right = λ w. let rises = w.rises in absurd (omega (arith, ints, rises, upright));
          left = λ w. let rises = w.rises in absurd (omega (arith, ints, rises, upright));
          up = λ w. record { x1 = refl; y1 = refl; x2 = refl; y2 = refl };
          down = λ w. let rises = w.rises in absurd (omega (arith, ints, rises, lt));
        },
      ))
      (λ ge. let lt : q.y <ℤ p.y = by_lt_z q.y p.y (λ l. l) (λ le. absurd (differ (omega (arith, ints, ge, le)))) in (
        record {
          x1 = p.x -ℤ half;
          y1 = q.y -ℤ after;
          x2 = p.x +ℤ half;
          y2 = p.y +ℤ before;
          wide = omega (arith, ints, some);
          tall = omega (arith, ints, a, b, lt);
        },
        record {
          right = λ w. let rises = w.rises in absurd (omega (arith, ints, rises, upright));
          left = λ w. let rises = w.rises in absurd (omega (arith, ints, rises, upright));
          up = λ w. let rises = w.rises in absurd (omega (arith, ints, rises, lt));
          down = λ w. record { x1 = refl; y1 = refl; x2 = refl; y2 = refl };
        },
      ))

  box_there : IsStraight (side p q) → (r : Rect) × IsSegmentBox half before after p q r
  box_there (inl upright) = upright_box upright.0 upright.1
  box_there (inr level) = level_box level.0 level.1

boxes_from : (half last before : ℤ) → pos 0 <ℤ half → IsSome last → IsSome before → (p : Point) (ps : List Point) → AllStraight (segments_from p ps)
    → (rects : List Rect) × AreBoxesFrom half last before p ps rects
boxes_from half last before some l b p [] straight = ([], refl)
boxes_from half last before some l b p (q ∷ []) straight = let first = box_there half before last some b l p q straight.0 in
    (first.0 ∷ [], (first.1, refl))
boxes_from half last before some l b p (q ∷ next ∷ qs) straight =
    let long : IsSome half = omega (arith, ints, some) in
    let first = box_there half before half some b long p q straight.0 in
    let rest = boxes_from half last half some l long q (next ∷ qs) straight.1 in
    (first.0 ∷ rest.0, (first.1, rest.1))

end_there : (kind half : ℤ) → pos 0 <ℤ half → (kind ≡ pos 0) ⊎ (kind ≡ pos 2) → (last : ℤ) × IsSome last × IsEnd kind half last
end_there kind half some (inl flush) = (pos 0, omega (arith, ints), inl (flush, refl))
end_there kind half some (inr longer) = (half, omega (arith, ints, some), inr (longer, refl))

boxes_there : (kind width : ℤ) (points : List Point) → IsWritableTrack kind width points → (rects : List Rect) × AreBoxes kind width points rects
boxes_there kind width [] w = ([], refl)
boxes_there kind width (p ∷ ps) w =
    let half = int_div width (pos 2) in
    let even = w.even in
    let positive = w.positive in
    let whole : int_div width (pos 2) *ℤ pos 2 +ℤ int_rem width (pos 2) ≡ width = quot-rem width (pos 2) in
    let halves : width ≡ half +ℤ half = omega (arith, ints, even, whole) in
    let some : pos 0 <ℤ half = omega (arith, ints, positive, halves) in
    let end = end_there kind half some w.ends in
    let boxes = boxes_from half end.0 end.0 some end.1 end.1 p ps w.straight in
    (boxes.0, record { half = half; last = end.0; halves = halves; last_is = end.2; boxes = boxes.1 })

drawing_there : (e : Element) → IsWritableBody e → (rects : List Rect) × IsDrawing e rects
drawing_there (Boundary layer datatype points props) w = slabs_there points
drawing_there (Path layer datatype kind width points props) w = boxes_there kind width points w
drawing_there (Sref name place props) w = ([], refl)
drawing_there (Aref name place columns rows across down props) w = ([], refl)
drawing_there (Text layer texttype at string props) w = ([], refl)

on_there : (place : Option ℕ) (IsDrawn : List Rect → Type 0) → (rects : List Rect) × IsDrawn rects
    → (shapes : List Shape) × AreOn place IsDrawn shapes
on_there None IsDrawn drawn = ([], refl)
on_there (Some layer) IsDrawn drawn = (map (on_layer layer) drawn.0, (drawn.0, drawn.1, refl))

pub shapes_there : (layers : List Layer) (es : List Element) → AllByRecursion IsWritableElement es
    → (shapes : List Shape) × AreOwnShapes layers es shapes
shapes_there layers [] w = ([], refl)
shapes_there layers (e ∷ es) w =
    let first = on_there (element_layer layers e) (IsDrawing e) (drawing_there e w.0.body) in
    let rest = shapes_there layers es w.1 in
    (first.0 ++ rest.0, (first.0, rest.0, first.1, rest.1, refl))
