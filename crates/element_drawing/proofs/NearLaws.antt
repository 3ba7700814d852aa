-- What writable elements draw lies within 2^32.
use Rattle.std.proofs.Common.{◌≡◌, ◌≢◌, inl, inr, ℕ, List, [], ◌∷◌, ◌++◌, ◌^◌, map, ℤ, pos, ◌+ℤ◌, ◌-ℤ◌, ◌≤ℤ◌, ◌<ℤ◌, Option, Some, None, FitsSigned, sym, subst, arith}
use Rattle.std.specs.Int.{w32}
use Rattle.std.specs.Prelude.{Contains}
use Rattle.std.specs.List.{AllByRecursion}
use Rattle.std.proofs.lemmas.Int.{ints, by_lt_z}
use Rattle.or_geom.specs.declared.shape.Point.{Point}
use Rattle.or_geom.specs.declared.shape.Rect.{Rect}
use Rattle.or_geom.specs.declared.shape.Shape.{Shape}
use Rattle.or_geom.specs.Place.{IsWithin}
use Rattle.or_geom.proofs.ListLaws.{contains_first, contains_later}
use Rattle.rectilinear.specs.Simple.{IsStraight, AllStraight}
use Rattle.gds_records.specs.Values.{IsShort}
use Rattle.gds_library.specs.declared.library.Element.{Element}
use Rattle.gds_library.specs.declared.library.Element.TheVariants.{Boundary, Path, Sref, Aref, Text}
use Rattle.gds_library.specs.Values.{segments_from}
use Rattle.gds_library.specs.Writable.{IsWritableTrack, IsWritableElement}
use Rattle.rectilinear.specs.Slabs.{IsSlabList}
use Rattle.rectilinear.proofs.NearLaws.{slabs_stay_near}
use Rattle.tech_rules.specs.declared.tech.Layer.{Layer}
use Rattle.element_drawing.specs.PlainLabel.{PlainLabel}
use Rattle.element_drawing.specs.Paths.{IsRectOf, IsSegmentBox, AreBoxesFrom, IsEnd, AreBoxes}
use Rattle.element_drawing.specs.Drawing.{IsDrawing}
use Rattle.element_drawing.specs.OwnLabels.{own_labels, with_label, text_place_of, IsLabelWithin}
use Rattle.element_drawing.specs.OwnShapes.{AreOn, AreOwnShapes, element_layer, on_layer, IsRectWithin, IsShapeWithin}
use Rattle.element_drawing.specs.Segments.{IsHalfWidth}

short_above : (z : ℤ) → FitsSigned w32 z → pos 0 ≤ℤ (z +ℤ pos (2 ^ 32))
short_above z fits = omega (arith, ints, fits)

short_below : (z : ℤ) → FitsSigned w32 z → z ≤ℤ pos (2 ^ 32)
short_below z fits = omega (arith, ints, fits)

point_near : (p : Point) → IsShort p → IsWithin (2 ^ 32) p
point_near p short = record { x_above = short_above p.x short.x; x_below = short_below p.x short.x; y_above = short_above p.y short.y; y_below = short_below p.y short.y }

points_near : (ps : List Point) → AllByRecursion IsShort ps → AllByRecursion (IsWithin (2 ^ 32)) ps
points_near [] short = tt
points_near (p ∷ ps) short = (point_near p short.0, points_near ps short.1)

-- labels

label_near : (place : Option ℕ) (name : List ℕ) (at : Point) (labels : List PlainLabel) → IsShort at → AllByRecursion (IsLabelWithin (2 ^ 32)) labels → AllByRecursion (IsLabelWithin (2 ^ 32)) (with_label place name at labels)
label_near None name at labels short near = near
label_near (Some layer) name at labels short near = (point_near at short, near)

pub labels_near : (layers : List Layer) (elements : List Element) → AllByRecursion IsWritableElement elements → AllByRecursion (IsLabelWithin (2 ^ 32)) (own_labels layers elements)
labels_near layers [] writable = tt
labels_near layers (Boundary layer datatype points props ∷ es) writable = labels_near layers es writable.1
labels_near layers (Path layer datatype kind width points props ∷ es) writable = labels_near layers es writable.1
labels_near layers (Sref name place props ∷ es) writable = labels_near layers es writable.1
labels_near layers (Aref name place columns rows across down props ∷ es) writable = labels_near layers es writable.1
labels_near layers (Text layer texttype at string props ∷ es) writable =
    let text = writable.0.body in label_near (text_place_of layers layer texttype) string at (own_labels layers es) text.short (labels_near layers es writable.1)

-- boxes of a path

-- a coordinate and a length away from it
lower_above : (y z n : ℤ) → y ≡ z -ℤ n → FitsSigned w32 z → IsHalfWidth n → pos 0 ≤ℤ (y +ℤ pos (2 ^ 32))
lower_above y z n is fits length = omega (arith, ints, is, fits, length.above, length.below)

lower_below : (y z n : ℤ) → y ≡ z -ℤ n → FitsSigned w32 z → IsHalfWidth n → y ≤ℤ pos (2 ^ 32)
lower_below y z n is fits length = omega (arith, ints, is, fits, length.above, length.below)

higher_above : (y z n : ℤ) → y ≡ z +ℤ n → FitsSigned w32 z → IsHalfWidth n → pos 0 ≤ℤ (y +ℤ pos (2 ^ 32))
higher_above y z n is fits length = omega (arith, ints, is, fits, length.above, length.below)

higher_below : (y z n : ℤ) → y ≡ z +ℤ n → FitsSigned w32 z → IsHalfWidth n → y ≤ℤ pos (2 ^ 32)
higher_below y z n is fits length = omega (arith, ints, is, fits, length.above, length.below)

box_near : (left bottom right top a b c d : ℤ) (r : Rect) → FitsSigned w32 left → FitsSigned w32 bottom → FitsSigned w32 right → FitsSigned w32 top → IsHalfWidth a → IsHalfWidth b → IsHalfWidth c → IsHalfWidth d
    → IsRectOf (left -ℤ a) (bottom -ℤ b) (right +ℤ c) (top +ℤ d) r → IsRectWithin (2 ^ 32) r
box_near left bottom right top a b c d r fl fb fr ft la lb lc ld box = record {
  low = record { x_above = lower_above r.x1 left a box.x1 fl la; x_below = lower_below r.x1 left a box.x1 fl la; y_above = lower_above r.y1 bottom b box.y1 fb lb; y_below = lower_below r.y1 bottom b box.y1 fb lb };
  high = record { x_above = higher_above r.x2 right c box.x2 fr lc; x_below = higher_below r.x2 right c box.x2 fr lc; y_above = higher_above r.y2 top d box.y2 ft ld; y_below = higher_below r.y2 top d box.y2 ft ld };
}

strict : (a b : ℤ) → b ≤ℤ a → a ≢ b → b <ℤ a
strict a b le ne = by_lt_z b a (λ lt. lt) (λ ge. absurd (ne (omega (arith, ints, le, ge))))

segment_near : (half before after : ℤ) (p q : Point) (r : Rect) → IsHalfWidth half → IsHalfWidth before → IsHalfWidth after → IsShort p → IsShort q → IsStraight (record { a = p; b = q }) → IsSegmentBox half before after p q r → IsRectWithin (2 ^ 32) r
segment_near half before after p q r lh lb la sp sq (inl up) box =
    by_lt_z p.y q.y
    (λ lt. box_near p.x p.y p.x q.y half before half after r sp.x sp.y sp.x sq.y lh lb lh la (box.up (record { level = up.0; rises = lt })))
    (λ ge. box_near p.x q.y p.x p.y half after half before r sp.x sq.y sp.x sp.y lh la lh lb (box.down (record { level = sym up.0; rises = strict p.y q.y ge up.1 })))
segment_near half before after p q r lh lb la sp sq (inr across) box =
    by_lt_z p.x q.x
    (λ lt. box_near p.x p.y q.x p.y before half after half r sp.x sp.y sq.x sp.y lb lh la lh (box.right (record { level = across.0; rises = lt })))
    (λ ge. box_near q.x p.y p.x p.y after half before half r sq.x sp.y sp.x sp.y la lh lb lh (box.left (record { level = sym across.0; rises = strict p.x q.x ge across.1 })))

boxes_from_near : (half last before : ℤ) (p : Point) (qs : List Point) (rects : List Rect) → IsHalfWidth half → IsHalfWidth last → IsHalfWidth before → AllByRecursion IsShort (p ∷ qs) → AllStraight (segments_from p qs) → AreBoxesFrom half last before p qs rects
    → AllByRecursion (IsRectWithin (2 ^ 32)) rects
boxes_from_near half last before p [] rects lh ll lb short straight are = subst (AllByRecursion (IsRectWithin (2 ^ 32))) (sym are) tt
boxes_from_near half last before p (q ∷ qs) [] lh ll lb short straight are = tt
boxes_from_near half last before p (q ∷ []) (r ∷ rs) lh ll lb short straight are =
    (segment_near half before last p q r lh lb ll short.0 short.1.0 straight.0 are.0, subst (AllByRecursion (IsRectWithin (2 ^ 32))) (sym are.1) tt)
boxes_from_near half last before p (q ∷ next ∷ qs) (r ∷ rs) lh ll lb short straight are =
    (segment_near half before half p q r lh lb lh short.0 short.1.0 straight.0 are.0, boxes_from_near half last half q (next ∷ qs) rs lh ll lh short.1 straight.1 are.1)

half_length : (width half : ℤ) → pos 1 ≤ℤ width → width ≤ℤ pos 0x7FFFFFFF → width ≡ half +ℤ half → IsHalfWidth half
half_length width half positive most is = record { above = omega (arith, ints, positive, is); below = omega (arith, ints, most, is) }

zero_length : (z : ℤ) → z ≡ pos 0 → IsHalfWidth z
zero_length z is = record { above = omega (arith, ints, is); below = omega (arith, ints, is) }

end_length : (kind half last : ℤ) → IsHalfWidth half → IsEnd kind half last → IsHalfWidth last
end_length kind half last length (inl flush) = zero_length last flush.1
end_length kind half last length (inr longer) = subst IsHalfWidth (sym longer.1) length

path_near : (kind width : ℤ) (points : List Point) (rects : List Rect) → IsWritableTrack kind width points → AreBoxes kind width points rects → AllByRecursion (IsRectWithin (2 ^ 32)) rects
path_near kind width [] rects track are = subst (AllByRecursion (IsRectWithin (2 ^ 32))) (sym are) tt
path_near kind width (p ∷ ps) rects track are =
    let half = half_length width are.half track.positive track.most are.halves in
    let last = end_length kind are.half are.last half are.last_is in
    boxes_from_near are.half are.last are.last p ps rects half last last track.short track.straight are.boxes

-- slabs

slabs_near : (corners : List Point) (all rest : List Rect) → AllByRecursion (IsWithin (2 ^ 32)) corners → IsSlabList corners all → ((r : Rect) → Contains rest r → Contains all r) → AllByRecursion (IsRectWithin (2 ^ 32)) rest
slabs_near corners all [] near are inside = tt
slabs_near corners all (r ∷ rs) near are inside =
    let slab = (are.exact r).0 (inside r (contains_first r rs)) in
    let within = slabs_stay_near (2 ^ 32) corners r near slab in
    (record { low = within.0; high = within.1 }, slabs_near corners all rs near are (λ s has. inside s (contains_later r rs s has)))

drawing_near : (e : Element) (rects : List Rect) → IsWritableElement e → IsDrawing e rects → AllByRecursion (IsRectWithin (2 ^ 32)) rects
drawing_near (Boundary layer datatype points props) rects writable is = let ring = writable.body in slabs_near points rects rects (points_near points ring.short) is (λ r has. has)
drawing_near (Path layer datatype kind width points props) rects writable is = path_near kind width points rects writable.body is
drawing_near (Sref name place props) rects writable is = subst (AllByRecursion (IsRectWithin (2 ^ 32))) (sym is) tt
drawing_near (Aref name place columns rows across down props) rects writable is = subst (AllByRecursion (IsRectWithin (2 ^ 32))) (sym is) tt
drawing_near (Text layer texttype at string props) rects writable is = subst (AllByRecursion (IsRectWithin (2 ^ 32))) (sym is) tt

-- shapes

on_layer_near : (layer : ℕ) (rects : List Rect) → AllByRecursion (IsRectWithin (2 ^ 32)) rects → AllByRecursion (IsShapeWithin (2 ^ 32)) (map (on_layer layer) rects)
on_layer_near layer [] near = tt
on_layer_near layer (r ∷ rs) near = (near.0, on_layer_near layer rs near.1)

drawn_near : (place : Option ℕ) (IsDrawn : List Rect → Type 0) (shapes : List Shape) → ((rects : List Rect) → IsDrawn rects → AllByRecursion (IsRectWithin (2 ^ 32)) rects) → AreOn place IsDrawn shapes → AllByRecursion (IsShapeWithin (2 ^ 32)) shapes
drawn_near None IsDrawn shapes near are = subst (AllByRecursion (IsShapeWithin (2 ^ 32))) (sym are) tt
drawn_near (Some layer) IsDrawn shapes near are = subst (AllByRecursion (IsShapeWithin (2 ^ 32))) (sym are.2) (on_layer_near layer are.0 (near are.0 are.1))

both_near : (first rest : List Shape) → AllByRecursion (IsShapeWithin (2 ^ 32)) first → AllByRecursion (IsShapeWithin (2 ^ 32)) rest → AllByRecursion (IsShapeWithin (2 ^ 32)) (first ++ rest)
both_near [] rest a b = b
both_near (s ∷ ss) rest a b = (a.0, both_near ss rest a.1 b)

pub shapes_near : (layers : List Layer) (elements : List Element) (shapes : List Shape) → AllByRecursion IsWritableElement elements → AreOwnShapes layers elements shapes → AllByRecursion (IsShapeWithin (2 ^ 32)) shapes
shapes_near layers [] shapes writable are = subst (AllByRecursion (IsShapeWithin (2 ^ 32))) (sym are) tt
shapes_near layers (e ∷ es) shapes writable are =
    subst (AllByRecursion (IsShapeWithin (2 ^ 32))) (sym are.4)
    (both_near are.0 are.1 (drawn_near (element_layer layers e) (IsDrawing e) are.0 (λ rects is. drawing_near e rects writable.0 is) are.2) (shapes_near layers es are.1 writable.1 are.3))
