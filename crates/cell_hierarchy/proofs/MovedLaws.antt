-- Shapes that were moved.
use Rattle.std.proofs.Common.{◌≡◌, sym, ◌∙◌, ap, pos, ◌+ℤ◌, arith}
use Rattle.std.proofs.lemmas.Int.{ints}
use Rattle.or_geom.specs.declared.shape.Point.{Point}
use Rattle.or_geom.specs.declared.place.Orient.{Orient}
use Rattle.or_geom.specs.declared.place.Orient.TheVariants.{R0, R90, R180, R270, MX, MX90, MX180, MX270}
use Rattle.or_geom.specs.declared.shape.Shape.{Shape}
use Rattle.or_geom.specs.declared.place.Place.{Place}
use Rattle.or_geom.specs.Place.{turned, placed}
use Rattle.or_geom.proofs.PlaceLaws.{image_once, same_point, origin}
use Rattle.cell_hierarchy.specs.FlatSet.{IsMoved}

pub moved_once : (place : Place) (inner s t : Shape) → IsMoved place inner s → IsMoved place inner t → s ≡ t
moved_once place inner s t a b =
    let layer = a.layer ∙ sym b.layer in
    let rect = image_once (placed place) inner.rect s.rect t.rect a.image b.image in
    λ i. record { layer = layer i; rect = rect i }

origin_turned : (o : Orient) → turned o origin ≡ origin
origin_turned R0 = same_point _ _ (omega (arith, ints)) (omega (arith, ints))
origin_turned R90 = same_point _ _ (omega (arith, ints)) (omega (arith, ints))
origin_turned R180 = same_point _ _ (omega (arith, ints)) (omega (arith, ints))
origin_turned R270 = same_point _ _ (omega (arith, ints)) (omega (arith, ints))
origin_turned MX = same_point _ _ (omega (arith, ints)) (omega (arith, ints))
origin_turned MX90 = same_point _ _ (omega (arith, ints)) (omega (arith, ints))
origin_turned MX180 = same_point _ _ (omega (arith, ints)) (omega (arith, ints))
origin_turned MX270 = same_point _ _ (omega (arith, ints)) (omega (arith, ints))

-- a cell's origin lies where the cell is placed
pub origin_at : (place : Place) → placed place origin ≡ place.at
origin_at place =
    let x : pos 0 +ℤ place.at.x ≡ place.at.x = omega (arith, ints) in
    let y : pos 0 +ℤ place.at.y ≡ place.at.y = omega (arith, ints) in
    ap (λ (p : Point). record { x = p.x +ℤ place.at.x; y = p.y +ℤ place.at.y }) (origin_turned place.orient) ∙ same_point _ _ x y
