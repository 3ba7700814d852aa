use Rattle.std.proofs.Common.{◌∙◌, ap, arith}
use Rattle.std.proofs.lemmas.Int.{ints}
use Rattle.std.proofs.lemmas.Option.{get_or_from_slice_get}
use Rattle.or_geom.specs.declared.shape.Rect.{Rect}
use Rattle.or_geom.proofs.PlaceLaws.{same_point}
use Rattle.drawn_devices.proofs.devices.first_corner.Goals as goal

pub returns : goal.returns
returns c first is =
    let e = c.index-boxes-0.is ∙ get_or_from_slice_get c.args.boxes.now 0 first c.index-boxes-0.result is in
    let x = ap (λ (r : Rect). r.x1) e in
    let y = ap (λ (r : Rect). r.y1) e in
    same_point _ _ (omega (arith, ints, x)) (omega (arith, ints, y))
