-- The images of the corners differ in both directions.
use Rattle.std.proofs.Common.{ap, sym, ◌∙◌}
use Rattle.or_geom.specs.declared.shape.Point.{Point}
use Rattle.or_geom.specs.Place.{placed}
use Rattle.or_geom.proofs.PlaceLaws.{corners_differ}
use Rattle.or_geom.proofs.place.Place.apply.Goals as goal

pub box_between-requires-clause-in_x : goal.box_between-requires-clause-in_x
box_between-requires-clause-in_x c e =
    let a = c.point_at.ensures ∙ ap (placed c.args.self.now) c.low_corner_of.ensures.is in
    let b = c.point_at-2.ensures ∙ ap (placed c.args.self.now) c.high_corner_of.ensures.is in
    (corners_differ c.args.self.now c.args.r).0 (ap (λ (p : Point). p.x) (sym a) ∙ (e ∙ ap (λ (p : Point). p.x) b))

pub box_between-requires-clause-in_y : goal.box_between-requires-clause-in_y
box_between-requires-clause-in_y c e =
    let a = c.point_at.ensures ∙ ap (placed c.args.self.now) c.low_corner_of.ensures.is in
    let b = c.point_at-2.ensures ∙ ap (placed c.args.self.now) c.high_corner_of.ensures.is in
    (corners_differ c.args.self.now c.args.r).1 (ap (λ (p : Point). p.y) (sym a) ∙ (e ∙ ap (λ (p : Point). p.y) b))
