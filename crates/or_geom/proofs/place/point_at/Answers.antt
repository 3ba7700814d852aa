-- The sums fit.
use Rattle.std.proofs.Common.{ap}
use Rattle.or_geom.specs.declared.shape.Point.{Point}
use Rattle.or_geom.proofs.PlaceLaws.{plus, sum_kept}
use Rattle.or_geom.proofs.place.point_at.Goals as goal

pub returns : goal.returns
returns c =
    let t = c.turned_by-turned.result in
    let at = c.args.place.at in
    rw (sum_kept t.x at.x c.turned_by-turned.ensures.near.x c.requires.offset.x, sum_kept t.y at.y c.turned_by-turned.ensures.near.y c.requires.offset.y)
    (ap (λ (p : Point). plus p at) c.turned_by-turned.ensures.is)
