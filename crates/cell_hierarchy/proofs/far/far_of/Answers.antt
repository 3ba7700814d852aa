use Rattle.or_geom.proofs.PlaceLaws.{origin}
use Rattle.cell_hierarchy.specs.Far.{IsFarPointAt}
use Rattle.cell_hierarchy.proofs.FarLaws.{first_begins, point_goes_on, point_ends}
use Rattle.cell_hierarchy.proofs.OwnLaws.{same_read}
use Rattle.std.proofs.Common.{get_or}
use Rattle.cell_hierarchy.proofs.far.far_of.Goals as goal

pub loop-p-init : goal.loop-p-init
loop-p-init c = first_begins (IsFarPointAt c.args.points.now)

pub loop-p-preserved : goal.loop-p-preserved
loop-p-preserved c =
    let i = c.loop-p.p-index in
    point_goes_on c.args.points.now i (get_or c.args.points.now i origin) _ _ _ c.loop-p-test.true (same_read c.args.points.now i origin (get_or c.args.points.now i origin) c.loop-p-test.true) c.first_of-first.ensures c.loop-p.invariant
    c.far_at.ensures

pub returns : goal.returns
returns c = point_ends c.args.points.now c.loop-p.p-index _ c.loop-p-test.false c.loop-p.invariant
