use Rattle.cell_hierarchy.specs.Far.{HasFarCorner, HasFarPoint}
use Rattle.cell_hierarchy.proofs.FarLaws.{joined}
use Rattle.cell_hierarchy.proofs.far.far_point.Goals as goal

pub returns : goal.returns
returns c = joined (HasFarCorner c.args.shapes.now) (HasFarPoint c.args.points.now) c.far_corner.result c.far_of.result c.first_of.result c.first_of.ensures c.far_corner.ensures c.far_of.ensures
