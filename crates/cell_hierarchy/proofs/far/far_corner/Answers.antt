use Rattle.cell_hierarchy.specs.Far.{IsFarCornerAt}
use Rattle.cell_hierarchy.proofs.FarLaws.{first_begins, corner_goes_on, corner_ends}
use Rattle.cell_hierarchy.proofs.far.far_corner.Goals as goal

pub loop-shape-init : goal.loop-shape-init
loop-shape-init c = first_begins (IsFarCornerAt c.args.shapes.now)

pub loop-shape-preserved : goal.loop-shape-preserved
loop-shape-preserved c =
    corner_goes_on c.args.shapes.now c.loop-shape.shape-index c.shape-item.result _ _ _ c.loop-shape-test.true c.shape-item.is c.first_of-first.ensures c.loop-shape.invariant c.far_corner_of.ensures

pub returns : goal.returns
returns c = corner_ends c.args.shapes.now c.loop-shape.shape-index _ c.loop-shape-test.false c.loop-shape.invariant
