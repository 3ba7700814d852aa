use Rattle.tile_checker.proofs.TileLaws.{area_goes_on, area_ends}
use Rattle.tile_checker.proofs.extent.extent.Goals as goal

pub loop-shape-preserved : goal.loop-shape-preserved
loop-shape-preserved c = area_goes_on c.args.shapes.now c.loop-shape.shape-index c.shape-item.result _ _ c.requires c.loop-shape-test.true c.shape-item.is c.loop-shape.invariant c.around-area.ensures

pub returns-clause-reach : goal.returns-clause-reach
returns-clause-reach c = c.loop-shape.invariant.reach

pub returns-clause-corners : goal.returns-clause-corners
returns-clause-corners c = area_ends c.args.shapes.now c.loop-shape.shape-index _ c.loop-shape-test.false c.loop-shape.invariant
