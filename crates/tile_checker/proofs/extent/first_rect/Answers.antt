use Rattle.or_geom.proofs.ListLaws.{contained_at}
use Rattle.tile_checker.proofs.PlaceLaws.{reachable_in}
use Rattle.tile_checker.proofs.extent.first_rect.Goals as goal

pub returns : goal.returns
returns c = reachable_in c.args.shapes.now c.shape_at.result c.requires (contained_at c.args.shapes.now 0 c.shape_at.result c.shape_at.ensures)
