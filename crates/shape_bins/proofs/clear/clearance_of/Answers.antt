use Rattle.shape_bins.proofs.ClearLaws.{clear_none}
use Rattle.shape_bins.proofs.clear.clearance_of.Goals as goal

pub returns-in_default-some_near : goal.returns-in_default-some_near
returns-in_default-some_near c = clear_none c.args.forest.shapes.now c.args.filled.layer c.args.filled.rect c.in-Some.area _ c.in-Some.ensures c.in_default-some_near.ensures
