use Rattle.std.proofs.Common.{arith}
use Rattle.shape_bins.proofs.CoverLaws.{over_hit, hit_read}
use Rattle.shape_bins.proofs.walk.rect_at.Goals as goal

pub returns-in-Some : goal.returns-in-Some
returns-in-Some c = hit_read c.args.forest.shapes.now c.args.layer c.args.cell c.in-Some.place c.index-forest-place.result c.in-Some.ensures

pub returns-in-None : goal.returns-in-None
returns-in-None c = λ h. let hit = over_hit c.args.forest.shapes.now c.args.layer c.args.cell h in c.in-None.ensures hit.0 (omega arith) hit.1
