use Rattle.std.proofs.Common.{inr, drop}
use Rattle.std.proofs.lemmas.List.{drop_all}
use Rattle.leaf_contacts.proofs.NearbyLaws.{hull_all, hull_more}
use Rattle.leaf_contacts.proofs.contact.hull_of.Goals as goal

pub loop-shape-init : goal.loop-shape-init
loop-shape-init c shape h = inr h

pub loop-shape-preserved : goal.loop-shape-preserved
loop-shape-preserved c shape h = hull_more c.args.shapes.now c.loop-shape.shape-index c.shape-item.result c.loop-shape.hull c.around-hull.result shape c.loop-shape-test.true c.shape-item.is c.around-hull.ensures (c.loop-shape.invariant shape h)

pub returns : goal.returns
returns c shape h = hull_all c.args.shapes.now (drop c.loop-shape.shape-index c.args.shapes.now) c.loop-shape.hull shape (drop_all c.loop-shape.shape-index c.args.shapes.now c.loop-shape-test.false) (c.loop-shape.invariant shape h)
