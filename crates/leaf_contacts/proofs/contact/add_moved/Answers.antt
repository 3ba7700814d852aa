use Rattle.std.proofs.Common.{drop, refl}
use Rattle.std.proofs.lemmas.List.{drop_all}
use Rattle.or_geom.proofs.GatheringLaws.{gather_ends}
use Rattle.or_geom.proofs.ShapeOrderLaws.{reachable_at}
use Rattle.cell_hierarchy.specs.FlatSet.{IsMoved}
use Rattle.leaf_contacts.proofs.NearbyLaws.{moved_more}
use Rattle.leaf_contacts.proofs.contact.add_moved.Goals as goal

pub loop-shape-init : goal.loop-shape-init
loop-shape-init c = record { completes = λ new adds. adds }

pub apply-requires-clause-rect : goal.apply-requires-clause-rect
apply-requires-clause-rect c = reachable_at c.args.loose.now c.loop-shape.shape-index c.shape-item.result c.requires.loose c.loop-shape-test.true c.shape-item.is

pub loop-shape-preserved : goal.loop-shape-preserved
loop-shape-preserved c =
    moved_more c.args.place c.args.loose.now c.loop-shape.shape-index c.shape-item.result _ c.args.moved.now.items c.loop-shape.moved.items _ c.loop-shape-test.true c.shape-item.is (record { layer = refl; image = c.apply.ensures }) c.in_ok-push.ensures.items c.loop-shape.invariant

pub returns : goal.returns
returns c =
    gather_ends (IsMoved c.args.place) c.args.loose.now (drop c.loop-shape.shape-index c.args.loose.now) c.args.moved.now.items c.loop-shape.moved.items (drop_all c.loop-shape.shape-index c.args.loose.now c.loop-shape-test.false) c.loop-shape.invariant
