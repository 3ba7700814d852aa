use Rattle.or_geom.proofs.AddsLaws.{adds_one}
use Rattle.or_geom.proofs.GatheringLaws.{gather_goes_on, gather_ends}
use Rattle.cell_hierarchy.proofs.MovedLaws.{moved_once}
use Rattle.cell_hierarchy.proofs.own.add_shapes.Goals as goal
use Rattle.std.proofs.lemmas.List.{drop_all}
use Rattle.or_geom.proofs.ListLaws.{rest_at}
use Rattle.or_geom.proofs.ShapeOrderLaws.{reachable_at}

pub moved-requires-clause-near : goal.moved-requires-clause-near
moved-requires-clause-near c = reachable_at c.args.shapes.now c.loop-shape.shape-index c.shape-item.result c.requires.near c.loop-shape-test.true c.shape-item.is

pub loop-shape-preserved : goal.loop-shape-preserved
loop-shape-preserved c =
    gather_goes_on _ _ _ _ c.shape-item.result _ _ _ (rest_at c.args.shapes.now c.loop-shape.shape-index c.shape-item.result c.loop-shape-test.true c.shape-item.is) c.loop-shape.invariant
    (adds_one _ _ _ _ c.in_ok-push.ensures.items c.moved.ensures (λ s m. moved_once c.args.place c.shape-item.result s _ m c.moved.ensures))

pub returns : goal.returns
returns c = gather_ends _ _ _ _ _ (drop_all c.loop-shape.shape-index c.args.shapes.now c.loop-shape-test.false) c.loop-shape.invariant
