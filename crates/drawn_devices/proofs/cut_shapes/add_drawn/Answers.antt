use Rattle.std.proofs.Common.{refl}
use Rattle.std.proofs.lemmas.List.{drop_all}
use Rattle.or_geom.proofs.AddsLaws.{adds_one}
use Rattle.or_geom.proofs.GatheringLaws.{gather_goes_on, gather_skips, gather_ends}
use Rattle.or_geom.proofs.ListLaws.{rest_at}
use Rattle.drawn_devices.specs.DrawnShapes.{GivesDrawn}
use Rattle.drawn_devices.proofs.cut_shapes.add_drawn.Goals as goal

pub loop-shape-preserved-then-is_active : goal.loop-shape-preserved-then-is_active
loop-shape-preserved-then-is_active c =
    gather_skips (GivesDrawn c.args.devices.now) c.args.shapes.now _ _ c.shape-item.result _ _ (rest_at c.args.shapes.now c.loop-shape.shape-index c.shape-item.result c.loop-shape-test.true c.shape-item.is) c.loop-shape.invariant
    (λ x g. g.1 (c.if-is_active.ensures.0 refl))

pub loop-shape-preserved : goal.loop-shape-preserved
loop-shape-preserved c =
    gather_goes_on (GivesDrawn c.args.devices.now) c.args.shapes.now _ _ c.shape-item.result _ _ _ (rest_at c.args.shapes.now c.loop-shape.shape-index c.shape-item.result c.loop-shape-test.true c.shape-item.is) c.loop-shape.invariant
    (adds_one _ _ _ (GivesDrawn c.args.devices.now c.shape-item.result) c.in_ok-push.ensures.items (refl, λ active. let yes = c.if-is_active.ensures.1 active in absurd cc) (λ x g. g.0))

pub returns : goal.returns
returns c = gather_ends _ _ _ _ _ (drop_all c.loop-shape.shape-index c.args.shapes.now c.loop-shape-test.false) c.loop-shape.invariant
