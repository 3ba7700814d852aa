use Rattle.std.proofs.Common.{refl}
use Rattle.std.proofs.lemmas.Option.{slice_get_read}
use Rattle.or_geom.specs.declared.shape.Shape.{Shape}
use Rattle.or_geom.specs.Containing.{HoldsRect}
use Rattle.leaf_shapes.specs.Outline.{IsWireLayer}
use Rattle.leaf_shapes.proofs.PlaceLaws.{each_more, each_contained}
use Rattle.leaf_shapes.proofs.outline.lie_inside.Goals as goal

pub loop-shape-preserved-then-not-is_wire_layer : goal.loop-shape-preserved-then-not-is_wire_layer
loop-shape-preserved-then-not-is_wire_layer c =
    each_more (λ (s : Shape). IsWireLayer c.args.wire.now s.layer → HoldsRect c.args.outer s.rect) c.args.shapes.now c.loop-shape.shape-index c.shape-item.result
    (slice_get_read c.args.shapes.now _ c.loop-shape.shape-index c.shape-item.result refl c.loop-shape-test.true c.shape-item.is)
    (λ on. let yes = c.if-not-is_wire_layer.ensures.1 on in absurd cc) c.loop-shape.invariant

pub loop-shape-preserved : goal.loop-shape-preserved
loop-shape-preserved c =
    each_more (λ (s : Shape). IsWireLayer c.args.wire.now s.layer → HoldsRect c.args.outer s.rect) c.args.shapes.now c.loop-shape.shape-index c.shape-item.result
    (slice_get_read c.args.shapes.now _ c.loop-shape.shape-index c.shape-item.result refl c.loop-shape-test.true c.shape-item.is)
    (λ on. c.if-not-holds.ensures.0 refl) c.loop-shape.invariant

pub returns : goal.returns
returns c = (
  λ _ s h. each_contained (λ (s : Shape). IsWireLayer c.args.wire.now s.layer → HoldsRect c.args.outer s.rect) c.args.shapes.now c.loop-shape.shape-index c.loop-shape-test.false c.loop-shape.invariant s h,
  λ _. refl,
)
