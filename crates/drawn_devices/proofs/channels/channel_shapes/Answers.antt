use Rattle.std.proofs.Common.{List, subst}
use Rattle.or_geom.specs.declared.shape.Rect.{Rect}
use Rattle.or_geom.specs.Adds.{Adds}
use Rattle.or_geom.proofs.ShapeOrderLaws.{same_shape}
use Rattle.drawn_devices.specs.Boxes.{IsShapeOfBox}
use Rattle.drawn_devices.proofs.BoxLaws.{channel_shapes_are}
use Rattle.drawn_devices.proofs.channels.channel_shapes.Goals as goal

pub returns : goal.returns
returns c =
    let adds = subst (λ (l : List Rect). Adds c.new-list.result.items c.add_shapes.new.out.items (IsShapeOfBox 0 l)) c.deref.ensures.value c.in_ok-add_shapes.ensures in
    channel_shapes_are c.args.shapes.now c.args.device.now c.in_ok-boxes.boxes.items c.new-list.result.items c.add_shapes.new.out.items c.sort_distinct.new.list.items c.in_ok-boxes.ensures c.new-list.ensures.items adds
    c.sort_distinct.ensures.rises (λ s h. c.sort_distinct.ensures.keeps same_shape s h) c.sort_distinct.ensures.adds_none
