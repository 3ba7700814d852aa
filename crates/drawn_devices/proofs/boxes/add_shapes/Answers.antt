use Rattle.std.proofs.Common.{refl}
use Rattle.drawn_devices.proofs.BoxLaws.{shapes_more, shapes_end}
use Rattle.drawn_devices.proofs.boxes.add_shapes.Goals as goal

pub loop-rect-preserved : goal.loop-rect-preserved
loop-rect-preserved c =
    shapes_more c.args.layer c.args.boxes.now c.loop-rect.rect-index c.rect-item.result _ c.args.out.now.items c.loop-rect.out.items c.push.new.self.items c.loop-rect-test.true c.rect-item.is refl refl c.in_ok-push.ensures.items c.loop-rect.invariant

pub returns : goal.returns
returns c = shapes_end c.args.layer c.args.boxes.now c.loop-rect.rect-index c.args.out.now.items c.loop-rect.out.items c.loop-rect-test.false c.loop-rect.invariant
