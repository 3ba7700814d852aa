use Rattle.drawn_devices.proofs.BoxLaws.{gates_skip, gates_more}
use Rattle.drawn_devices.proofs.diffusion.gates_over.Goals as goal

pub loop-device-preserved-then-device-layer : goal.loop-device-preserved-then-device-layer
loop-device-preserved-then-device-layer c =
    gates_skip c.args.devices.now c.args.shapes.now c.args.layer c.loop-device.device-index c.device-item.result c.loop-device.gates.items c.loop-device-test.true c.device-item.is c.if-device-layer.true c.loop-device.invariant

pub loop-device-preserved : goal.loop-device-preserved
loop-device-preserved c =
    gates_more c.args.devices.now c.args.shapes.now c.args.layer c.loop-device.device-index c.device-item.result c.loop-device.gates.items c.add_boxes_on.new.out.items c.loop-device-test.true c.device-item.is c.if-device-layer.false
    c.in_ok-add_boxes_on.ensures c.loop-device.invariant
