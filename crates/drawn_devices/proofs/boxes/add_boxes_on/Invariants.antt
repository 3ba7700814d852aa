use Rattle.drawn_devices.proofs.BoxLaws.{AreBoxesSoFar}
use Rattle.drawn_devices.proofs.boxes.add_boxes_on.Given as goal

abbrev pub invariant-loop-shape : goal.invariant-loop-shape
invariant-loop-shape l = AreBoxesSoFar l.layer l.shapes l.shape-index l.fn.out.items l.out.items
