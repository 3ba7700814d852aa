use Rattle.std.proofs.Common.{length}
use Rattle.element_drawing.proofs.BoxLaws.{AreBoxesBut}
use Rattle.element_drawing.proofs.boxes.boxes_of.Given as goal

abbrev pub invariant-loop-to : goal.invariant-loop-to
invariant-loop-to l = AreBoxesBut l.fn.stroke l.fn.first l.others l.tip l.rest l.boxes.items

abbrev pub decreases-loop-to : goal.decreases-loop-to
decreases-loop-to l = length l.rest
