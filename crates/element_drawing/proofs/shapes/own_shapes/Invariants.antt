use Rattle.std.proofs.Common.{length}
use Rattle.element_drawing.proofs.ShapeLaws.{AreShapesBut}
use Rattle.element_drawing.proofs.shapes.own_shapes.Given as goal

abbrev pub invariant-loop-element : goal.invariant-loop-element
invariant-loop-element l = AreShapesBut l.layers l.elements l.rest l.shapes.items

abbrev pub decreases-loop-element : goal.decreases-loop-element
decreases-loop-element l = length l.rest
