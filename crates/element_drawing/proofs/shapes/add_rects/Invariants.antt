use Rattle.std.proofs.Common.{◌≡◌, ◌++◌, length, map}
use Rattle.element_drawing.specs.OwnShapes.{on_layer}
use Rattle.element_drawing.proofs.shapes.add_rects.Given as goal

abbrev pub invariant-loop-rect : goal.invariant-loop-rect
invariant-loop-rect l = l.out.items ++ map (on_layer l.fn.layer) l.rest ≡ l.fn.out.items ++ map (on_layer l.fn.layer) l.rects

abbrev pub decreases-loop-rect : goal.decreases-loop-rect
decreases-loop-rect l = length l.rest
