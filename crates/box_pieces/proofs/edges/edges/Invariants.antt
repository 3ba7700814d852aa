use Rattle.box_pieces.proofs.EdgeLaws.{AreEdgesSoFar}
use Rattle.box_pieces.proofs.edges.edges.Given as goal

abbrev pub invariant-loop-rect : goal.invariant-loop-rect
invariant-loop-rect l = AreEdgesSoFar l.axis l.fn.area l.boxes l.rect-index l.places.items
