use Rattle.box_pieces.proofs.PartLaws.{ArePartsSoFar}
use Rattle.box_pieces.proofs.common.within.Given as goal

abbrev pub invariant-loop-rect : goal.invariant-loop-rect
invariant-loop-rect l = ArePartsSoFar l.area l.boxes l.rect-index l.parts.items
