use Rattle.box_pieces.proofs.PartLaws.{HoldsSoFar}
use Rattle.box_pieces.proofs.common.bounds.Given as goal

abbrev pub invariant-loop-rect : goal.invariant-loop-rect
invariant-loop-rect l = HoldsSoFar l.boxes l.others l.rect-index l.area
