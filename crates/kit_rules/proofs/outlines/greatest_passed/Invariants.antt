use Rattle.kit_rules.proofs.ReachLaws.{GreatestSoFar}
use Rattle.kit_rules.proofs.outlines.greatest_passed.Given as goal

abbrev pub invariant-loop-shape : goal.invariant-loop-shape
invariant-loop-shape l = GreatestSoFar l.width l.height l.shapes l.shape-index l.least l.greatest
