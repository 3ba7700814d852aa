use Rattle.kit_rules.proofs.ReachLaws.{OverhangSoFar}
use Rattle.kit_rules.proofs.outlines.overhang.Given as goal

abbrev pub invariant-loop-index : goal.invariant-loop-index
invariant-loop-index l = OverhangSoFar l.kit l.index l.greatest
