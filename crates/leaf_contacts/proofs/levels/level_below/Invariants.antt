use Rattle.leaf_contacts.proofs.LevelLaws.{LevelSoFar}
use Rattle.leaf_contacts.proofs.levels.level_below.Given as goal

abbrev pub invariant-loop-outer : goal.invariant-loop-outer
invariant-loop-outer l = LevelSoFar l.tree l._depth l.level l.outer-index l.below.items
