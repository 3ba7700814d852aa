use Rattle.leaf_contacts.proofs.LevelLaws.{LevelsSoFar}
use Rattle.leaf_contacts.proofs.levels.stands_of.Given as goal

abbrev pub invariant-loop-depth : goal.invariant-loop-depth
invariant-loop-depth l = LevelsSoFar l.tree l.depth l.level.items l.stands.items
