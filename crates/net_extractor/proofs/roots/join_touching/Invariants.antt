use Rattle.std.proofs.Common.{◌-◌, length}
use Rattle.net_extractor.specs.Marks.{JoinsMarked}
use Rattle.net_extractor.specs.RunPairs.{IsListedPair}
use Rattle.net_extractor.proofs.roots.join_touching.Given as goal

abbrev pub invariant-loop-at : goal.invariant-loop-at
invariant-loop-at l = JoinsMarked (IsListedPair l.connections l.forest.shapes.now l.forest.places.now 0 l.at) l.forest l.fn.above l.above l.marks

abbrev pub decreases-loop-at : goal.decreases-loop-at
decreases-loop-at l = length l.forest.places.now - l.at
