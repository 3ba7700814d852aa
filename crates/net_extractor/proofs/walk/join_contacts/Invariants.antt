use Rattle.std.proofs.Common.{◌-◌, length}
use Rattle.shape_bins.specs.Nodes.{position_at}
use Rattle.net_extractor.specs.Marks.{AreNodeMarks, JoinsBetween}
use Rattle.net_extractor.proofs.walk.join_contacts.Given as goal

abbrev pub invariant-loop-at : goal.invariant-loop-at
invariant-loop-at l = record {
  joins : JoinsBetween l.forest l.search 0 (position_at (length l.forest.shapes.now) l.forest.nodes.now l.at) l.fn.above l.above;
  marked : AreNodeMarks l.forest l.above l.marks;
}

abbrev pub decreases-loop-at : goal.decreases-loop-at
decreases-loop-at l = l.range.end - l.at
