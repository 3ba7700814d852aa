use Rattle.std.proofs.Common.{◌+◌, ◌-◌, ◌≤◌, length}
use Rattle.shape_bins.specs.Nodes.{position_at}
use Rattle.net_extractor.specs.Marks.{AreWith}
use Rattle.net_extractor.specs.Sets.{AreSameSets}
use Rattle.net_extractor.proofs.marks.are_children_with.Given as goal

abbrev pub invariant-loop-next : goal.invariant-loop-next
invariant-loop-next l = record {
  beyond : (l.at + 1) ≤ l.next;
  alike : AreSameSets l.fn.above l.above;
  with_top : AreWith l.forest.places.now l.top l.above (position_at (length l.forest.shapes.now) l.forest.nodes.now (l.at + 1)) (position_at (length l.forest.shapes.now) l.forest.nodes.now l.next);
}

abbrev pub decreases-loop-next : goal.decreases-loop-next
decreases-loop-next l = l.end - l.next
