use Rattle.std.proofs.Common.{◌≤◌}
use Rattle.net_extractor.specs.Marks.{AreWith}
use Rattle.net_extractor.specs.Sets.{AreSameSets}
use Rattle.net_extractor.proofs.marks.is_leaf_with.Given as goal

abbrev pub invariant-loop-at : goal.invariant-loop-at
invariant-loop-at l = record {
  within : l.at ≤ l.fn.leaf.end;
  alike : AreSameSets l.fn.above l.above;
  with_top : AreWith l.forest.places.now l.top l.above l.fn.leaf.first l.at;
}
