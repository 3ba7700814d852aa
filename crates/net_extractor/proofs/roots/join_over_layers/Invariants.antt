use Rattle.std.proofs.Common.{drop}
use Rattle.net_extractor.specs.Marks.{AreNodeMarks}
use Rattle.net_extractor.specs.RunPairs.{IsOverPairOf}
use Rattle.net_extractor.proofs.JoinLaws.{IsJoining}
use Rattle.net_extractor.proofs.roots.join_over_layers.Given as goal

abbrev pub invariant-loop-layer : goal.invariant-loop-layer
invariant-loop-layer l = record {
  joining : IsJoining (IsOverPairOf l.forest.shapes.now l.own) l.layers (drop l.layer-index l.layers) l.fn.above l.above;
  marked : AreNodeMarks l.forest l.above l.marks;
}
