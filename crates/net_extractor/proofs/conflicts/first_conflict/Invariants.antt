use Rattle.std.proofs.Common.{map}
use Rattle.net_extractor.specs.PlainNets.{plain_net}
use Rattle.net_extractor.specs.FirstDifference.{AreRightBefore}
use Rattle.net_extractor.specs.Matching.{AreMatched}
use Rattle.net_extractor.proofs.conflicts.first_conflict.Given as goal

abbrev pub invariant-loop-place : goal.invariant-loop-place
invariant-loop-place l = record {
  right : AreRightBefore (map plain_net l.labels) l.pins l.place;
  matched : AreMatched l.nets l.place l.matching;
}
