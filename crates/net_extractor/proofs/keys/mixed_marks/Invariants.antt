use Rattle.std.proofs.Common.{map}
use Rattle.net_extractor.specs.PlainNets.{plain_net}
use Rattle.net_extractor.proofs.MixedLaws.{AreMixedBefore}
use Rattle.net_extractor.proofs.keys.mixed_marks.Given as goal

abbrev pub invariant-loop-place : goal.invariant-loop-place
invariant-loop-place l = AreMixedBefore (map plain_net l.labels) l.marks.items l.place
