use Rattle.net_extractor.proofs.StrangerLaws.{AreNoneBefore}
use Rattle.net_extractor.proofs.strangers.first_stranger.Given as goal

abbrev pub invariant-loop-place : goal.invariant-loop-place
invariant-loop-place l = AreNoneBefore l.labels l.pins l.place
