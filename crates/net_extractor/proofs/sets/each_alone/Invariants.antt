use Rattle.net_extractor.proofs.SetLaws.{AreAloneBefore}
use Rattle.net_extractor.proofs.sets.each_alone.Given as goal

abbrev pub invariant-loop-place : goal.invariant-loop-place
invariant-loop-place l = AreAloneBefore l.order l.count l.place-index l.above.items
