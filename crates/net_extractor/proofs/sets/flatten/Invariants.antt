use Rattle.net_extractor.specs.Sets.{AreSameSets}
use Rattle.net_extractor.proofs.SetLaws.{AreFlatTo}
use Rattle.net_extractor.proofs.sets.flatten.Given as goal

abbrev pub invariant-loop-place : goal.invariant-loop-place
invariant-loop-place l = record {
  alike : AreSameSets l.fn.above l.above;
  flat : AreFlatTo l.above l.place;
}
