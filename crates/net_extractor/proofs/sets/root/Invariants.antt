use Rattle.std.proofs.Common.{◌≡◌, Some}
use Rattle.std.specs.Prelude.{slice_get}
use Rattle.net_extractor.specs.Sets.{AreSameSets, AreTogether}
use Rattle.net_extractor.proofs.sets.root.Given as goal

abbrev pub invariant-loop-next : goal.invariant-loop-next
invariant-loop-next l = record {
  alike : AreSameSets l.fn.above l.above;
  leads : AreTogether l.fn.above l.fn.place l.at;
  up : slice_get l.above l.at ≡ Some l.next;
}

abbrev pub decreases-loop-next : goal.decreases-loop-next
decreases-loop-next l = l.at
