use Rattle.std.proofs.Common.{map}
use Rattle.cell_hierarchy.specs.Plain.{plain_label}
use Rattle.leaf_shapes.specs.Wanted.{GivesNone}
use Rattle.leaf_shapes.proofs.PlaceLaws.{EachBefore}
use Rattle.leaf_shapes.proofs.candidate.first_candidate.Given as goal

abbrev pub invariant-loop-index : goal.invariant-loop-index
invariant-loop-index l = EachBefore (GivesNone l.wanted l.bins l.pin) (map plain_label l.labels) l.index
