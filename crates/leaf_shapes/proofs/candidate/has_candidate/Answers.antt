use Rattle.std.proofs.Common.{map}
use Rattle.cell_hierarchy.specs.Plain.{plain_label}
use Rattle.leaf_shapes.specs.Wanted.{IsWanted}
use Rattle.leaf_shapes.proofs.PinLaws.{found_one}
use Rattle.leaf_shapes.proofs.candidate.has_candidate.Goals as goal

pub returns : goal.returns
returns c = rw c.is_some.ensures (found_one (IsWanted c.args.wanted) c.args.bins.now (map plain_label c.args.labels.now) c.args.pin.now c.first_candidate.result c.first_candidate.ensures)
