use Rattle.leaf_margins.proofs.WireEncloseLaws.{enclosures_by_wires_are_kept}
use Rattle.leaf_margins.proofs.enclosures_by_wires_are_kept.Goals as goal

pub returns : goal.returns
returns c = enclosures_by_wires_are_kept
