use Rattle.leaf_margins.proofs.WidthLaws.{wire_layer_widths_are_kept}
use Rattle.leaf_margins.proofs.wire_layer_widths_are_kept.Goals as goal

pub returns : goal.returns
returns c = wire_layer_widths_are_kept
