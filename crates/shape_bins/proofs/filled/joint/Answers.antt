use Rattle.std.proofs.Common.{refl}
use Rattle.shape_bins.proofs.FilledLaws.{stacked_covered, beside_covered}
use Rattle.shape_bins.proofs.filled.joint.Goals as goal

pub returns-then-are_stacked : goal.returns-then-are_stacked
returns-then-are_stacked c = stacked_covered c.args.a c.args.b c.around.result (c.if-are_stacked.ensures.0 refl) c.around.ensures

pub returns-then-are_beside : goal.returns-then-are_beside
returns-then-are_beside c = beside_covered c.args.a c.args.b c.around-then-are_beside.result (c.if-are_beside.ensures.0 refl) c.around-then-are_beside.ensures
