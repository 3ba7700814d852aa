use Rattle.std.proofs.Common.{length, subst, arith}
use Rattle.std.proofs.lemmas.List.{get_or_past}
use Rattle.shape_bins.specs.declared.forest.NodeRange.{NodeRange}
use Rattle.shape_bins.specs.Forest.{IsRangeOf, no_range}
use Rattle.shape_bins.proofs.forest.nodes_of.Goals as goal

pub returns : goal.returns
returns c =
    subst (λ (r : NodeRange). IsRangeOf c.args.forest.shapes.now (length c.args.forest.shapes.now) c.args.forest.places.now c.args.forest.nodes.now c.args.layer r)
    (get_or_past c.args.forest.ranges.now c.args.layer no_range (omega (arith, c.if-at-forest.false, c.from-at.ensures))) (c.requires.ranged c.args.layer)
