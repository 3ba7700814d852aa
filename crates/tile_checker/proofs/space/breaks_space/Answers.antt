use Rattle.std.proofs.Common.{refl}
use Rattle.shape_bins.specs.Layers.{rects_on}
use Rattle.tile_checker.proofs.SpaceLaws.{space_found}
use Rattle.tile_checker.proofs.space.breaks_space.Goals as goal

pub returns : goal.returns
returns c =
    space_found c.args.rule (rects_on c.args.rule.layer c.args.bins.now) c.args.a c.args.b c.gap_box.result c.box_covered.result c.requires.on (c.if-not-are_near.ensures.0 refl) c.if-a-b.false c.gap_box.ensures c.box_covered.ensures
