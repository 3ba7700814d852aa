use Rattle.std.proofs.Common.{arith}
use Rattle.std.proofs.lemmas.Int.{ints}
use Rattle.shape_bins.specs.Layers.{rects_on}
use Rattle.tile_checker.proofs.StripLaws.{strip_found, down_at}
use Rattle.tile_checker.proofs.strip.strip_at.Goals as goal

pub returns : goal.returns
returns c =
    strip_found (rects_on c.args.layer c.args.bins.now) c.args.frame c.args.hull c.args.x _ c.upward-above.result c.downward.result c.requires.frame c.requires.hull (omega (arith, ints)) (omega (arith, ints)) c.upward-above.ensures
    (down_at _ _ _ _ _ _ (omega (arith, ints)) c.downward.ensures)
