use Rattle.std.proofs.Common.{arith}
use Rattle.std.proofs.lemmas.Int.{ints}
use Rattle.tile_checker.proofs.BoxLaws.{seen_width}
use Rattle.tile_checker.proofs.width.is_seen.Goals as goal

pub returns : goal.returns
returns c = λ yes. seen_width c.args._bins.now c.args.layer c.args.min.value c.args.rect c.in-Some.area (rw c.in-Some.is at c.requires) c.if-area-layer.false (omega (arith, ints)) (c.holds.ensures.0 yes)
