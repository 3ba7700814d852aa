use Rattle.std.proofs.Common.{arith}
use Rattle.std.proofs.lemmas.Int.{ints}
use Rattle.tile_checker.proofs.BoxLaws.{area_stands}
use Rattle.tile_checker.proofs.width.area_at.Goals as goal

pub returns : goal.returns
returns c =
    area_stands c.args._bins.now c.args.frame c.args.corner c.args.min.value _ c.requires.wide c.requires.tall (omega (arith, ints)) (omega (arith, ints)) (omega (arith, ints)) (omega (arith, ints)) (omega (arith, ints)) c.requires.stands
