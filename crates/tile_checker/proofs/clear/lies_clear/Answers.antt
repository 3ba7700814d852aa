use Rattle.std.proofs.Common.{arith}
use Rattle.std.proofs.lemmas.Int.{ints}
use Rattle.tile_checker.proofs.FilledLaws.{clear_seen}
use Rattle.tile_checker.proofs.clear.lies_clear.Goals as goal

pub returns : goal.returns
returns c = λ yes. clear_seen c.args.min.value c.args._bins.now c.args.shape c.in-Some.area (rw c.in-Some.is at c.requires) c.if-area-shape.false (omega (arith, ints)) (c.holds.ensures.0 yes)
