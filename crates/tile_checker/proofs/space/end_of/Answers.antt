use Rattle.std.proofs.Common.{◌≡◌, arith}
use Rattle.std.specs.Int.{int_min}
use Rattle.std.proofs.lemmas.Int.{ints, clamps, to_z-of_z}
use Rattle.tile_checker.proofs.space.end_of.Goals as goal

pub returns-then-begin-end-clause-to : goal.returns-then-begin-end-clause-to
returns-then-begin-end-clause-to c = let e : c.min-end.result ≡ int_min c.args.side c.args.other = grind (arith, to_z-of_z, c.min-end.ensures) in omega (arith, ints, e)

pub returns-clause-to : goal.returns-clause-to
returns-clause-to c = let e : c.min-end.result ≡ int_min c.args.side c.args.other = grind (arith, to_z-of_z, c.min-end.ensures) in omega (arith, ints, clamps, e, c.requires)
