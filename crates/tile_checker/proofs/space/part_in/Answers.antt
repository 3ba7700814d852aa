use Rattle.std.proofs.Common.{◌≡◌, ◌≤ℤ◌, arith}
use Rattle.std.specs.Int.{int_max, int_min}
use Rattle.std.proofs.lemmas.Int.{ints, clamps, to_z-of_z}
use Rattle.tile_checker.proofs.OwnerLaws.{part_meets}
use Rattle.tile_checker.proofs.space.part_in.Goals as goal

pub end_of-x2-requires : goal.end_of-x2-requires
end_of-x2-requires c = let r = c.args.rect.wide in let t = c.args.tile.wide in omega (arith, ints, clamps, c.max-x1.ensures, r, t)

pub end_of-y2-requires : goal.end_of-y2-requires
end_of-y2-requires c = let r = c.args.rect.tall in let t = c.args.tile.tall in omega (arith, ints, clamps, c.max-y1.ensures, r, t)

pub returns : goal.returns
returns c = λ b m h.
    let x1 : c.max-x1.result ≡ int_max c.args.rect.x1 c.args.tile.x1 = grind (arith, to_z-of_z, c.max-x1.ensures) in
    let y1 : c.max-y1.result ≡ int_max c.args.rect.y1 c.args.tile.y1 = grind (arith, to_z-of_z, c.max-y1.ensures) in
    let x2 : int_min c.args.rect.x2 c.args.tile.x2 ≤ℤ c.end_of-x2.result = grind (arith, to_z-of_z, c.end_of-x2.ensures.to) in
    let y2 : int_min c.args.rect.y2 c.args.tile.y2 ≤ℤ c.end_of-y2.result = grind (arith, to_z-of_z, c.end_of-y2.ensures.to) in
    part_meets c.args.tile c.args.rect _ b (grind (arith, to_z-of_z, x1)) (grind (arith, to_z-of_z, y1)) (grind (arith, to_z-of_z, x2)) (grind (arith, to_z-of_z, y2)) m h
