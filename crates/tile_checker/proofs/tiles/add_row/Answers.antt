use Rattle.std.proofs.Common.{arith}
use Rattle.std.proofs.lemmas.Int.{ints, to_z-of_z}
use Rattle.tile_checker.proofs.TileLaws.{row_goes_on, row_ends}
use Rattle.tile_checker.proofs.tiles.add_row.Goals as goal

pub loop-left-preserved : goal.loop-left-preserved
loop-left-preserved c =
    let rows = c.requires.rows in
    row_goes_on c.args.area _ _ _ _ _ _ _ _ c.loop-left.invariant c.in_ok-push.ensures.items c.requires.reach (record { from = omega (arith, ints, rows.from); some = omega (arith, ints, rows.some); to = omega (arith, ints, rows.to) })
    (grind (arith, to_z-of_z)) (grind (arith, to_z-of_z)) (grind (arith, to_z-of_z)) (grind (arith, to_z-of_z)) (omega (arith, ints, c.next_line-right.ensures.within))

pub returns : goal.returns
returns c = row_ends c.args.area _ _ _ _ _ _ _ c.loop-left.invariant (omega (arith, ints)) (grind (arith, to_z-of_z)) (grind (arith, to_z-of_z))
