use Rattle.std.proofs.Common.{arith}
use Rattle.std.proofs.lemmas.Int.{ints, to_z-of_z}
use Rattle.tile_checker.proofs.TileLaws.{rows_go_on, rows_end}
use Rattle.tile_checker.proofs.tiles.tiles_over.Goals as goal

pub add_row-requires-clause-rows : goal.add_row-requires-clause-rows
add_row-requires-clause-rows c = let f = c.loop-low.invariant.from in record { from = omega (arith, ints, f); some = omega (arith, ints, c.next_line-high.ensures.later); to = omega (arith, ints, c.next_line-high.ensures.within) }

pub loop-low-preserved : goal.loop-low-preserved
loop-low-preserved c =
    rows_go_on c.args.area _ _ _ _ _ _ c.loop-low.invariant c.in_ok-add_row.ensures (grind (arith, to_z-of_z)) (grind (arith, to_z-of_z)) (omega (arith, ints, c.next_line-high.ensures.later)) (omega (arith, ints, c.next_line-high.ensures.within))

pub returns : goal.returns
returns c = rows_end c.args.area _ c.loop-low.tiles.items c.loop-low.invariant (omega (arith, ints))
