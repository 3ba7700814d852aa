-- A bit more.
use Rattle.row_decoder.proofs.LineLaws.{pick_more, picks_done, from_zero}
use Rattle.row_decoder.proofs.lines.add_picks.Goals as goal

pub loop-bit-init : goal.loop-bit-init
loop-bit-init c plan = from_zero plan c.args.nodes.now c.args.low c.args.bits c.args.number

pub loop-bit-preserved : goal.loop-bit-preserved
loop-bit-preserved c plan = pick_more plan _ _ _ c.args.low c.loop-bit.bit c.args.bits c.loop-bit.rest _ c.loop-bit-test.true c.picked.ensures c.in_ok-add.ensures (c.loop-bit.invariant plan)

pub returns : goal.returns
returns c plan = picks_done plan _ _ c.args.low c.loop-bit.bit c.args.bits c.loop-bit.rest c.loop-bit-test.false (c.loop-bit.invariant plan)
