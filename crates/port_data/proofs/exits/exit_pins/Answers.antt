-- The exit of one choice more.
use Rattle.std.proofs.Common.{[], arith}
use Rattle.wire_drawing.specs.Drawing.{pitch}
use Rattle.port_lists.proofs.TabulateLaws.{grown_as, all_of}
use Rattle.port_data.specs.Pins.{exit_at}
use Rattle.port_data.proofs.exits.exit_pins.Goals as goal

pub loop-choice-preserved : goal.loop-choice-preserved
loop-choice-preserved c = grown_as [] _ _ _ c.loop-choice.choice (exit_at c.args.choices c.args.drive (pitch c.args.wire.now)) c.loop-choice.invariant c.in_ok-push.ensures.items c.exit_at.ensures

pub returns : goal.returns
returns c = all_of [] _ c.loop-choice.choice _ (exit_at c.args.choices c.args.drive (pitch c.args.wire.now)) c.loop-choice.invariant (omega arith)
