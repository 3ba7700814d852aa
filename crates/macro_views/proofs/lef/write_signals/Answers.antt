use Rattle.std.proofs.Common.{arith}
use Rattle.macro_views.specs.Lef.{signal_text}
use Rattle.macro_views.proofs.TextLaws.{item_more}
use Rattle.macro_views.proofs.lef.write_signals.Goals as goal

pub loop-pin-preserved : goal.loop-pin-preserved
loop-pin-preserved c =
    item_more (signal_text c.args.view.now) c.as_slice-pin-items.result.now c.loop-pin.pin-index c.pin-item.result _ _ _ (omega arith) c.pin-item.is c.in_ok-write_signal.ensures c.loop-pin.invariant
