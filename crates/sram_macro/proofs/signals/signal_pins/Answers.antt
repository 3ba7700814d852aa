-- A port more.
use Rattle.std.proofs.Common.{ℕ, pos, [], length, ap, ◌∙◌, arith}
use Rattle.std.specs.Prelude.{nat_le, nat_eq}
use Rattle.channel_router.specs.Wires.{track_y}
use Rattle.sram_macro.specs.Signals.{signal_pin}
use Rattle.port_lists.proofs.TabulateLaws.{grown_as, all_of}
use Rattle.sram_macro.proofs.ExtentLaws.{kept}
use Rattle.sram_macro.proofs.signals.signal_pins.Goals as goal

pub loop-number-preserved : goal.loop-number-preserved
loop-number-preserved c =
    let at = kept _ c.track_y.ensures.near (omega arith) ∙ (c.track_y.ensures.is ∙ ap (λ (t : ℕ). track_y (pos c.args.low) c.args.wire.now t) c.track_at.ensures.is) in
    grown_as [] _ _ _ c.loop-number.number (signal_pin c.args.wire.now (pos c.args.low) c.args.inputs c.args.names.now c.args.track.now) c.loop-number.invariant c.in_ok-push.ensures.items
    (λ i. record { name = c.in_ok-name_at.ensures i; y = at i; output = nat_le c.args.inputs c.loop-number.number; clock = nat_eq c.loop-number.number 0 })

pub returns : goal.returns
returns c = all_of [] _ c.loop-number.number (length c.args.names.now) (signal_pin c.args.wire.now (pos c.args.low) c.args.inputs c.args.names.now c.args.track.now) c.loop-number.invariant (omega arith)
