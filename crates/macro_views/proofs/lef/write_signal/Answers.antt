use Rattle.std.proofs.Common.{arith, refl}
use Rattle.std.proofs.lemmas.Int.{ints}
use Rattle.macro_views.specs.Lef.{signal_box}
use Rattle.macro_views.proofs.LefLaws.{same_box, same_pin}
use Rattle.macro_views.proofs.lef.write_signal.Goals as goal

pub returns : goal.returns
returns c =
    same_pin c.args.out.now.items (signal_box c.args.view.now c.args.pin.now) _ c.in_ok-write_pin.ensures c.as_bytes-name.ensures c.direction_of.ensures c.use_of.ensures c.metal_name.ensures
    (same_box _ (signal_box c.args.view.now c.args.pin.now) refl (omega (arith, ints)) (omega (arith, ints)) (omega (arith, ints)))
