use Rattle.std.proofs.Common.{arith, refl}
use Rattle.std.specs.Prelude.{codes}
use Rattle.std.proofs.lemmas.Int.{ints}
use Rattle.macro_views.specs.Lef.{supply_box}
use Rattle.macro_views.proofs.LefLaws.{same_box, same_pin}
use Rattle.macro_views.proofs.lef.write_supply.Goals as goal

pub returns : goal.returns
returns c =
    let area = supply_box c.args.view.now c.args.x in
    same_pin {name = c.args.name.now} {direction = codes "INOUT"} {use_of = c.args.use_of.now} c.args.out.now.items area _ c.in_ok-write_pin.ensures refl refl refl c.metal_name.ensures
    (same_box _ area (omega (arith, ints)) refl (omega (arith, ints)) (omega (arith, ints)))
