use Rattle.drawn_devices.proofs.DeviceLaws.{drawn_are}
use Rattle.drawn_devices.proofs.devices.drawn_devices.Goals as goal

pub returns : goal.returns
returns c = drawn_are c.in_ok-cell.cell c.args.tech.now c.args.flat.now.shapes.now _ _ c.in_ok-cell.ensures.tech c.in_ok-cell.ensures.shapes c.in_ok-cell.ensures.cut c.in_ok-names_of.ensures c.in_ok-channels_of.ensures
