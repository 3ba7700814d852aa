-- The row goes behind the others, with the number of its net.
use Rattle.netlist.specs.declared.rows.RowPin.{RowPin}
use Rattle.spice_netlist.specs.declared.rows.RowList.{RowList}
use Rattle.spice_netlist.specs.Walk.{local}
use Rattle.spice_netlist.specs.Pins.{NamedPin}
use Rattle.spice_netlist.proofs.RowLaws.{adds_row, same_label}
use Rattle.spice_netlist.proofs.rows.RowList.add.Goals as goal

pub returns : goal.returns
returns c =
    let new : RowList = record { rows = c.push.new.self; nets = c.number.new.self } in
    let pin : NamedPin = record { path = c.args.path.now; leaf = c.args.leaf.now; pin = c.args.pin.now; net = local c.args.net.now } in
    let row : RowPin = record { path = c.in_ok-path.path; leaf = c.in_ok-leaf.leaf; pin = c.in_ok-pin.pin; net = c.in_ok-net.field-0 } in
    adds_row c.args.self.now new pin row c.in_ok-net.ensures c.in_ok-push.ensures.items (same_label _ _ c.in_ok-path.ensures c.in_ok-leaf.ensures c.in_ok-pin.ensures)
