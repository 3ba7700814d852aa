use Rattle.std.proofs.Common.{map, take}
use Rattle.spice_netlist.specs.Pins.{port_row}
use Rattle.spice_netlist.specs.Rows.{AddsRows}
use Rattle.spice_netlist.proofs.rows.add_port_rows.Given as goal

abbrev pub invariant-loop-port : goal.invariant-loop-port
invariant-loop-port l = AddsRows l.initial.rows l.rows (map port_row (take l.port-index l.ports))
