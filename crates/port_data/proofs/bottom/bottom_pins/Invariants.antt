use Rattle.std.proofs.Common.{◌≡◌}
use Rattle.sram_netlist.specs.InstanceList.{tabulate_lists}
use Rattle.port_data.specs.Pins.{sense_lines}
use Rattle.port_data.proofs.bottom.bottom_pins.Given as goal

abbrev pub invariant-loop-bit : goal.invariant-loop-bit
invariant-loop-bit l = l.pins.items ≡ tabulate_lists l.bit (sense_lines l.columns l.ends)
