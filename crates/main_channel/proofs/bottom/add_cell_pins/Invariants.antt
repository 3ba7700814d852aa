use Rattle.std.proofs.Common.{◌≡◌, ℕ, ◌++◌}
use Rattle.sram_netlist.specs.InstanceList.{tabulate_lists}
use Rattle.main_channel.specs.Leaves.{pin_begin}
use Rattle.main_channel.specs.Numbers.{found_number, IsNetNumbering}
use Rattle.main_channel.specs.Pins.{AreMainPins}
use Rattle.main_channel.specs.Row.{port_channel_pin}
use Rattle.main_channel.proofs.bottom.add_cell_pins.Given as goal

abbrev pub invariant-loop-port : goal.invariant-loop-port
invariant-loop-port l = record {
  is : l.pins.items ≡ l.fn.pins.items ++ tabulate_lists l.port (port_channel_pin (pin_begin l.kit l.role) (found_number l.numbers) l.gate.nodes l.x);
  main : (nets : ℕ) → IsNetNumbering nets (found_number l.numbers) → AreMainPins nets l.fn.pins.items → AreMainPins nets l.pins.items;
}
