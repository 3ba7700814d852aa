use Rattle.std.proofs.Common.{◌≡◌, ℕ, ◌++◌}
use Rattle.sram_netlist.specs.InstanceList.{tabulate_lists}
use Rattle.main_channel.specs.Banks.{rail_channel_pin}
use Rattle.main_channel.specs.Numbers.{found_number, IsNetNumbering}
use Rattle.main_channel.specs.Pins.{AreMainPins}
use Rattle.main_channel.proofs.top.add_rail_pins.Given as goal

abbrev pub invariant-loop-rail : goal.invariant-loop-rail
invariant-loop-rail l = record {
  is : l.pins.items ≡ l.fn.pins.items ++ tabulate_lists l.rail (rail_channel_pin (found_number l.numbers) l.names l.x l.pitch);
  main : (nets : ℕ) → IsNetNumbering nets (found_number l.numbers) → AreMainPins nets l.fn.pins.items → AreMainPins nets l.pins.items;
}
