-- The main channel by formula: each of its pins once, where a net meets it.
use Rattle.std.specs.Prelude.{ℕ, ℤ, pos, List, Option, map, length}
use Rattle.tech_rules.specs.declared.tech.Wire.{Wire}
use Rattle.wire_drawing.specs.Drawing.{pitch}
use Rattle.cell_roles.specs.declared.role.Role.{Role}
use Rattle.cell_roles.specs.declared.role.Role.TheVariants.{Inv}
use Rattle.channel_router.specs.declared.channel.Channel.{Channel}
use Rattle.channel_router.specs.declared.channel.ChannelPin.{ChannelPin}
use Rattle.spice_netlist.specs.Names.{index_of}
use Rattle.sram_netlist.specs.Organization.{Organization, banks_of}
use Rattle.sram_netlist.specs.Netlist.{logic_role}
use Rattle.sram_netlist.specs.Names.{net_name}
use Rattle.sram_netlist.specs.InstanceList.{tabulate, tabulate_lists, logic_cells}
use Rattle.sram_deck.specs.Deck.{logic_instances}
use Rattle.macro_layout.specs.LayoutKit.{LayoutKit}
use Rattle.macro_layout.specs.Places.{Floorplan}
use Rattle.macro_layout.specs.Pins.{port_nets, main_nets}
use Rattle.main_channel.specs.Banks.{bank_pins}
use Rattle.main_channel.specs.Row.{row_pins}

-- the number that the net of this name has among the channel's; a supply has none
abbrev pub main_number : Organization → List ℕ → Option ℕ
main_number plan name = index_of (map (net_name plan) (main_nets plan)) name

-- where the shape of a role's port on this metal begins in its cell
abbrev pub port_begin : LayoutKit → ℕ → Role → ℕ → ℤ
port_begin kit metal role port = (kit.pin role port metal).x1

-- at the top the banks, from the left to the right, on the fourth metal
abbrev pub main_top : Organization → LayoutKit → Wire → Floorplan → List ChannelPin
main_top plan kit wire floorplan = tabulate_lists (banks_of plan) (bank_pins (port_begin kit 3) kit.width (main_number plan) plan (pitch wire) floorplan.row_x floorplan.bank_width)

-- at the bottom the logic row, on the second metal
abbrev pub main_bottom : Organization → LayoutKit → Floorplan → List ChannelPin
main_bottom plan kit floorplan = row_pins (port_begin kit 1) kit.width (main_number plan) (logic_instances plan kit.cell) (map (logic_role plan) (logic_cells plan)) floorplan.logic_x

-- each signal port leaves at the macro's left edge
abbrev pub main_exit : ℕ → ChannelPin
main_exit port = record { x = pos 0; net = port }

abbrev pub main_channel : Organization → LayoutKit → Wire → Floorplan → Channel
main_channel plan kit wire floorplan = record {
  low = pos (kit.height Inv);
  top = main_top plan kit wire floorplan;
  bottom = main_bottom plan kit floorplan;
  exits = tabulate (length (port_nets plan)) main_exit;
  nets = length (main_nets plan);
}
