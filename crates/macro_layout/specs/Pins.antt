-- Where nets meet wires: the pins of leaf instances, the rails of banks, and the nets of the channels.
use Rattle.std.specs.Prelude.{◌≡◌, ℕ, zero, suc, ◌+◌, ℤ, List, [], ◌∷◌, ◌++◌, map, slice_get, Some}
use Rattle.or_geom.specs.declared.shape.Rect.{Rect}
use Rattle.or_geom.specs.declared.place.Place.{Place}
use Rattle.or_geom.specs.Place.{placed, IsImage}
use Rattle.tech_rules.specs.declared.tech.Wire.{Wire}
use Rattle.sram_netlist.specs.Organization.{Organization, inputs_of, power_of_two, addr_bits}
use Rattle.sram_netlist.specs.Nets.{Net, Clk0, Csb0, Clkb, Vdd, Control, Addr, Din, Dout, Wmask, Line}
use Rattle.sram_netlist.specs.Instances.{LogicCell, LeafInstance}
use Rattle.sram_netlist.specs.Netlist.{web_nets, role, ports, logic_cell_ports, lo_net, ro_net, wlen_at, sen_at}
use Rattle.sram_netlist.specs.InstanceList.{tabulate, tabulate_lists, logic_cells}
use Rattle.sram_netlist.specs.Membership.{HasLeafInstance}
use Rattle.macro_layout.specs.LayoutKit.{LayoutKit}
use Rattle.macro_layout.specs.Places.{Floorplan, bank_x, IsPlaceOf}
use Rattle.macro_layout.specs.Floorplan.{rail_x}

-- the port of a leaf instance, on this net, has this rectangle on this metal as the instance stands in the macro
pub record IsPin (plan : Organization) (kit : LayoutKit) (floorplan : Floorplan) (leaf : LeafInstance) (port metal : ℕ) (net : Net) (r : Rect) : Type 0 where
  pub has : HasLeafInstance plan leaf
  pub on : slice_get (ports plan leaf) port ≡ Some net
  pub place : Place
  pub stands : IsPlaceOf plan kit floorplan leaf place
  pub image : IsImage (placed place) (kit.pin (role plan leaf) port metal) r

-- the lines of all groups, group by group; o is the lowest address bit of the first
abbrev pub line_nets : List ℕ → ℕ → List Net
line_nets [] o = []
line_nets (b ∷ bs) o = tabulate (power_of_two b) (Line o b) ++ line_nets bs (o + b)

-- the column choices, where there are column bits
abbrev pub choice_nets : ℕ → List Net
choice_nets zero = []
choice_nets (suc n) = tabulate (power_of_two (suc n)) (Line 0 (suc n))

-- the nets on the rails of bank b, in their order
abbrev pub rail_nets : Organization → ℕ → List Net
rail_nets plan b = line_nets plan.groups plan.col_bits ++ (wlen_at plan.bank_bits b ∷ sen_at plan.bank_bits b ∷ Control Clkb ∷ choice_nets plan.col_bits)

-- a rail of bank b carries the net and stands at x
pub record IsRailOf (plan : Organization) (wire : Wire) (floorplan : Floorplan) (b : ℕ) (net : Net) (x : ℤ) : Type 0 where
  pub rail : ℕ
  pub on : slice_get (rail_nets plan b) rail ≡ Some net
  pub at : x ≡ bank_x floorplan b (rail_x wire rail)

-- the nets of the column channel: the column choices, and the two lines of each bit of the word
abbrev pub slice_nets : Organization → ℕ → List Net
slice_nets plan i = lo_net plan.col_bits 0 i ∷ ro_net plan.col_bits 0 i ∷ []

abbrev pub column_nets : Organization → List Net
column_nets plan = choice_nets plan.col_bits ++ tabulate_lists plan.word_size (slice_nets plan)

-- the macro's signal ports
abbrev pub port_nets : Organization → List Net
port_nets plan = Control Clk0 ∷ Control Csb0 ∷ (web_nets plan.write_size ++ (tabulate plan.masks Wmask ++ (tabulate (addr_bits plan) Addr ++ (tabulate (inputs_of plan) Din ++ tabulate plan.word_size Dout))))

-- the output of a cell of the logic row is the last of its ports before the supplies
abbrev pub before_supplies : List Net → Net
before_supplies [] = Vdd
before_supplies (n ∷ []) = n
before_supplies (n ∷ m ∷ []) = n
before_supplies (n ∷ vdd ∷ gnd ∷ []) = n
before_supplies (n ∷ m ∷ k ∷ l ∷ ns) = before_supplies (m ∷ k ∷ l ∷ ns)

abbrev pub output_of : Organization → LogicCell → Net
output_of plan cell = before_supplies (logic_cell_ports plan cell)

-- the nets of the main channel: the signal ports, and then the outputs of the logic row
abbrev pub main_nets : Organization → List Net
main_nets plan = port_nets plan ++ map (output_of plan) (logic_cells plan)
