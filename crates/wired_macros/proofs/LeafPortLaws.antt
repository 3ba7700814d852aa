-- Each net of a wire has a port of a leaf instance.
use Rattle.std.proofs.Common.{◌≡◌, inl, inr, ℕ, zero, suc, ◌-◌, ◌<◌, List, [], ◌∷◌, ◌++◌, map, length, Some, refl, sym, ap, subst, ◌∙◌, arith}
use Rattle.std.specs.List.{AllByRecursion}
use Rattle.std.specs.Prelude.{slice_get}
use Rattle.or_geom.specs.declared.shape.Shape.{Shape}
use Rattle.tech_rules.specs.declared.tech.Tech.{Tech}
use Rattle.cell_hierarchy.specs.Plain.{FlatLists}
use Rattle.sram_netlist.specs.Organization.{Organization, IsBuildable, inputs_of, addr_bits, banks_of}
use Rattle.sram_netlist.specs.Nets.{Net, Vdd, Gnd, Clk0, Csb0, Web0, Control, Addr, Din, Dout, Wmask}
use Rattle.sram_netlist.specs.Instances.{LogicCell, LeafInstance, LogicAt, BitAt, SenseAt, Clki, Csd, Wed, Ad, Dd, Dm}
use Rattle.sram_netlist.specs.InstanceList.{tabulate, tabulate_lists, logic_cells}
use Rattle.sram_netlist.specs.Netlist.{ports, logic_cell_ports, web_nets}
use Rattle.sram_netlist.specs.Membership.{HasLeafInstance, HasLogicCell, IsOneOf}
use Rattle.sram_netlist.proofs.Bounds.{twice_above}
use Rattle.sram_netlist.proofs.InstanceLists.{of_map, of_each, of_either}
use Rattle.sram_rows.proofs.LogicCells.{cells_in}
use Rattle.sram_rows.proofs.RowKinds.{some_rows}
use Rattle.macro_layout.specs.Pins.{port_nets, main_nets, output_of, column_nets, choice_nets, slice_nets}
use Rattle.main_channel.proofs.NetLaws.{before_at}
use Rattle.main_channel.proofs.PortLaws.{three_ports}
use Rattle.joined_nets.specs.WireNets.{in_bank, IsBankWireOf, IsWireOfNet}
use Rattle.kit_nets.specs.StatedParts.{Source}
use Rattle.kit_nets.proofs.ArrayJoinLaws.{some_columns}
use Rattle.wired_macros.specs.WiredMacro.{IsWiredMacro}
use Rattle.macro_nets.proofs.MainNumberLaws.{line_number}
use Rattle.macro_nets.proofs.ListSplitLaws.{split_at}
use Rattle.wired_macros.proofs.BankWireLaws.{one_at, line_of, line_in, sense_on, choice_of}

pub record HasLeafPort (plan : Organization) (net : Net) : Type 0 where
  pub leaf : LeafInstance
  pub has : HasLeafInstance plan leaf
  pub port : ℕ
  pub on : slice_get (ports plan leaf) port ≡ Some net

all_of : {X : Type 0} (P : X → Type 0) (xs : List X) (x : X) → AllByRecursion P xs → IsOneOf x xs → P x
all_of P [] x all none = absurd none
all_of P (y ∷ ys) x all (inl same) = subst P same all.0
all_of P (y ∷ ys) x all (inr later) = all_of P ys x all.1 later

in_logic : (plan : Organization) (cell : LogicCell) (port : ℕ) (net : Net) → HasLogicCell plan cell → slice_get (logic_cell_ports plan cell) port ≡ Some net → HasLeafPort plan net
in_logic plan cell port net has on = record { leaf = LogicAt cell; has = has; port = port; on = on }

some_banks : (plan : Organization) → 0 < banks_of plan
some_banks plan = let t = twice_above plan.bank_bits in omega (arith, t)

web_port : (plan : Organization) (w : ℕ) (net : Net) → plan.write_size ≡ w → IsOneOf net (web_nets w) → HasLeafPort plan net
web_port plan zero net e is = absurd is
web_port plan (suc w) net e (inl same) = subst (HasLeafPort plan) same (in_logic plan Wed 0 (Control Web0) (omega (arith, e)) refl)
web_port plan (suc w) net e (inr none) = absurd none

-- the macro's signal ports
pub signal_port : (plan : Organization) (net : Net) → IsOneOf net (port_nets plan) → HasLeafPort plan net
signal_port plan net (inl same) = subst (HasLeafPort plan) same (in_logic plan Clki 0 (Control Clk0) tt refl)
signal_port plan net (inr (inl same)) = subst (HasLeafPort plan) same (in_logic plan Csd 0 (Control Csb0) tt refl)
signal_port plan net (inr (inr is)) =
    of_either (HasLeafPort plan) net (web_nets plan.write_size) (tabulate plan.masks Wmask ++ (tabulate (addr_bits plan) Addr ++ (tabulate (inputs_of plan) Din ++ tabulate plan.word_size Dout))) (web_port plan plan.write_size net refl)
    (of_either (HasLeafPort plan) net (tabulate plan.masks Wmask) (tabulate (addr_bits plan) Addr ++ (tabulate (inputs_of plan) Din ++ tabulate plan.word_size Dout)) (of_each plan.masks Wmask (HasLeafPort plan) (λ m lt. in_logic plan (Dm m) 0 (Wmask m) lt refl) net)
    (of_either (HasLeafPort plan) net (tabulate (addr_bits plan) Addr) (tabulate (inputs_of plan) Din ++ tabulate plan.word_size Dout) (of_each (addr_bits plan) Addr (HasLeafPort plan) (λ i lt. in_logic plan (Ad i) 0 (Addr i) lt refl) net)
    (of_either (HasLeafPort plan) net (tabulate (inputs_of plan) Din) (tabulate plan.word_size Dout) (of_each (inputs_of plan) Din (HasLeafPort plan) (λ i lt. in_logic plan (Dd i) 0 (Din i) lt refl) net)
    (of_each plan.word_size Dout (HasLeafPort plan) (λ i lt. record { leaf = SenseAt 0 i; has = (some_banks plan, lt); port = 2; on = refl }) net)))) is

output_port : (plan : Organization) (net : Net) → IsOneOf net (map (output_of plan) (logic_cells plan)) → HasLeafPort plan net
output_port plan net is =
    let cell = of_map (output_of plan) net (logic_cells plan) is in
    let has = all_of (HasLogicCell plan) (logic_cells plan) cell.0 (cells_in plan) cell.1 in
    subst (HasLeafPort plan) cell.2 (in_logic plan cell.0 (length (logic_cell_ports plan cell.0) - 3) (output_of plan cell.0) has (before_at (logic_cell_ports plan cell.0) (three_ports plan cell.0)))

-- the main channel's nets
pub main_port : (plan : Organization) (number : ℕ) (net : Net) → slice_get (main_nets plan) number ≡ Some net → HasLeafPort plan net
main_port plan number net named = of_either (HasLeafPort plan) net (port_nets plan) (map (output_of plan) (logic_cells plan)) (signal_port plan net) (output_port plan net) (one_at (main_nets plan) number net named)

-- supplies
pub power_port_there : (plan : Organization) → IsBuildable plan → HasLeafPort plan Vdd
power_port_there plan build = record { leaf = BitAt 0 0 0; has = (some_banks plan, (some_rows plan, some_columns plan build)); port = 3; on = refl }

pub ground_port_there : (plan : Organization) → IsBuildable plan → HasLeafPort plan Gnd
ground_port_there plan build = record { leaf = BitAt 0 0 0; has = (some_banks plan, (some_rows plan, some_columns plan build)); port = 4; on = refl }

-- the column channel's nets, in a bank
pub column_port : (plan : Organization) (b number : ℕ) (net : Net) → b < banks_of plan → slice_get (column_nets plan) number ≡ Some net → HasLeafPort plan (in_bank b net)
column_port plan b number net of_bank named = elim (split_at (choice_nets plan.col_bits) (tabulate_lists plan.word_size (slice_nets plan)) number net named) [
  | inl front ↦
      let c = choice_of plan.col_bits net (one_at (choice_nets plan.col_bits) number net front.1) in
      let line = line_number plan 0 plan.col_bits c.choice (inl ((refl, refl), c.some)) c.few in
      subst (λ (n : Net). HasLeafPort plan (in_bank b n)) (sym c.is) (main_port plan line.number _ line.named)
  | inr back ↦
      let line = line_of plan net (one_at (tabulate_lists plan.word_size (slice_nets plan)) back.0 net back.2) in
      subst (HasLeafPort plan) (sym (ap (in_bank b) line.is ∙ line_in plan.col_bits b line.port line.bit line.few))
      (record { leaf = SenseAt b line.bit; has = (of_bank, line.below); port = line.port; on = sense_on plan line.port b line.bit line.few })
]

module _ (tech : Tech) (s : Source) (flat : FlatLists) (d : IsWiredMacro tech s flat) where
  bank_port : (b : ℕ) (net : Net) (inner : Shape) → b < banks_of s.plan → IsBankWireOf s.plan s.kit s.wire s.tracks s.floorplan net inner → HasLeafPort s.plan (in_bank b net)
  bank_port b net inner of_bank (inl channel) = column_port s.plan b channel.number net of_bank channel.named
  bank_port b net inner of_bank (inr (inl tap)) = let top = d.named.rails b net tap.x of_bank tap.rail in main_port s.plan top.number (in_bank b net) top.named
  bank_port b net inner of_bank (inr (inr (inl rail))) = let top = d.named.rails b net rail.x of_bank rail.rail in main_port s.plan top.number (in_bank b net) top.named
  bank_port b net inner of_bank (inr (inr (inr (inl output)))) = let top = d.named.outputs b output.bit net output.rect of_bank output.pin in main_port s.plan top.number (in_bank b net) top.named
  bank_port b net inner of_bank (inr (inr (inr (inr (is, joiner))))) = subst (λ (n : Net). HasLeafPort s.plan (in_bank b n)) (sym is) (ground_port_there s.plan d.laid.build)

  -- The net of a wire has a port of a leaf instance.
  pub wire_port : (n : Net) (u : Shape) → IsWireOfNet s.plan s.kit s.wire s.tracks s.floorplan n u → HasLeafPort s.plan n
  wire_port n u (inl (inl channel)) = main_port s.plan channel.number n channel.named
  wire_port n u (inl (inr (inl power))) = subst (HasLeafPort s.plan) (sym power.0) (power_port_there s.plan d.laid.build)
  wire_port n u (inl (inr (inr ground))) = subst (HasLeafPort s.plan) (sym ground.0) (ground_port_there s.plan d.laid.build)
  wire_port n u (inr bank) = subst (HasLeafPort s.plan) (sym bank.named) (bank_port bank.bank bank.net bank.inner bank.below bank.is)
