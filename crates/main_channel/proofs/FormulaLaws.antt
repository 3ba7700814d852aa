-- The pins that were added are those of the formula.
use Rattle.std.proofs.Common.{◌≡◌, ℕ, ◌-◌, ℤ, pos, ◌+ℤ◌, ◌*ℤ◌, List, [], ◌∷◌, ◌++◌, map, length, get_or, Option, refl, ap, ◌∙◌, arith}
use Rattle.std.specs.List.{AllByRecursion}
use Rattle.std.proofs.lemmas.List.{length-map}
use Rattle.cell_roles.specs.declared.role.Role.{Role}
use Rattle.cell_roles.specs.declared.role.Role.TheVariants.{Inv, Sense, Write}
use Rattle.netlist.specs.declared.deck.Instance.{Instance}
use Rattle.tech_rules.specs.declared.tech.Wire.{Wire}
use Rattle.wire_drawing.specs.Drawing.{pitch}
use Rattle.channel_router.specs.declared.channel.ChannelPin.{ChannelPin}
use Rattle.leaf_tables.specs.declared.kit.Kit.{Kit}
use Rattle.leaf_tables.specs.Kits.{IsKit}
use Rattle.sram_netlist.specs.Organization.{Organization, IsBuildable, banks_of}
use Rattle.sram_netlist.specs.Nets.{D, Dout}
use Rattle.sram_netlist.specs.Instances.{LogicCell}
use Rattle.sram_netlist.specs.Netlist.{logic_role, logic_cell_ports, enable_at, mask_of}
use Rattle.sram_netlist.specs.Names.{net_name}
use Rattle.sram_netlist.specs.Membership.{HasLogicCell}
use Rattle.sram_netlist.specs.InstanceList.{tabulate, tabulate_lists, logic_cells}
use Rattle.sram_deck.specs.Deck.{logic_cell, logic_instances}
use Rattle.sram_rows.proofs.LogicCells.{cells_in, ports_sized}
use Rattle.port_lists.specs.Cells.{cell_in}
use Rattle.macro_layout.specs.LayoutKit.{LayoutKit}
use Rattle.macro_layout.specs.Places.{Floorplan}
use Rattle.macro_layout.specs.Pins.{rail_nets, port_nets, main_nets}
use Rattle.floorplan.specs.LeafSides.{leaf_width}
use Rattle.floorplan.specs.LayoutOfKit.{layout_kit}
use Rattle.main_channel.specs.Leaves.{pin_begin}
use Rattle.main_channel.specs.Pins.{numbered_net}
use Rattle.main_channel.specs.Row.{port_channel_pin, cell_channel_pins, row_pins}
use Rattle.main_channel.specs.Banks.{bank_rail_pins, written_pins, bit_begin, bit_channel_pins, columns_begin, bank_pins}
use Rattle.main_channel.specs.Formula.{main_number, port_begin, main_top, main_bottom, main_exit, main_channel}
use Rattle.main_channel.proofs.PinLaws.{lists_same}
use Rattle.main_channel.proofs.StepLaws.{from_none}
use Rattle.main_channel.proofs.LeafLaws.{begins_as_stated}
use Rattle.main_channel.proofs.PortLaws.{logic_demand, write_din, write_en, sense_dout}

module _ (kit : Kit) (is : IsKit kit) (plan : Organization) where
  -- where pins begin at the top and at the bottom
  abbrev above : Role → ℕ → ℤ
  above role port = port_begin (layout_kit kit) 3 role port

  abbrev below : Role → ℕ → ℤ
  below role port = port_begin (layout_kit kit) 1 role port

  bit_same : (look : List ℕ → Option ℕ) (bank : ℕ) (from : ℤ) (bit : ℕ) → bit_channel_pins (pin_begin kit) (leaf_width kit) look plan bank from bit ≡ bit_channel_pins above (leaf_width kit) look plan bank from bit
  bit_same look bank from bit =
      let at = bit_begin (leaf_width kit) plan from bit in
      let din = begins_as_stated kit is Write 0 3 0 write_din in
      let en = begins_as_stated kit is Write 3 3 3 write_en in
      let dout = begins_as_stated kit is Sense 2 3 2 sense_dout in
      λ i. written_pins plan.write_size (numbered_net look (net_name plan (D bit)) (at +ℤ din i)
      ++ numbered_net look (net_name plan (enable_at plan.bank_bits plan.masks bank (mask_of plan.masks plan.write_size bit))) (at +ℤ en i))
      ++ numbered_net look (net_name plan (Dout bit)) (at +ℤ dout i)

  bank_same : (look : List ℕ → Option ℕ) (step row_x bank_width : ℤ) (bank : ℕ) → bank_pins (pin_begin kit) (leaf_width kit) look plan step row_x bank_width bank ≡ bank_pins above (leaf_width kit) look plan step row_x bank_width bank
  bank_same look step row_x bank_width bank =
      let at : ℤ = (pos bank *ℤ bank_width) in
      let from = at +ℤ columns_begin (leaf_width kit) plan row_x in
      ap (λ (l : List ChannelPin). bank_rail_pins look (map (net_name plan) (rail_nets plan bank)) at step ++ l)
      (lists_same plan.word_size (bit_channel_pins (pin_begin kit) (leaf_width kit) look plan bank from) (bit_channel_pins above (leaf_width kit) look plan bank from) (λ bit less. bit_same look bank from bit))

  pub top_formula : (wire : Wire) (floorplan : Floorplan) (look : List ℕ → Option ℕ) (row_x bank_width : ℤ) (banks : ℕ) (none tops top : List ChannelPin) → ((name : List ℕ) → look name ≡ main_number plan name) → none ≡ []
      → tops ≡ none ++ tabulate_lists banks (bank_pins (pin_begin kit) (leaf_width kit) look plan (pitch wire) row_x bank_width) → top ≡ tops → banks ≡ banks_of plan → row_x ≡ floorplan.row_x → bank_width ≡ floorplan.bank_width
      → top ≡ main_top plan (layout_kit kit) wire floorplan
  top_formula wire floorplan look row_x bank_width banks none tops top looked empty added same count rows wide =
      from_none none tops top (tabulate_lists banks (bank_pins (pin_begin kit) (leaf_width kit) look plan (pitch wire) row_x bank_width)) empty added same
      ∙ ((λ i. tabulate_lists (count i) (bank_pins (pin_begin kit) (leaf_width kit) (λ name. looked name i) plan (pitch wire) (rows i) (wide i)))
      ∙ lists_same (banks_of plan) (bank_pins (pin_begin kit) (leaf_width kit) (main_number plan) plan (pitch wire) floorplan.row_x floorplan.bank_width)
      (bank_pins above (leaf_width kit) (main_number plan) plan (pitch wire) floorplan.row_x floorplan.bank_width) (λ bank less. bank_same (main_number plan) (pitch wire) floorplan.row_x floorplan.bank_width bank))

  cell_same : (p : IsBuildable plan) (look : List ℕ → Option ℕ) (cell : Role → List ℕ) (c : LogicCell) (from : ℤ) → HasLogicCell plan c
      → cell_channel_pins (pin_begin kit) look (logic_role plan c) (logic_cell plan cell c) from ≡ cell_channel_pins below look (logic_role plan c) (logic_cell plan cell c) from
  cell_same p look cell c from has =
      let nodes = map (net_name plan) (logic_cell_ports plan c) in
      let long = length-map (logic_cell_ports plan c) (net_name plan) in
      let sized = ports_sized plan c p has in
      lists_same (length nodes - 2) (port_channel_pin (pin_begin kit (logic_role plan c)) look nodes from) (port_channel_pin (below (logic_role plan c)) look nodes from)
      (λ k less. ap (λ (z : ℤ). numbered_net look (get_or nodes k []) (from +ℤ z)) (begins_as_stated kit is (logic_role plan c) k 1 k (logic_demand plan c k (omega (arith, less, long, sized)))))

  row_same : (p : IsBuildable plan) (look : List ℕ → Option ℕ) (cell : Role → List ℕ) (cs : List LogicCell) (from : ℤ) → AllByRecursion (HasLogicCell plan) cs
      → row_pins (pin_begin kit) (leaf_width kit) look (map (logic_cell plan cell) cs) (map (logic_role plan) cs) from ≡ row_pins below (leaf_width kit) look (map (logic_cell plan cell) cs) (map (logic_role plan) cs) from
  row_same p look cell [] from all = refl
  row_same p look cell (c ∷ cs) from all = λ i. cell_same p look cell c from all.0 i ++ row_same p look cell cs (from +ℤ pos (leaf_width kit (logic_role plan c))) all.1 i

  pub bottom_formula : (p : IsBuildable plan) (floorplan : Floorplan) (look : List ℕ → Option ℕ) (gates : List Instance) (roles : List Role) (logic_x : ℤ) (none bottoms bottom : List ChannelPin) → ((name : List ℕ) → look name ≡ main_number plan name) → none ≡ []
      → bottoms ≡ none ++ row_pins (pin_begin kit) (leaf_width kit) look gates roles logic_x → bottom ≡ bottoms → gates ≡ logic_instances plan (cell_in kit.tech.roles) → roles ≡ map (logic_role plan) (logic_cells plan) → logic_x ≡ floorplan.logic_x
      → bottom ≡ main_bottom plan (layout_kit kit) floorplan
  bottom_formula p floorplan look gates roles logic_x none bottoms bottom looked empty added same gates_are roles_are begins =
      from_none none bottoms bottom (row_pins (pin_begin kit) (leaf_width kit) look gates roles logic_x) empty added same
      ∙ ((λ i. row_pins (pin_begin kit) (leaf_width kit) (λ name. looked name i) (gates_are i) (roles_are i) (begins i)) ∙ row_same p (main_number plan) (cell_in kit.tech.roles) (logic_cells plan) floorplan.logic_x (cells_in plan))

-- a channel whose parts are those of the formula
pub same_channel : (plan : Organization) (kit : LayoutKit) (wire : Wire) (floorplan : Floorplan) (low : ℤ) (top bottom exits : List ChannelPin) (nets : ℕ) → low ≡ pos (kit.height Inv) → top ≡ main_top plan kit wire floorplan → bottom ≡ main_bottom plan kit floorplan
    → exits ≡ tabulate (length (port_nets plan)) main_exit → nets ≡ length (main_nets plan) → record { low = low; top = top; bottom = bottom; exits = exits; nets = nets } ≡ main_channel plan kit wire floorplan
same_channel plan kit wire floorplan low top bottom exits nets low_is top_is bottom_is exits_are nets_are = λ i. record { low = low_is i; top = top_is i; bottom = bottom_is i; exits = exits_are i; nets = nets_are i }
