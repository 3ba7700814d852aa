-- Channels by formula are the same by two kits that differ at most in pins that aren't demanded.
use Rattle.std.proofs.Common.{◌≡◌, ℕ, zero, suc, ◌+◌, ◌-◌, ◌*◌, ◌<◌, ℤ, pos, ◌+ℤ◌, ◌*ℤ◌, List, [], ◌∷◌, ◌++◌, map, length, get_or, Option, refl, arith}
use Rattle.std.specs.List.{AllByRecursion, flat_map}
use Rattle.std.proofs.lemmas.List.{length-map}
use Rattle.tech_rules.specs.declared.tech.Wire.{Wire}
use Rattle.wire_drawing.specs.Drawing.{pitch}
use Rattle.cell_roles.specs.declared.role.Role.TheVariants.{Mux, Tie, Sense, Write, Inv}
use Rattle.channel_router.specs.declared.channel.ChannelPin.{ChannelPin}
use Rattle.sram_netlist.specs.Organization.{Organization, IsBuildable, banks_of, columns_of}
use Rattle.sram_netlist.specs.Nets.{D, Dout}
use Rattle.sram_netlist.specs.Instances.{LogicCell}
use Rattle.sram_netlist.specs.Netlist.{enable_at, mask_of, logic_role, logic_cell_ports}
use Rattle.sram_netlist.specs.Membership.{HasLogicCell}
use Rattle.sram_netlist.specs.Names.{net_name}
use Rattle.sram_netlist.specs.InstanceList.{numbers_from, tabulate, tabulate_lists, logic_cells}
use Rattle.sram_deck.specs.Deck.{logic_cell}
use Rattle.sram_rows.proofs.LogicCells.{cells_in}
use Rattle.macro_layout.specs.LayoutKit.{LayoutKit}
use Rattle.macro_layout.specs.Places.{Floorplan, drive_width}
use Rattle.macro_layout.specs.Floorplan.{choice_count, write_height}
use Rattle.macro_layout.specs.Pins.{port_nets, rail_nets, main_nets}
use Rattle.port_data.specs.declared.columns.Columns.{Columns}
use Rattle.port_data.specs.Pins.{columns_in, column_ends, column_lines, column_choice, choice_pins, sense_ends, sense_lines, exit_at, column_channel}
use Rattle.main_channel.specs.Pins.{numbered_net}
use Rattle.main_channel.specs.Banks.{bank_rail_pins, bit_begin, written_pins, bit_channel_pins, columns_begin, bank_pins}
use Rattle.main_channel.specs.Row.{port_channel_pin, cell_channel_pins, row_pins}
use Rattle.main_channel.specs.Formula.{main_number, port_begin, main_exit, main_channel}
use Rattle.asked_pins.specs.Layouts.{PinShapes, AreAlikeWhereDemanded, with_pins}
use Rattle.asked_pins.specs.Channels.{AreSameChannels}
use Rattle.asked_pins.proofs.AskedLaws.{write_din, write_en, sense_dout, sense_bl, sense_br, mux_blo, mux_bro, mux_sel, tie_bl, tie_br, port_asked}

-- lists one after another are the same where each is
lists_same : {X : Type 0} (f g : ℕ → List X) (k n : ℕ) → ((j : ℕ) → j < k + n → f j ≡ g j)
    → flat_map f (numbers_from k n) ≡ flat_map g (numbers_from k n)
lists_same f g k zero each = refl
lists_same f g k (suc n) each =
    let here = each k (omega arith) in
    let later = lists_same f g (suc k) n (λ j lt. each j (omega (arith, lt))) in
    λ i. here i ++ later i

module _ (plan : Organization) (built : IsBuildable plan) (kit : LayoutKit) (wire : Wire) (f : Floorplan) (a b : PinShapes) (alike : AreAlikeWhereDemanded a b) where
  abbrev by : PinShapes → LayoutKit
  by shapes = with_pins kit shapes

  abbrev look : List ℕ → Option ℕ
  look = main_number plan

  -- the main channel

  abbrev bit_pins : PinShapes → ℕ → ℤ → ℕ → List ChannelPin
  bit_pins shapes bank from bit = bit_channel_pins (port_begin (by shapes) 3) kit.width look plan bank from bit

  bit_same : (bank : ℕ) (from : ℤ) (bit : ℕ) → bit_pins a bank from bit ≡ bit_pins b bank from bit
  bit_same bank from bit =
      let begin = bit_begin kit.width plan from bit in
      let enable = net_name plan (enable_at plan.bank_bits plan.masks bank (mask_of plan.masks plan.write_size bit)) in
      let din = alike Write 0 3 write_din in
      let en = alike Write 3 3 write_en in
      let dout = alike Sense 2 3 sense_dout in
      λ i. written_pins plan.write_size (numbered_net look (net_name plan (D bit)) (begin +ℤ (din i).x1) ++ numbered_net look enable (begin +ℤ (en i).x1)) ++ numbered_net look (net_name plan (Dout bit)) (begin +ℤ (dout i).x1)

  bank_same : (bank : ℕ)
      → bank_pins (port_begin (by a) 3) kit.width look plan (pitch wire) f.row_x f.bank_width bank ≡ bank_pins (port_begin (by b) 3) kit.width look plan (pitch wire) f.row_x f.bank_width bank
  bank_same bank =
      let from = (pos bank *ℤ f.bank_width) +ℤ columns_begin kit.width plan f.row_x in
      let bits = lists_same (bit_pins a bank from) (bit_pins b bank from) 0 plan.word_size (λ bit lt. bit_same bank from bit) in
      λ i. bank_rail_pins look (map (net_name plan) (rail_nets plan bank)) (pos bank *ℤ f.bank_width) (pitch wire) ++ bits i

  abbrev row_of : PinShapes → List LogicCell → ℤ → List ChannelPin
  row_of shapes cells from =
      row_pins (port_begin (by shapes) 1) kit.width look (map (logic_cell plan kit.cell) cells) (map (logic_role plan) cells) from

  abbrev cell_of : PinShapes → LogicCell → ℤ → List ChannelPin
  cell_of shapes c from = cell_channel_pins (port_begin (by shapes) 1) look (logic_role plan c) (logic_cell plan kit.cell c) from

  cell_same : (c : LogicCell) (from : ℤ) → HasLogicCell plan c → cell_of a c from ≡ cell_of b c from
  cell_same c from has =
      let names = map (net_name plan) (logic_cell_ports plan c) in
      let long = length-map (logic_cell_ports plan c) (net_name plan) in
      lists_same (port_channel_pin (port_begin (by a) 1 (logic_role plan c)) look names from) (port_channel_pin (port_begin (by b) 1 (logic_role plan c)) look names from) 0 (length names - 2) (λ port lt.
      let same = alike (logic_role plan c) port 1 (port_asked plan c port built has (omega (arith, lt, long))) in
      λ i. numbered_net look (get_or names port []) (from +ℤ (same i).x1))

  row_same : (cells : List LogicCell) (from : ℤ) → AllByRecursion (HasLogicCell plan) cells → row_of a cells from ≡ row_of b cells from
  row_same [] from has = refl
  row_same (c ∷ cells) from has =
      let here = cell_same c from has.0 in
      let later = row_same cells (from +ℤ pos (kit.width (logic_role plan c))) has.1 in
      λ i. here i ++ later i

  main_same : main_channel plan (by a) wire f ≡ main_channel plan (by b) wire f
  main_same =
      let top = lists_same (bank_pins (port_begin (by a) 3) kit.width look plan (pitch wire) f.row_x f.bank_width) (bank_pins (port_begin (by b) 3) kit.width look plan (pitch wire) f.row_x f.bank_width) 0 (banks_of plan) (λ bank lt. bank_same bank) in
      let bottom = row_same (logic_cells plan) f.logic_x (cells_in plan) in
      λ i. record { low = pos (kit.height Inv); top = top i; bottom = bottom i; exits = tabulate (length (port_nets plan)) main_exit; nets = length (main_nets plan) }

  -- the column channel

  ends_same : (bits : ℕ) → column_ends bits (by a) ≡ column_ends bits (by b)
  ends_same zero = let lo = alike Tie 0 3 tie_bl in let ro = alike Tie 1 3 tie_br in λ i. record { lo = (lo i).x1; ro = (ro i).x1 }
  ends_same (suc bits) = let lo = alike Mux 2 3 mux_blo in let ro = alike Mux 3 3 mux_bro in λ i. record { lo = (lo i).x1; ro = (ro i).x1 }

  choices_same : (bits : ℕ) (columns : Columns) → choice_pins bits (by a) columns ≡ choice_pins bits (by b) columns
  choices_same zero columns = refl
  choices_same (suc bits) columns = let sel = alike Mux 4 3 mux_sel in λ i. tabulate columns.count (column_choice columns (sel i).x1)

  sense_same : sense_ends (by a) ≡ sense_ends (by b)
  sense_same = let lo = alike Sense 0 1 sense_bl in let ro = alike Sense 1 1 sense_br in λ i. record { lo = (lo i).x1; ro = (ro i).x1 }

  column_same : column_channel plan (by a) wire ≡ column_channel plan (by b) wire
  column_same =
      let columns = columns_in plan (by a) in
      let ends = ends_same plan.col_bits in
      let choices = choices_same plan.col_bits columns in
      λ i. record {
        low = pos (write_height plan (by a) + kit.height Sense);
        top = tabulate_lists (columns_of plan) (column_lines columns (ends i)) ++ choices i;
        bottom = tabulate_lists plan.word_size (sense_lines columns (sense_same i));
        exits = tabulate (choice_count plan.col_bits) (exit_at (choice_count plan.col_bits) (drive_width plan (by a)) (pitch wire));
        nets = choice_count plan.col_bits + 2 * plan.word_size;
      }

pub channels_alike : (plan : Organization) (kit : LayoutKit) (a b : PinShapes) (wire : Wire) (f : Floorplan) → IsBuildable plan
    → AreAlikeWhereDemanded a b → AreSameChannels plan (with_pins kit a) (with_pins kit b) wire f
channels_alike plan kit a b wire f built alike = record { main = main_same plan built kit wire f a b alike; column = column_same plan built kit wire f a b alike }
