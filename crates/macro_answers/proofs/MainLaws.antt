-- The main channel of any plan: its pins are of its nets and lie in the macro; so two of them are the first that are too close, or it
-- is routed.
use Rattle.std.proofs.Common.{◌≡◌, ◌≢◌, ◌⊎◌, inl, inr, ℕ, zero, suc, ◌+◌, ◌-◌, ◌*◌, ◌<◌, ◌≤◌, ℤ, pos, ◌+ℤ◌, ◌*ℤ◌, ◌≤ℤ◌, List, [], ◌∷◌, length, get_or, Option, Some, None, refl, sym, ap, subst, ◌∙◌, arith}
use Rattle.std.specs.Prelude.{flat_map, map}
use Rattle.std.specs.List.{AllByRecursion}
use Rattle.std.proofs.lemmas.Nat.{mul-le}
use Rattle.std.proofs.lemmas.Int.{ints}
use Rattle.std.proofs.lemmas.List.{length-map}
use Rattle.std.proofs.lemmas.List.Elements.{All-from_recursion}
use Rattle.or_geom.specs.declared.shape.Rect.{Rect}
use Rattle.tech_rules.specs.declared.tech.Wire.{Wire}
use Rattle.wire_drawing.specs.declared.route.RouteFault.{RouteFault}
use Rattle.wire_drawing.specs.declared.route.RouteFault.TheVariants as route_fault
use Rattle.wire_drawing.specs.Drawing.{pitch}
use Rattle.tech_rules.specs.Facts.{AreSizes, IsWire}
use Rattle.channel_router.specs.declared.channel.ChannelPin.{ChannelPin}
use Rattle.channel_router.specs.declared.channel.Routed.{Routed}
use Rattle.cell_roles.specs.declared.role.Role.{Role}
use Rattle.cell_roles.specs.declared.role.Role.TheVariants.{Bitcell, Driver, Inv, Sense, Write}
use Rattle.sram_netlist.specs.Organization.{IsBuildable, Organization, banks_of, columns_of, words_per_row}
use Rattle.sram_netlist.specs.Instances.{LogicCell}
use Rattle.sram_netlist.specs.InstanceList.{logic_cells, numbers_from, tabulate, tabulate_lists}
use Rattle.sram_netlist.specs.Names.{net_name}
use Rattle.sram_netlist.specs.Nets.{D, Dout}
use Rattle.sram_netlist.specs.Netlist.{enable_at, logic_role, mask_of, row_gate}
use Rattle.sram_netlist.specs.Numbers.{ArePlanNumbers}
use Rattle.sram_deck.specs.Deck.{logic_cell}
use Rattle.sram_plan.specs.declared.numbers.Plan.{Plan}
use Rattle.sram_plan.specs.PlanNumbers.{numbers_of, organization}
use Rattle.port_lists.proofs.NumberLaws.{banks_are}
use Rattle.leaf_tables.specs.declared.kit.Kit.{Kit}
use Rattle.leaf_tables.specs.Kits.{IsKit}
use Rattle.leaf_tables.specs.NearLeaf.{IsLeafLength}
use Rattle.floorplan.specs.LayoutOfKit.{layout_kit, pin_shape}
use Rattle.floorplan.specs.LeafSides.{leaf_width}
use Rattle.macro_layout.specs.LayoutKit.{LayoutKit}
use Rattle.macro_layout.specs.Places.{Floorplan, bit_width, drive_width}
use Rattle.macro_layout.specs.Floorplan.{IsFloorplan, Tracks, rail_x}
use Rattle.macro_layout.specs.Channels.{IsMainChannel}
use Rattle.macro_layout.specs.Pins.{main_nets, port_nets, rail_nets}
use Rattle.macro_bounds.proofs.CountLaws.{channel_nets_are_few, logic_cells_are_few}
use Rattle.floorplan.specs.FloorplanNumbers.{IsUpTo, floorplan_of}
use Rattle.bank_layout.proofs.GoodLaws.{rail_near}
use Rattle.bank_layout.proofs.WithinLaws.{both_all, numbers_all}
use Rattle.view_cover.proofs.RoleLaws.{found_pin, pin_inside, square_or}
use Rattle.main_channel.specs.Banks.{bank_pins, bit_begin, bit_channel_pins, columns_begin, rail_channel_pin, written_pins}
use Rattle.main_channel.specs.Formula.{main_bottom, main_channel, main_exit, main_number, main_top, port_begin}
use Rattle.main_channel.specs.Numbers.{IsNetNumbering}
use Rattle.main_channel.specs.Pins.{IsMacroCoordinate, IsMainPin, numbered_net, pin_of}
use Rattle.main_channel.specs.Row.{port_channel_pin, row_pins}
use Rattle.main_channel.proofs.ChannelLaws.{AreSides, is_channel, is_near, numbering}
use Rattle.main_channel.proofs.CountLaws.{few_rails}
use Rattle.main_channel.proofs.RailLaws.{rails_named}
use Rattle.main_channel.proofs.RowLaws.{nets_counted, ports_counted}
use Rattle.main_channel.proofs.StatedLaws.{exits_are, has_exit, main_outputs, main_stated}
use Rattle.sram_macro.specs.Layout.{IsMainFault, IsMainOf, IsMainRouted}
use Rattle.sram_macro.proofs.ExtentLaws.{few_banks, four_times}
use Rattle.sram_macro.proofs.KitFacts.{small_kit}
use Rattle.channel_answers.specs.Answers.{ChannelsAreRouted, ClosePinsAreFound}
use Rattle.macro_answers.proofs.FloorplanLaws.{HasPlaces}

-- A pin of a leaf cell begins in the cell.

IsPort : ℤ → Type 0
IsPort z = (pos 0 ≤ℤ z) × (z ≤ℤ pos 65536)

port_in : (kit : Kit) → IsKit kit → (role : Role) (port metal : ℕ) → IsPort ((layout_kit kit).pin role port metal).x1
unfolding IsPort
port_in kit is role port metal = square_or (λ (r : Rect). (pos 0 ≤ℤ r.x1) × (r.x1 ≤ℤ pos 65536)) (pin_shape kit role port metal) (omega (arith, ints), omega (arith, ints)) (λ r e.
    let p = found_pin kit is role port metal r e in
    let inside = pin_inside kit is role p.leaf p.there p.demand p.pin p.at in
    let narrow = (small_kit kit is).widths role in
    let left = inside.from in
    let right = inside.to in
    let wide = p.pin.rect.wide in
    subst (λ (s : Rect). (pos 0 ≤ℤ s.x1) × (s.x1 ≤ℤ pos 65536)) p.rect (left, omega (arith, ints, right, wide, narrow)))

-- Lists of pins

abbrev AreAll : ℕ → List ChannelPin → Type 0
AreAll nets pins = AllByRecursion (IsMainPin nets) pins

numbered_all : (nets : ℕ) (look : List ℕ → Option ℕ) (name : List ℕ) (x : ℤ) → IsNetNumbering nets look → IsMacroCoordinate x
    → AreAll nets (numbered_net look name x)
numbered_all nets look name x numbers at = by (look name) refl
  where
    by : (o : Option ℕ) → look name ≡ o → AreAll nets (pin_of o x)
    by None e = tt
    by (Some net) e = (record { of_net = numbers name net e; at = at }, tt)

flat_each : (nets : ℕ) (f : ℕ → List ChannelPin) (ks : List ℕ) → AllByRecursion (λ (k : ℕ). AreAll nets (f k)) ks → AreAll nets (flat_map f ks)
flat_each nets f [] each = tt
flat_each nets f (k ∷ ks) each = both_all (IsMainPin nets) (f k) (flat_map f ks) each.0 (flat_each nets f ks each.1)

lists_each : (nets n : ℕ) (f : ℕ → List ChannelPin) → ((k : ℕ) → k < n → AreAll nets (f k)) → AreAll nets (tabulate_lists n f)
lists_each nets n f each = flat_each nets f (numbers_from 0 n) (numbers_all (λ (k : ℕ). AreAll nets (f k)) 0 n (λ k lt. each k (omega (arith, lt))))

-- The upper side

-- what is known of the places of a bank's pins
record HasRoom (kit : Kit) (plan : Organization) (wire : Wire) (f : Floorplan) : Type 0 where
  is : IsKit kit
  built : IsBuildable plan
  sizes : AreSizes wire
  banks : banks_of plan ≤ 4
  width : IsUpTo 33554432 f.bank_width
  row : IsUpTo 8388608 f.row_x
  logic : IsUpTo 131072 f.logic_x

bank_begins : (n b : ℕ) (w : ℤ) → n ≤ 4 → b < n → IsUpTo 33554432 w → IsUpTo 134217728 (pos b *ℤ w)
bank_begins n b w few below is = four_times b w (omega (arith, few, below)) is

slice_begins : (i bits words w : ℕ) → i < bits → bits * words ≤ 256 → w ≤ 65536 → (i * words) * w ≤ 16777216
slice_begins i bits words w below few narrow =
    let first : i * words ≤ bits * words = mul-le i words bits words (omega (arith, below)) (omega arith) in
    let second : (i * words) * w ≤ 256 * 65536 = mul-le (i * words) w 256 65536 (omega (arith, first, few)) narrow in
    omega (arith, second)

slice_pin : (b r z : ℤ) (g d k : ℕ) → IsUpTo 134217728 b → IsUpTo 8388608 r → g ≤ 65536 → d ≤ 65536 → k ≤ 16777216 → pos 0 ≤ℤ z → z ≤ℤ pos 65536
    → IsMacroCoordinate (((b +ℤ (r +ℤ pos (g + d))) +ℤ pos k) +ℤ z)
slice_pin b r z g d k bank row gate drive column low high =
    let b0 = bank.above in
    let b1 = bank.below in
    let r0 = row.above in
    let r1 = row.below in
    record { above = omega (arith, ints, b0, r0, low); below = omega (arith, ints, b1, r1, gate, drive, column, high) }

rail_pin : (b x : ℤ) → IsUpTo 134217728 b → pos 0 ≤ℤ x → x ≤ℤ pos 8519680 → IsMacroCoordinate (b +ℤ x)
rail_pin b x bank low high = let b0 = bank.above in let b1 = bank.below in record { above = omega (arith, ints, b0, low); below = omega (arith, ints, b1, high) }

written_all : (nets w : ℕ) (pins : List ChannelPin) → AreAll nets pins → AreAll nets (written_pins w pins)
written_all nets zero pins all = tt
written_all nets (suc w) pins all = all

module _ (kit : Kit) (plan : Organization) (wire : Wire) (f : Floorplan) (room : HasRoom kit plan wire f) where
  numbers : IsNetNumbering (length (main_nets plan)) (main_number plan)
  numbers = numbering (map (net_name plan) (main_nets plan)) (length (main_nets plan)) (main_number plan) (sym (length-map (main_nets plan) (net_name plan))) (λ name. refl)

  at_slice : (b i : ℕ) (role : Role) (port : ℕ) → b < banks_of plan → i < plan.word_size
      → IsMacroCoordinate (bit_begin (layout_kit kit).width plan ((pos b *ℤ f.bank_width) +ℤ columns_begin (layout_kit kit).width plan f.row_x) i +ℤ port_begin (layout_kit kit) 3 role port)
  unfolding IsPort
  at_slice b i role port below few =
      let small = small_kit kit room.is in
      let at = port_in kit room.is role port 3 in
      slice_pin (pos b *ℤ f.bank_width) f.row_x (port_begin (layout_kit kit) 3 role port) (leaf_width kit (row_gate plan.groups)) (leaf_width kit Driver) ((i * words_per_row plan) * leaf_width kit Bitcell)
      (bank_begins (banks_of plan) b f.bank_width room.banks below room.width) room.row (small.widths (row_gate plan.groups)) (small.widths Driver)
      (slice_begins i plan.word_size (words_per_row plan) (leaf_width kit Bitcell) few room.built.columns (small.widths Bitcell)) at.0 at.1

  bit_all : (b i : ℕ) → b < banks_of plan → i < plan.word_size
      → AreAll (length (main_nets plan)) (bit_channel_pins (port_begin (layout_kit kit) 3) (layout_kit kit).width (main_number plan) plan b ((pos b *ℤ f.bank_width) +ℤ columns_begin (layout_kit kit).width plan f.row_x) i)
  bit_all b i below few =
      both_all (IsMainPin (length (main_nets plan))) _ _
      (written_all (length (main_nets plan)) plan.write_size _ (both_all (IsMainPin (length (main_nets plan))) _ _
      (numbered_all (length (main_nets plan)) (main_number plan) (net_name plan (D i)) _ numbers (at_slice b i Write 0 below few))
      (numbered_all (length (main_nets plan)) (main_number plan) (net_name plan (enable_at plan.bank_bits plan.masks b (mask_of plan.masks plan.write_size i))) _ numbers (at_slice b i Write 3 below few))))
      (numbered_all (length (main_nets plan)) (main_number plan) (net_name plan (Dout i)) _ numbers (at_slice b i Sense 2 below few))

  rail_all : (b rail : ℕ) → b < banks_of plan → rail < length (map (net_name plan) (rail_nets plan b))
      → AreAll (length (main_nets plan)) (rail_channel_pin (main_number plan) (map (net_name plan) (rail_nets plan b)) (pos b *ℤ f.bank_width) (pitch wire) rail)
  rail_all b rail below lt =
      let few = few_rails plan b room.built in
      let same = ap length (rails_named plan b room.built) in
      let at = rail_near wire rail room.sizes (omega (arith, lt, few, same)) in
      numbered_all (length (main_nets plan)) (main_number plan) (get_or (map (net_name plan) (rail_nets plan b)) rail []) _ numbers (rail_pin (pos b *ℤ f.bank_width) (rail_x wire rail) (bank_begins (banks_of plan) b f.bank_width room.banks below room.width) at.0 at.1)

  top_all : AreAll (length (main_nets plan)) (main_top plan (layout_kit kit) wire f)
  top_all = lists_each (length (main_nets plan)) (banks_of plan) (bank_pins (port_begin (layout_kit kit) 3) (layout_kit kit).width (main_number plan) plan (pitch wire) f.row_x f.bank_width) (λ b below.
      both_all (IsMainPin (length (main_nets plan))) _ _
      (lists_each (length (main_nets plan)) (length (map (net_name plan) (rail_nets plan b))) (rail_channel_pin (main_number plan) (map (net_name plan) (rail_nets plan b)) (pos b *ℤ f.bank_width) (pitch wire)) (λ rail lt. rail_all b rail below lt))
      (lists_each (length (main_nets plan)) plan.word_size (bit_channel_pins (port_begin (layout_kit kit) 3) (layout_kit kit).width (main_number plan) plan b ((pos b *ℤ f.bank_width) +ℤ columns_begin (layout_kit kit).width plan f.row_x)) (λ i few. bit_all b i below few)))

-- The lower side

row_pin : (from z : ℤ) (n : ℕ) → pos 0 ≤ℤ from → (from +ℤ pos (65536 * suc n)) ≤ℤ pos 268435456 → pos 0 ≤ℤ z → z ≤ℤ pos 65536
    → IsMacroCoordinate (from +ℤ z)
row_pin from z n low high above below = record { above = omega (arith, ints, low, above); below = omega (arith, ints, high, below) }

row_all : (kit : Kit) → IsKit kit → (plan : Organization) (cells : List LogicCell) (from : ℤ) → pos 0 ≤ℤ from
    → (from +ℤ pos (65536 * length cells)) ≤ℤ pos 268435456 → IsNetNumbering (length (main_nets plan)) (main_number plan)
    → AreAll (length (main_nets plan)) (row_pins (port_begin (layout_kit kit) 1) (layout_kit kit).width (main_number plan) (map (logic_cell plan (layout_kit kit).cell) cells) (map (logic_role plan) cells) from)
unfolding IsPort
row_all kit is plan [] from low high numbers = tt
row_all kit is plan (c ∷ cs) from low high numbers =
    let narrow = (small_kit kit is).widths (logic_role plan c) in
    both_all (IsMainPin (length (main_nets plan))) _ _
    (lists_each (length (main_nets plan)) (length (logic_cell plan (layout_kit kit).cell c).nodes - 2) (port_channel_pin (port_begin (layout_kit kit) 1 (logic_role plan c)) (main_number plan) (logic_cell plan (layout_kit kit).cell c).nodes from) (λ port lt.
    let at = port_in kit is (logic_role plan c) port 1 in
    numbered_all (length (main_nets plan)) (main_number plan) (get_or (logic_cell plan (layout_kit kit).cell c).nodes port []) _ numbers (row_pin from (port_begin (layout_kit kit) 1 (logic_role plan c) port) (length cs) low high at.0 at.1)))
    (row_all kit is plan cs (from +ℤ pos (leaf_width kit (logic_role plan c))) (omega (arith, ints, low)) (omega (arith, ints, high, narrow)) numbers)

exits_all : (nets n : ℕ) → n ≤ nets → (ks : List ℕ) → AllByRecursion (λ (k : ℕ). k < n) ks → AreAll nets (map main_exit ks)
exits_all nets n le [] below = tt
exits_all nets n le (k ∷ ks) below = let lt = below.0 in (record { of_net = omega (arith, lt, le); at = record { above = omega (arith, ints); below = omega (arith, ints) } }, exits_all nets n le ks below.1)

-- The channel

sides_there : (kit : Kit) (plan : Organization) (wire : Wire) (f : Floorplan) → HasRoom kit plan wire f
    → AreSides (length (main_nets plan)) (length (port_nets plan)) (main_top plan (layout_kit kit) wire f) (main_bottom plan (layout_kit kit) f) (tabulate (length (port_nets plan)) main_exit)
sides_there kit plan wire f room =
    let nets = length (main_nets plan) in
    let ports = length (port_nets plan) in
    let cells = logic_cells_are_few plan room.built in
    let port = ports_counted plan in
    let all = nets_counted plan in
    let low = room.logic.above in
    let high = room.logic.below in
    record {
      top_pins = All-from_recursion (IsMainPin nets) (main_top plan (layout_kit kit) wire f) (top_all kit plan wire f room);
      bottom_pins = All-from_recursion (IsMainPin nets) (main_bottom plan (layout_kit kit) f) (row_all kit room.is plan (logic_cells plan) f.logic_x low (omega (arith, ints, high, cells)) (numbers kit plan wire f room));
      exit_pins = All-from_recursion (IsMainPin nets) (tabulate ports main_exit) (exits_all nets ports (omega (arith, port, all)) (numbers_from 0 ports) (numbers_all (λ (k : ℕ). k < ports) 0 ports (λ k lt. omega (arith, lt))));
      cells = length (logic_cells plan);
      count = omega (arith, port, all);
      outputs = main_outputs plan room.built (layout_kit kit) f;
      left = has_exit ports (tabulate ports main_exit) refl;
    }

-- floorplans of a macro stand at the same places from left to right
same_main : (plan : Organization) (kit : LayoutKit) (wire : Wire) (first second : Tracks) (f g : Floorplan) → IsFloorplan plan kit wire first f
    → IsFloorplan plan kit wire second g → main_channel plan kit wire f ≡ main_channel plan kit wire g
same_main plan kit wire first second f g a b = λ i. record {
  low = pos (kit.height Inv);
  top = tabulate_lists (banks_of plan) (bank_pins (port_begin kit 3) kit.width (main_number plan) plan (pitch wire) (row i) (width i));
  bottom = row_pins (port_begin kit 1) kit.width (main_number plan) (map (logic_cell plan kit.cell) (logic_cells plan)) (map (logic_role plan) (logic_cells plan)) (logic i);
  exits = tabulate (length (port_nets plan)) main_exit;
  nets = length (main_nets plan);
}
  where
    logic : f.logic_x ≡ g.logic_x
    logic = a.logic_x ∙ sym b.logic_x

    row : f.row_x ≡ g.row_x
    row = a.row_x ∙ sym b.row_x

    width : f.bank_width ≡ g.bank_width
    width = a.bank_width ∙ (ap (λ (x : ℤ). (x +ℤ pos (drive_width plan kit)) +ℤ pos (columns_of plan * bit_width kit)) row ∙ sym b.bank_width)

pub main_answers : ChannelsAreRouted → ClosePinsAreFound → (kit : Kit) (plan : Plan) (wire : Wire) (tracks : Tracks) → IsKit kit
    → ArePlanNumbers (numbers_of plan) → IsWire kit.tech.layers wire → HasPlaces kit (organization plan) wire tracks
    → ((routed : Routed) × IsMainRouted (organization plan) (layout_kit kit) wire routed × (length routed.shapes ≤ 72057594037927936)) ⊎ ((fault : RouteFault) × (fault ≢ route_fault.Memory) × IsMainFault (organization plan) (layout_kit kit) wire fault)
main_answers routes closes kit plan wire tracks is planned layers places =
    let p = organization plan in
    let lk = layout_kit kit in
    let f = floorplan_of places.numbers in
    let near = places.near in
    let count = banks_are (numbers_of plan) planned in
    let few = few_banks (numbers_of plan) planned in
    let room : HasRoom kit p wire f = record { is = is; built = planned.plan; sizes = layers.sizes; banks = omega (arith, count, few); width = near.bank_width; row = near.row_x; logic = near.logic_x } in
    let ch = main_channel p lk wire f in
    let sides = sides_there kit p wire f room in
    let high = (small_kit kit is).heights Inv in
    let low : IsLeafLength ch.low = record { above = omega (arith, ints); below = omega (arith, ints, high) } in
    let of : IsMainOf p lk wire ch = record {
      formula = λ other g stands. same_main p lk wire tracks other f g places.stands stands;
      stated = λ other g stands. subst (IsMainChannel p lk wire g) (sym (same_main p lk wire tracks other f g places.stands stands)) (main_stated p planned.plan lk wire g);
      near = is_near ch (length (port_nets p)) low sides;
      nets = refl;
      exits = exits_are p (length (port_nets p)) ch.exits refl refl;
      low = refl;
    } in
    elim (closes ch wire) [
      | inr close ↦ inr (route_fault.Close close.0 close.1 close.2, λ e. absurd cc, (ch, of, close.3))
      | inl apart ↦
          let r = routes ch wire (is_channel ch (length (port_nets p)) low sides) layers.sizes in
          let most = (channel_nets_are_few p planned.plan).main in
          let least = r.few in
          inl (r.routed, record { channel = ch; is = of; intervals = r.intervals; routed_as = r.is; apart = apart; few = omega (arith, most, least) }, (let short = r.short in omega (arith, most, short)))
    ]
