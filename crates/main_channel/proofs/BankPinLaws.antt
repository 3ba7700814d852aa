-- The pins of the banks are those that the layout states.
use Rattle.std.proofs.Common.{◌≡◌, inl, inr, ℕ, zero, suc, ◌+◌, ◌*◌, ◌<◌, ℤ, pos, ◌+ℤ◌, ◌*ℤ◌, List, [], ◌++◌, map, length, get_or, Option, Some, refl, ap, sym, subst, ◌∙◌, arith}
use Rattle.std.specs.Prelude.{slice_get, option_map, ◌↔◌}
use Rattle.std.proofs.lemmas.Int.{ints}
use Rattle.std.proofs.lemmas.Option.{same_Some, slice_get-map, slice_get-get_or, slice_get_within, get_or_from_slice_get}
use Rattle.cell_roles.specs.declared.role.Role.{Role}
use Rattle.cell_roles.specs.declared.role.Role.TheVariants.{Bitcell, Sense, Write}
use Rattle.tech_rules.specs.declared.tech.Wire.{Wire}
use Rattle.wire_drawing.specs.Drawing.{pitch}
use Rattle.channel_router.specs.declared.channel.ChannelPin.{ChannelPin}
use Rattle.channel_router.specs.Channel.{IsPinOf}
use Rattle.sram_netlist.specs.Organization.{Organization, IsBuildable, written_bits, inputs_of, words_per_row, banks_of}
use Rattle.sram_netlist.specs.Nets.{Net, Dout, D}
use Rattle.sram_netlist.specs.Instances.{WriteAt, SenseAt}
use Rattle.sram_netlist.specs.Netlist.{ports, enable_at, enable_count, enables_of, mask_of}
use Rattle.sram_netlist.specs.Names.{net_name}
use Rattle.sram_netlist.specs.InstanceList.{tabulate_lists}
use Rattle.sram_netlist.proofs.Bounds.{some_written}
use Rattle.sram_rows.proofs.PlainNames.{inputs_within, enables_within, written_mask_few}
use Rattle.macro_layout.specs.LayoutKit.{LayoutKit}
use Rattle.macro_layout.specs.Places.{Floorplan, bank_x, column_x}
use Rattle.macro_layout.specs.Floorplan.{rail_x}
use Rattle.macro_layout.specs.Pins.{IsRailOf, rail_nets, main_nets}
use Rattle.macro_layout.specs.Channels.{IsPinFrom, Numbered, MeetsMainTop, MeetsMainTopOfBanks}
use Rattle.floorplan.proofs.UprightLaws.{begins_at, begins_only}
use Rattle.main_channel.specs.Pins.{numbered_net}
use Rattle.main_channel.specs.Banks.{rail_channel_pin, bank_rail_pins, written_pins, bit_begin, bit_channel_pins, slice_pins, columns_begin, bank_pins}
use Rattle.main_channel.specs.Formula.{port_begin}
use Rattle.main_channel.proofs.ListLaws.{comes_from, all_at}
use Rattle.main_channel.proofs.NameLaws.{IsChannelNet}
use Rattle.main_channel.proofs.LookLaws.{IsNumbering}
use Rattle.channel_router.proofs.PinListLaws.{pin_none, pin_in_both, pin_left, pin_right}
use Rattle.main_channel.proofs.PinLaws.{named_is, named_there, in_one, of_one}
use Rattle.main_channel.proofs.RailLaws.{rails_told}

swapped : (a b : ℤ) → a +ℤ b ≡ b +ℤ a
swapped a b = omega (arith, ints)

-- a bank, its columns and a bit, from the left or from the inside
ordered : (bank columns bit pin : ℤ) → ((bank +ℤ columns) +ℤ bit) +ℤ pin ≡ pin +ℤ ((columns +ℤ bit) +ℤ bank)
ordered bank columns bit pin = omega (arith, ints)

enable_told : (plan : Organization) (n masks b m : ℕ) → plan.bank_bits ≡ n → plan.masks ≡ masks → b < banks_of plan → m < enables_of plan → IsChannelNet plan (enable_at n masks b m)
enable_told plan zero zero b m e f lt few = inl (tt, some_written plan.write_size (enable_count plan.masks) m few)
enable_told plan zero (suc k) b m e f lt few = inl ((lt, enables_within plan m few), (inr (omega (arith, f)), few))
enable_told plan (suc n) k b m e f lt few = inl ((lt, enables_within plan m few), (inl (omega (arith, e)), few))

-- the pins of a write cell
kept_pins : (w n i : ℕ) (pins : List ChannelPin) → i < written_bits w n → written_pins w pins ≡ pins
kept_pins zero n i pins lt = absurd (omega arith)
kept_pins (suc w) n i pins lt = refl

is_input : (w n i : ℕ) (pins : List ChannelPin) (number : ℕ) (x : ℤ) → i < n → IsPinOf (written_pins w pins) number x → (i < written_bits w n) × IsPinOf pins number x
is_input zero n i pins number x lt is = absurd (pin_none number x is)
is_input (suc w) n i pins number x lt is = (lt, is)

module _ (plan : Organization) (p : IsBuildable plan) (kit : LayoutKit) (wire : Wire) (floorplan : Floorplan) (look : List ℕ → Option ℕ) (numbering : IsNumbering plan look) where
  abbrev IsStated : ℕ → ℤ → Type 0
  IsStated number x = Numbered (main_nets plan) (MeetsMainTopOfBanks plan kit wire floorplan) number x

  abbrev bank_at : ℕ → ℤ
  bank_at b = pos b *ℤ floorplan.bank_width

  abbrev columns_at : ℕ → ℤ
  columns_at b = bank_at b +ℤ columns_begin kit.width plan floorplan.row_x

  abbrev bit_at : ℕ → ℕ → ℤ
  bit_at b i = bit_begin kit.width plan (columns_at b) i

  abbrev slice_at : ℕ → ℕ → ℤ
  slice_at b i = bank_x floorplan b (column_x plan kit floorplan (i * words_per_row plan))

  abbrev names_of : ℕ → List (List ℕ)
  names_of b = map (net_name plan) (rail_nets plan b)

  abbrev rails_of : ℕ → List ChannelPin
  rails_of b = bank_rail_pins look (names_of b) (bank_at b) (pitch wire)

  abbrev bit_of : ℕ → ℕ → List ChannelPin
  bit_of b i = bit_channel_pins (port_begin kit 3) kit.width look plan b (columns_at b) i

  abbrev slices_of : ℕ → List ChannelPin
  slices_of b = slice_pins (port_begin kit 3) kit.width look plan b (columns_at b)

  abbrev bank_of : ℕ → List ChannelPin
  bank_of b = bank_pins (port_begin kit 3) kit.width look plan (pitch wire) floorplan.row_x floorplan.bank_width b

  -- where a pin of a slice begins
  begin_is : (b i port : ℕ) (r : Role) → bit_at b i +ℤ (kit.pin r port 3).x1 ≡ (kit.pin r port 3).x1 +ℤ slice_at b i
  begin_is b i port r = ordered (bank_at b) (columns_begin kit.width plan floorplan.row_x) (pos ((i * words_per_row plan) * kit.width Bitcell)) (kit.pin r port 3).x1

  -- a rail
  rail_meets : (b : ℕ) (number : ℕ) (x : ℤ) → b < banks_of plan → IsPinOf (rails_of b) number x → IsStated number x
  rail_meets b number x lt is =
      let r = in_one (length (names_of b)) (rail_channel_pin look (names_of b) (bank_at b) (pitch wire)) number x is in
      let name = get_or (names_of b) r.at [] in
      let named = named_is look name (bank_at b +ℤ (pos (r.at + 1) *ℤ pitch wire)) number x r.is in
      let from = comes_from (net_name plan) (rail_nets plan b) r.at name (slice_get-get_or (names_of b) r.at [] r.below) in
      let told = all_at (IsChannelNet plan) (rail_nets plan b) r.at from.item (rails_told plan b lt) from.at in
      let numbered = numbering.found from.item number told (ap look (sym from.is) ∙ named.number) in
      (from.item, numbered, (b, lt, inl (record { rail = r.at; on = from.at; at = named.here ∙ swapped (bank_at b) (rail_x wire r.at) })))

  rail_there : (b : ℕ) (y : Net) (number : ℕ) (x : ℤ) → slice_get (main_nets plan) number ≡ Some y → IsRailOf plan wire floorplan b y x → IsPinOf (rails_of b) number x
  rail_there b y number x numbered r =
      let listed : slice_get (names_of b) r.rail ≡ Some (net_name plan y) = slice_get-map (net_name plan) (rail_nets plan b) r.rail ∙ ap (option_map (net_name plan)) r.on in
      let named = get_or_from_slice_get (names_of b) r.rail (net_name plan y) [] listed in
      of_one (length (names_of b)) (rail_channel_pin look (names_of b) (bank_at b) (pitch wire)) number x r.rail (slice_get_within (names_of b) r.rail (net_name plan y) listed)
      (named_there look (get_or (names_of b) r.rail []) (bank_at b +ℤ (pos (r.rail + 1) *ℤ pitch wire)) number x (ap look named ∙ numbering.there y number numbered) (r.at ∙ swapped (rail_x wire r.rail) (bank_at b)))

  -- the pins of a bit
  write_pin : (b i port : ℕ) (y : Net) (x : ℤ) → b < banks_of plan → i < inputs_of plan → slice_get (ports plan (WriteAt b i)) port ≡ Some y → x ≡ (kit.pin Write port 3).x1 +ℤ slice_at b i → IsPinFrom plan kit floorplan (WriteAt b i) port 3 y x
  write_pin b i port y x lt below on at = begins_at plan kit floorplan (WriteAt b i) port 3 y (slice_at b i) floorplan.write_y x (lt, below) on refl at

  sense_pin : (b i port : ℕ) (y : Net) (x : ℤ) → b < banks_of plan → i < plan.word_size → slice_get (ports plan (SenseAt b i)) port ≡ Some y → x ≡ (kit.pin Sense port 3).x1 +ℤ slice_at b i → IsPinFrom plan kit floorplan (SenseAt b i) port 3 y x
  sense_pin b i port y x lt below on at = begins_at plan kit floorplan (SenseAt b i) port 3 y (slice_at b i) floorplan.sense_y x (lt, below) on refl at

  abbrev enable_net : ℕ → ℕ → Net
  enable_net b i = enable_at plan.bank_bits plan.masks b (mask_of plan.masks plan.write_size i)

  -- din, en and dout, each as it stands in the list
  abbrev data_of : ℕ → ℕ → List ChannelPin
  data_of b i = numbered_net look (net_name plan (D i)) (bit_at b i +ℤ port_begin kit 3 Write 0)

  abbrev enable_of : ℕ → ℕ → List ChannelPin
  enable_of b i = numbered_net look (net_name plan (enable_net b i)) (bit_at b i +ℤ port_begin kit 3 Write 3)

  abbrev write_of : ℕ → ℕ → List ChannelPin
  write_of b i = data_of b i ++ enable_of b i

  abbrev written_of : ℕ → ℕ → List ChannelPin
  written_of b i = written_pins plan.write_size (write_of b i)

  abbrev output_of_bit : ℕ → ℕ → List ChannelPin
  output_of_bit b i = numbered_net look (net_name plan (Dout i)) (bit_at b i +ℤ port_begin kit 3 Sense 2)

  data_meets : (b i : ℕ) (number : ℕ) (x : ℤ) → b < banks_of plan → i < inputs_of plan → IsPinOf (data_of b i) number x → IsStated number x
  data_meets b i number x lt below there =
      let bit = named_is look (net_name plan (D i)) (bit_at b i +ℤ port_begin kit 3 Write 0) number x there in
      (D i, numbering.found (D i) number (inl (inputs_within plan i below, below)) bit.number, (b, lt, inr (inl (i, write_pin b i 0 (D i) x lt below refl (bit.here ∙ begin_is b i 0 Write)))))

  enable_meets : (b i : ℕ) (number : ℕ) (x : ℤ) → b < banks_of plan → i < inputs_of plan → IsPinOf (enable_of b i) number x → IsStated number x
  enable_meets b i number x lt below there =
      let net = enable_net b i in
      let enable = named_is look (net_name plan net) (bit_at b i +ℤ port_begin kit 3 Write 3) number x there in
      let told = enable_told plan plan.bank_bits plan.masks b (mask_of plan.masks plan.write_size i) refl refl lt (written_mask_few plan p i below) in
      (net, numbering.found net number told enable.number, (b, lt, inr (inr (inl (i, write_pin b i 3 net x lt below refl (enable.here ∙ begin_is b i 3 Write))))))

  output_meets : (b i : ℕ) (number : ℕ) (x : ℤ) → b < banks_of plan → i < plan.word_size → IsPinOf (output_of_bit b i) number x → IsStated number x
  output_meets b i number x lt below there =
      let output = named_is look (net_name plan (Dout i)) (bit_at b i +ℤ port_begin kit 3 Sense 2) number x there in
      (Dout i, numbering.found (Dout i) number (inr (i, below, refl)) output.number, (b, lt, inr (inr (inr (i, sense_pin b i 2 (Dout i) x lt below refl (output.here ∙ begin_is b i 2 Sense))))))

  bit_meets : (b i : ℕ) (number : ℕ) (x : ℤ) → b < banks_of plan → i < plan.word_size → IsPinOf (bit_of b i) number x → IsStated number x
  bit_meets b i number x lt below is = elim (pin_in_both (written_of b i) (output_of_bit b i) number x is) [
    | inl there ↦
        let write = is_input plan.write_size plan.word_size i (write_of b i) number x below there in
        elim (pin_in_both (data_of b i) (enable_of b i) number x write.1) [ inl din ↦ data_meets b i number x lt write.0 din | inr enable ↦ enable_meets b i number x lt write.0 enable ]
    | inr output ↦ output_meets b i number x lt below output
  ]

  bank_meets : (number : ℕ) (x : ℤ) → IsPinOf (tabulate_lists (banks_of plan) bank_of) number x → IsStated number x
  bank_meets number x is =
      let r = in_one (banks_of plan) bank_of number x is in
      elim (pin_in_both (rails_of r.at) (slices_of r.at) number x r.is) [
        | inl rail ↦ rail_meets r.at number x r.below rail
        | inr slice ↦
            let s = in_one plan.word_size (bit_of r.at) number x slice in
            bit_meets r.at s.at number x r.below s.below s.is
      ]

  -- what is stated is there
  named_as : (y z : Net) (number : ℕ) → slice_get (main_nets plan) number ≡ Some y → Some z ≡ Some y → look (net_name plan z) ≡ Some number
  named_as y z number numbered on = ap (λ (n : Net). look (net_name plan n)) (same_Some z y on) ∙ numbering.there y number numbered

  write_there : (b i number : ℕ) (x : ℤ) → i < inputs_of plan → IsPinOf (write_of b i) number x → IsPinOf (bit_of b i) number x
  write_there b i number x below there =
      pin_left (written_of b i) (output_of_bit b i) number x (subst (λ (l : List ChannelPin). IsPinOf l number x) (sym (kept_pins plan.write_size plan.word_size i (write_of b i) below)) there)

  data_there : (b i : ℕ) (y : Net) (number : ℕ) (x : ℤ) → slice_get (main_nets plan) number ≡ Some y → IsPinFrom plan kit floorplan (WriteAt b i) 0 3 y x → IsPinOf (bit_of b i) number x
  data_there b i y number x numbered from =
      let at = begins_only plan kit floorplan (WriteAt b i) 0 3 y (slice_at b i) floorplan.write_y x from from.is.stands in
      let there = named_there look (net_name plan (D i)) (bit_at b i +ℤ port_begin kit 3 Write 0) number x (named_as y (D i) number numbered from.is.on) (at ∙ sym (begin_is b i 0 Write)) in
      write_there b i number x from.is.has.1 (pin_left (data_of b i) (enable_of b i) number x there)

  enable_there : (b i : ℕ) (y : Net) (number : ℕ) (x : ℤ) → slice_get (main_nets plan) number ≡ Some y → IsPinFrom plan kit floorplan (WriteAt b i) 3 3 y x → IsPinOf (bit_of b i) number x
  enable_there b i y number x numbered from =
      let at = begins_only plan kit floorplan (WriteAt b i) 3 3 y (slice_at b i) floorplan.write_y x from from.is.stands in
      let there = named_there look (net_name plan (enable_net b i)) (bit_at b i +ℤ port_begin kit 3 Write 3) number x (named_as y (enable_net b i) number numbered from.is.on) (at ∙ sym (begin_is b i 3 Write)) in
      write_there b i number x from.is.has.1 (pin_right (data_of b i) (enable_of b i) number x there)

  output_there : (b i : ℕ) (y : Net) (number : ℕ) (x : ℤ) → slice_get (main_nets plan) number ≡ Some y → IsPinFrom plan kit floorplan (SenseAt b i) 2 3 y x → IsPinOf (bit_of b i) number x
  output_there b i y number x numbered from =
      let at = begins_only plan kit floorplan (SenseAt b i) 2 3 y (slice_at b i) floorplan.sense_y x from from.is.stands in
      let there = named_there look (net_name plan (Dout i)) (bit_at b i +ℤ port_begin kit 3 Sense 2) number x (named_as y (Dout i) number numbered from.is.on) (at ∙ sym (begin_is b i 2 Sense)) in
      pin_right (written_of b i) (output_of_bit b i) number x there

  of_bank : (b number : ℕ) (x : ℤ) → b < banks_of plan → IsPinOf (bank_of b) number x → IsPinOf (tabulate_lists (banks_of plan) bank_of) number x
  of_bank b number x lt is = of_one (banks_of plan) bank_of number x b lt is

  of_bit : (b i : ℕ) (number : ℕ) (x : ℤ) → b < banks_of plan → i < plan.word_size → IsPinOf (bit_of b i) number x → IsPinOf (tabulate_lists (banks_of plan) bank_of) number x
  of_bit b i number x lt below is = of_bank b number x lt (pin_right (rails_of b) (slices_of b) number x (of_one plan.word_size (bit_of b) number x i below is))

  meets_bank : (number : ℕ) (x : ℤ) → IsStated number x → IsPinOf (tabulate_lists (banks_of plan) bank_of) number x
  meets_bank number x (y, numbered, (b, lt, meets)) = by meets where
    by : MeetsMainTop plan kit wire floorplan b y x → IsPinOf (tabulate_lists (banks_of plan) bank_of) number x
    by (inl rail) = of_bank b number x lt (pin_left (rails_of b) (slices_of b) number x (rail_there b y number x numbered rail))
    by (inr (inl (i, from))) = of_bit b i number x lt (inputs_within plan i from.is.has.1) (data_there b i y number x numbered from)
    by (inr (inr (inl (i, from)))) = of_bit b i number x lt (inputs_within plan i from.is.has.1) (enable_there b i y number x numbered from)
    by (inr (inr (inr (i, from)))) = of_bit b i number x lt from.is.has.1 (output_there b i y number x numbered from)

  pub bank_pins_are : (number : ℕ) (x : ℤ) → IsPinOf (tabulate_lists (banks_of plan) bank_of) number x ↔ IsStated number x
  bank_pins_are number x = (bank_meets number x, meets_bank number x)
