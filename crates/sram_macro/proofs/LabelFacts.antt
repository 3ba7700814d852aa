-- Labels and the view.
use Rattle.std.proofs.Common.{ℕ, zero, suc, ◌<◌, ◌≤◌, ℤ, pos, ◌+ℤ◌, ◌≤ℤ◌, List, [], ◌∷◌, ◌++◌, map, length, refl, ◌∙◌, arith}
use Rattle.std.specs.Prelude.{FitsSigned, All, codes, slice_index, slice_index_or}
use Rattle.std.specs.List.{AllByRecursion}
use Rattle.std.specs.Int.{w32}
use Rattle.std.proofs.lemmas.Int.{ints}
use Rattle.std.proofs.lemmas.List.{length-map}
use Rattle.std.proofs.lemmas.List.Elements.{All-from_recursion, recursion_from_All}
use Rattle.std.proofs.lemmas.Option.{slice_get-get_or}
use Rattle.gds_library.specs.Writable.{IsText}
use Rattle.tech_rules.specs.declared.tech.Layer.{Layer}
use Rattle.tech_rules.specs.declared.tech.Wire.{Wire}
use Rattle.wire_drawing.specs.Drawing.{pitch}
use Rattle.tech_rules.specs.Facts.{IsLayerIndex, IsWire}
use Rattle.channel_router.specs.Wires.{channel_height}
use Rattle.cell_builder.specs.declared.cell.PlacedLabel.{PlacedLabel}
use Rattle.cell_builder.specs.Writable.{IsWritableText}
use Rattle.sram_netlist.specs.Organization.{Organization, addr_bits, inputs_of, IsBuildable}
use Rattle.sram_netlist.specs.Names.{with_index}
use Rattle.sram_netlist.proofs.Bounds.{bounds}
use Rattle.sram_deck.specs.Deck.{port_bits, web_ports}
use Rattle.sram_plan.specs.declared.view.SignalPin.{SignalPin}
use Rattle.sram_plan.specs.View.{IsLength, IsView}
use Rattle.floorplan.specs.FloorplanNumbers.{IsUpTo}
use Rattle.macro_bounds.proofs.TextLaws.{all_joined, IsLabel, label_text, index_text}
use Rattle.macro_bounds.proofs.CellLaws.{all_tabulated, few_number}
use Rattle.macro_bounds.proofs.CountLaws.{address_few, inputs_few}
use Rattle.macro_bounds.proofs.FloorplanLaws.{height_up, pitch_up}
use Rattle.sram_macro.specs.declared.extents.Extents.{Extents}
use Rattle.sram_macro.specs.Extents.{AreNearExtents}
use Rattle.sram_macro.specs.Signals.{IsWritablePin, signal_names, AreOnTracks, signal_pin, signals_on_tracks, signal_label, supply_label, macro_labels}
use Rattle.sram_macro.specs.View.{macro_view}

-- names

bits_text : (n : ℕ) (letters : List ℕ) → IsLabel letters → n ≤ 256 → AllByRecursion IsText (port_bits n letters)
bits_text n letters is few = all_tabulated IsText n (with_index letters) (λ i lt. index_text letters i is (few_number i 256 (omega (arith, few, lt)) (omega arith)))

web_text : (write_size : ℕ) → AllByRecursion IsText (web_ports write_size)
web_text zero = tt
web_text (suc write_size) = (label_text (codes "web0") refl, tt)

names_text : (plan : Organization) → IsBuildable plan → AllByRecursion IsText (signal_names plan)
names_text plan p =
    let words = (bounds plan p).words in
    let address = address_few plan p in
    let masks = bits_text plan.masks (codes "wmask0") refl (bounds plan p).masks in
    let addresses = bits_text (addr_bits plan) (codes "addr0") refl (omega (arith, address)) in
    let ins = bits_text (inputs_of plan) (codes "din0") refl (inputs_few plan p) in
    let outs = bits_text plan.word_size (codes "dout0") refl words in
    let words_text = all_joined IsText (port_bits (inputs_of plan) (codes "din0")) (port_bits plan.word_size (codes "dout0")) ins outs in
    let later = all_joined IsText (port_bits (addr_bits plan) (codes "addr0")) (port_bits (inputs_of plan) (codes "din0") ++ port_bits plan.word_size (codes "dout0")) addresses words_text in
    let ports = all_joined IsText (port_bits plan.masks (codes "wmask0")) (port_bits (addr_bits plan) (codes "addr0") ++ (port_bits (inputs_of plan) (codes "din0") ++ port_bits plan.word_size (codes "dout0"))) masks later in
    (label_text (codes "clk0") refl, (label_text (codes "csb0") refl, all_joined IsText (web_ports plan.write_size) _ (web_text plan.write_size) ports))

-- heights

on_track : (low : ℕ) (h : ℤ) → low ≤ 65536 → pos 0 ≤ℤ h → h ≤ℤ pos 536936448 → (pos 0 ≤ℤ (pos low +ℤ h)) × ((pos low +ℤ h) ≤ℤ pos 1073741824)
on_track low h near from to = (omega (arith, ints, from), omega (arith, ints, near, to))

-- Each signal's name can be written, and it is at a height from 0 to 2^30.
pub signals_are_writable : (layers : List Layer) (plan : Organization) (wire : Wire) (low inputs : ℕ) (track : List ℕ) → IsBuildable plan → IsWire layers wire → low ≤ 65536 → AreOnTracks (signal_names plan) track → AllByRecursion IsWritablePin (signals_on_tracks wire (pos low) inputs (signal_names plan) track)
signals_are_writable layers plan wire low inputs track p is near on = all_tabulated IsWritablePin (length (signal_names plan)) (signal_pin wire (pos low) inputs (signal_names plan) track) each
  where
    each : (number : ℕ) → number < length (signal_names plan) → IsWritablePin (signal_pin wire (pos low) inputs (signal_names plan) track number)
    each number lt =
        let long = on.each in
        let few = on.few number (slice_index_or track number 0) (slice_get-get_or track number 0 (omega (arith, lt, long))) in
        let h = height_up wire (slice_index_or track number 0) 4096 is.sizes few in
        let y = on_track low (channel_height wire (slice_index_or track number 0)) near h.0 h.1 in
        record { name = All-from_recursion IsText (signal_names plan) (names_text plan p) number [] lt; above = y.0; below = y.1 }

-- Layers that are there are there one by one.
pub layers_listed : (layers : List Layer) (xs : List ℕ) → All (IsLayerIndex layers) xs → AllByRecursion (λ (index : ℕ). index < length layers) xs
layers_listed layers xs all = recursion_from_All (IsLayerIndex layers) xs all

-- labels

short_zero : FitsSigned w32 (pos 0)
short_zero = omega (arith, ints)

short : (z : ℤ) → pos 0 ≤ℤ z → z ≤ℤ pos 1073741824 → FitsSigned w32 z
short z above below = omega (arith, ints, above, below)

signal_texts : (wire : Wire) (pins : List SignalPin) → AllByRecursion IsWritablePin pins → AllByRecursion IsWritableText (map (signal_label wire) pins)
signal_texts wire [] all = tt
signal_texts wire (pin ∷ pins) all = (record { text = all.0.name; at = record { x = short_zero; y = short pin.y all.0.above all.0.below } }, signal_texts wire pins all.1)

supply_text : (wire : Wire) (x : ℤ) (name : List ℕ) → IsText name → IsUpTo 1073741824 x → IsWritableText (supply_label wire x name)
supply_text wire x name is near = record { text = is; at = record { x = short x near.above near.below; y = short_zero } }

-- A macro's labels can be written.
pub labels_are_writable : (wire : Wire) (ends : Extents) (pins : List SignalPin) → AreNearExtents ends → AllByRecursion IsWritablePin pins → AllByRecursion IsWritableText (macro_labels wire ends pins)
labels_are_writable wire ends pins near all = all_joined IsWritableText (map (signal_label wire) pins) (supply_label wire ends.power_x (codes "vdd") ∷ supply_label wire ends.ground_x (codes "gnd") ∷ []) (signal_texts wire pins all)
    (supply_text wire ends.power_x (codes "vdd") (label_text (codes "vdd") refl) near.power_x, (supply_text wire ends.ground_x (codes "gnd") (label_text (codes "gnd") refl) near.ground_x, tt))

metal_there : (layers : List Layer) (wire : Wire) (k : ℕ) → IsWire layers wire → k < 4 → slice_index wire.metals k < length layers
metal_there layers wire k is lt = let four = is.four in is.metals k 0 (omega (arith, four, lt))

signals_on_layers : (layers : List Layer) (wire : Wire) (pins : List SignalPin) → IsWire layers wire → AllByRecursion (λ (l : PlacedLabel). l.layer < length layers) (map (signal_label wire) pins)
signals_on_layers layers wire [] is = tt
signals_on_layers layers wire (pin ∷ pins) is = (metal_there layers wire 2 is (omega arith), signals_on_layers layers wire pins is)

-- They are on layers that are there.
pub labels_have_layers : (layers : List Layer) (wire : Wire) (ends : Extents) (pins : List SignalPin) → IsWire layers wire → AllByRecursion (λ (l : PlacedLabel). l.layer < length layers) (macro_labels wire ends pins)
labels_have_layers layers wire ends pins is = all_joined (λ (l : PlacedLabel). l.layer < length layers) (map (signal_label wire) pins) (supply_label wire ends.power_x (codes "vdd") ∷ supply_label wire ends.ground_x (codes "gnd") ∷ []) (signals_on_layers layers wire pins is)
    (metal_there layers wire 1 is (omega arith), (metal_there layers wire 1 is (omega arith), tt))

-- the view

length_up : (most : ℕ) (z : ℤ) → most ≤ 1099511627776 → IsUpTo most z → IsLength z
length_up most z le up = let above = up.above in let below = up.below in record { low = above; high = omega (arith, ints, le, above, below) }

size_up : (z : ℤ) → pos 1 ≤ℤ z → z ≤ℤ pos 65536 → IsLength z
size_up z from to = record { low = omega (arith, ints, from); high = omega (arith, ints, to) }

pitch_length : (z : ℤ) → pos 0 ≤ℤ z → z ≤ℤ pos 131072 → IsLength z
pitch_length z from to = record { low = from; high = omega (arith, ints, to) }

pin_lengths : (pins : List SignalPin) → AllByRecursion IsWritablePin pins → AllByRecursion (λ (pin : SignalPin). IsLength pin.y) pins
pin_lengths [] all = tt
pin_lengths (pin ∷ pins) all = (length_up 1073741824 pin.y (omega arith) (record { above = all.0.above; below = all.0.below }), pin_lengths pins all.1)

-- The view of a macro can be written.
pub view_is : (layers : List Layer) (name : List ℕ) (wire : Wire) (ends : Extents) (pins : List SignalPin) → IsWire layers wire → AreNearExtents ends → wire.space ≤ℤ ends.power_x → AllByRecursion IsWritablePin pins → IsView (macro_view layers name wire ends pins)
view_is layers name wire ends pins is near before all =
    let sizes = is.sizes in
    let p = pitch_up wire sizes in
    record {
      metals = length-map wire.metals (λ (index : ℕ). slice_index_or (map (λ (l : Layer). l.name) layers) index []) ∙ is.four;
      width = length_up 1073741824 ends.width (omega arith) near.width;
      height = length_up 1073807360 ends.height (omega arith) near.height;
      pitch = pitch_length (pitch wire) p.0 p.1;
      supply_x = length_up 1073741824 ends.power_x (omega arith) near.power_x;
      space = size_up wire.space sizes.space.from sizes.space.to;
      wire = size_up wire.width sizes.width.from sizes.width.to;
      before_supplies = before;
      signals = All-from_recursion (λ (pin : SignalPin). IsLength pin.y) pins (pin_lengths pins all);
    }
