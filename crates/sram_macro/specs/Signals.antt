-- A macro's signal ports: their names, where their trunks lie, and the macro's labels.
use Rattle.std.specs.Prelude.{◌≡◌, ℕ, ◌+◌, ◌≤◌, ℤ, pos, ◌≤ℤ◌, List, [], ◌∷◌, ◌++◌, map, length, slice_get, slice_index, slice_index_or, Some, nat_le, nat_eq, codes}
use Rattle.gds_library.specs.Writable.{IsText}
use Rattle.tech_rules.specs.declared.tech.Wire.{Wire}
use Rattle.channel_router.specs.Wires.{track_y}
use Rattle.cell_builder.specs.declared.cell.PlacedLabel.{PlacedLabel}
use Rattle.cell_builder.specs.Additions.{label_at}
use Rattle.sram_netlist.specs.Organization.{Organization, inputs_of, addr_bits}
use Rattle.sram_deck.specs.Deck.{web_ports, macro_inputs, port_bits}
use Rattle.sram_netlist.specs.InstanceList.{tabulate}
use Rattle.sram_plan.specs.declared.view.SignalPin.{SignalPin}
use Rattle.sram_macro.specs.declared.extents.Extents.{Extents}

-- clock, select, write, mask bits, address, data in, data out
abbrev pub signal_names : Organization → List (List ℕ)
signal_names plan = macro_inputs plan (port_bits plan.word_size (codes "dout0"))

-- how many of them go in
abbrev pub input_count : Organization → ℕ
input_count plan = 2 + length (web_ports plan.write_size) + plan.masks + addr_bits plan + inputs_of plan

-- a name that can be written, and a height up to 2^30
pub record IsWritablePin (pin : SignalPin) : Type 0 where
  pub name : IsText pin.name
  pub above : pos 0 ≤ℤ pin.y
  pub below : pin.y ≤ℤ pos 1073741824

-- each has a track up to 4096
pub record AreOnTracks (names : List (List ℕ)) (track : List ℕ) : Type 0 where
  pub each : length names ≤ length track
  pub few : (number t : ℕ) → slice_get track number ≡ Some t → t ≤ 4096

-- the port of this number, on its track; the first is the clock, and the outputs follow the inputs
abbrev pub signal_pin : Wire → ℤ → ℕ → List (List ℕ) → List ℕ → ℕ → SignalPin
signal_pin wire low inputs names track number = record {
  name = slice_index_or names number [];
  y = track_y low wire (slice_index_or track number 0);
  output = nat_le inputs number;
  clock = nat_eq number 0;
}

abbrev pub signals_on_tracks : Wire → ℤ → ℕ → List (List ℕ) → List ℕ → List SignalPin
signals_on_tracks wire low inputs names track = tabulate (length names) (signal_pin wire low inputs names track)

-- the name of a signal, at the left end of its trunk on the third metal
abbrev pub signal_label : Wire → SignalPin → PlacedLabel
signal_label wire pin = label_at (slice_index wire.metals 2) (record { x = pos 0; y = pin.y }) pin.name

-- the name of a supply, at the lower end of its trunk on the second metal
abbrev pub supply_label : Wire → ℤ → List ℕ → PlacedLabel
supply_label wire x name = label_at (slice_index wire.metals 1) (record { x = x; y = pos 0 }) name

abbrev pub macro_labels : Wire → Extents → List SignalPin → List PlacedLabel
macro_labels wire ends pins = map (signal_label wire) pins ++ supply_label wire ends.power_x (codes "vdd") ∷ supply_label wire ends.ground_x (codes "gnd") ∷ []
