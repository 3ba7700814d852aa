-- The lines of the word's bits: their pins in write cells, sense cells, multiplexers and ties are joined.
use Rattle.std.proofs.Common.{◌≡◌, inl, inr, ℕ, zero, suc, ◌*◌, ◌/◌, ◌<◌, pos, ◌+ℤ◌, Contains, Some, refl, sym, ap, subst, ◌∙◌, arith}
use Rattle.std.specs.Prelude.{slice_get, slice_index}
use Rattle.std.proofs.lemmas.Int.{ints}
use Rattle.or_geom.specs.declared.shape.Shape.{Shape}
use Rattle.or_geom.specs.declared.place.Place.{Place}
use Rattle.cell_roles.specs.declared.role.Role.TheVariants.{Mux, Tie, Sense, Write}
use Rattle.tech_rules.specs.declared.tech.Tech.{Tech}
use Rattle.tech_rules.specs.Facts.{AreSizes}
use Rattle.tech_rules.specs.Net.{AreOnOneNet}
use Rattle.cell_hierarchy.specs.Plain.{FlatLists}
use Rattle.leaf_shapes.specs.declared.demand.Metal.TheVariants.{M2, M4}
use Rattle.leaf_shapes.specs.declared.fit.Fit.TheVariants.{Top, Bottom, TopAndBottom}
use Rattle.sram_netlist.specs.Organization.{Organization, IsBuildable, power_of_two, columns_of, banks_of, words_per_row, inputs_of}
use Rattle.sram_netlist.specs.Nets.{Net, Lo, Ro}
use Rattle.sram_netlist.specs.Instances.{BitAt, WriteAt, SenseAt, MuxAt, TieAt}
use Rattle.sram_netlist.specs.Netlist.{ports, lo_net, ro_net}
use Rattle.sram_netlist.specs.Membership.{HasLeafInstance}
use Rattle.sram_netlist.proofs.Bounds.{some_written, written_all}
use Rattle.sram_netlist.proofs.InstanceLists.{in_back, to_eachs, place_in}
use Rattle.sram_rows.proofs.PlainNames.{inputs_within, bit_of_column}
use Rattle.macro_layout.specs.Places.{upright, bank_x, column_x}
use Rattle.macro_layout.specs.Floorplan.{IsFloorplan}
use Rattle.macro_layout.specs.Cells.{column_leaf}
use Rattle.macro_layout.specs.Pins.{column_nets, choice_nets, slice_nets}
use Rattle.macro_layout.specs.Channels.{IsColumnChannel}
use Rattle.sram_netlist.specs.InstanceList.{tabulate_lists}
use Rattle.good_nets.proofs.NetLaws.{nets_on, net_back}
use Rattle.joined_nets.specs.Joints.{JoinsWires}
use Rattle.joined_nets.specs.Facing.{FaceUp}
use Rattle.joined_nets.proofs.FacingLaws.{write_joined}
use Rattle.kit_nets.specs.StatedParts.{Source, IsStatedBy}
use Rattle.kit_nets.specs.RolePins.{IsDemand, IsDrawnPin, AreRolePins}
use Rattle.kit_nets.specs.DrawnChannels.{IsDrawnChannel}
use Rattle.leaf_shapes.specs.FirstLayers.{AreFirstLayers}
use Rattle.kit_nets.proofs.DemandLaws.{metal_conducts}
use Rattle.kit_nets.proofs.ArrayNetLaws.{pin_at, pin_listed}
use Rattle.kit_nets.proofs.PinJoinLaws.{facing_joined, pins_joined}
use Rattle.kit_nets.proofs.ArrayHubLaws.{column_drawn}
use Rattle.kit_nets.proofs.ArrayJoinLaws.{bit_place, line_in_column}
use Rattle.kit_nets.proofs.ColumnHubLaws.{column_meets, sense_meets, end_meets, MeetsColumn}

-- the line of a bit on port 0 of its sense cell, and the other on port 1
abbrev pub data_line : ℕ → ℕ → ℕ → ℕ → Net
data_line n zero b i = lo_net n b i
data_line n (suc port) b i = ro_net n b i

sense_demand : (port : ℕ) → port < 2 → IsDemand Sense port M2 TopAndBottom
sense_demand zero lt = record { place = 0; name = _; there = refl; named = refl }
sense_demand (suc zero) lt = record { place = 1; name = _; there = refl; named = refl }
sense_demand (suc (suc port)) lt = absurd (omega (arith, lt))

write_demand : (port : ℕ) → port < 2 → IsDemand Write (suc port) M2 Top
write_demand zero lt = record { place = 1; name = _; there = refl; named = refl }
write_demand (suc zero) lt = record { place = 2; name = _; there = refl; named = refl }
write_demand (suc (suc port)) lt = absurd (omega (arith, lt))

mux_demand : (port : ℕ) → port < 2 → IsDemand Mux (suc (suc port)) M4 Bottom
mux_demand zero lt = record { place = 2; name = _; there = refl; named = refl }
mux_demand (suc zero) lt = record { place = 3; name = _; there = refl; named = refl }
mux_demand (suc (suc port)) lt = absurd (omega (arith, lt))

tie_demand : (port : ℕ) → port < 2 → IsDemand Tie port M4 Bottom
tie_demand zero lt = record { place = 1; name = _; there = refl; named = refl }
tie_demand (suc zero) lt = record { place = 3; name = _; there = refl; named = refl }
tie_demand (suc (suc port)) lt = absurd (omega (arith, lt))

-- it is one of the column channel's nets
pub line_number : (plan : Organization) (port i : ℕ) → port < 2 → i < plan.word_size → (number : ℕ) × (slice_get (column_nets plan) number ≡ Some (data_line plan.col_bits port 0 i))
line_number plan zero i lt below = place_in (lo_net plan.col_bits 0 i) (column_nets plan) (in_back (lo_net plan.col_bits 0 i) (choice_nets plan.col_bits) (tabulate_lists plan.word_size (slice_nets plan)) (to_eachs plan.word_size (slice_nets plan) i (lo_net plan.col_bits 0 i) below (inl refl)))
line_number plan (suc zero) i lt below = place_in (ro_net plan.col_bits 0 i) (column_nets plan) (in_back (ro_net plan.col_bits 0 i) (choice_nets plan.col_bits) (tabulate_lists plan.word_size (slice_nets plan)) (to_eachs plan.word_size (slice_nets plan) i (ro_net plan.col_bits 0 i) below (inr (inl refl))))
line_number plan (suc (suc port)) i lt below = absurd (omega (arith, lt))

pub sense_on : (plan : Organization) (port b i : ℕ) → port < 2 → slice_get (ports plan (SenseAt b i)) port ≡ Some (data_line plan.col_bits port b i)
sense_on plan zero b i lt = refl
sense_on plan (suc zero) b i lt = refl
sense_on plan (suc (suc port)) b i lt = absurd (omega (arith, lt))

pub write_on : (plan : Organization) (port b i : ℕ) → port < 2 → slice_get (ports plan (WriteAt b i)) (suc port) ≡ Some (data_line plan.col_bits port b i)
write_on plan zero b i lt = refl
write_on plan (suc zero) b i lt = refl
write_on plan (suc (suc port)) b i lt = absurd (omega (arith, lt))

mux_on : (plan : Organization) (port b c : ℕ) → port < 2 → slice_get (ports plan (MuxAt b c)) (suc (suc port)) ≡ Some (data_line plan.col_bits port b (c / words_per_row plan))
mux_on plan zero b c lt = refl
mux_on plan (suc zero) b c lt = refl
mux_on plan (suc (suc port)) b c lt = absurd (omega (arith, lt))

tie_on : (plan : Organization) (port b c : ℕ) → port < 2 → slice_get (ports plan (TieAt b c)) port ≡ Some (data_line 0 port b c)
tie_on plan zero b c lt = refl
tie_on plan (suc zero) b c lt = refl
tie_on plan (suc (suc port)) b c lt = absurd (omega (arith, lt))

module _ (s : Source) where
  abbrev pub slice_place : ℕ → ℕ → Place
  slice_place b i = upright (bank_x s.floorplan b (column_x s.plan s.kit s.floorplan (i * words_per_row s.plan))) s.floorplan.sense_y

  abbrev pub write_place : ℕ → ℕ → Place
  write_place b i = upright (bank_x s.floorplan b (column_x s.plan s.kit s.floorplan (i * words_per_row s.plan))) s.floorplan.write_y

  abbrev pub foot_place : ℕ → ℕ → Place
  foot_place b c = upright (bank_x s.floorplan b (column_x s.plan s.kit s.floorplan c)) s.floorplan.column_y

  -- the line's shape in the sense cell
  abbrev pub line_hub : ℕ → ℕ → ℕ → Shape
  line_hub port b i = pin_at s (SenseAt b i) (slice_place b i) port 1

  -- The hubs of the lines of bits.
  abbrev pub data_hub : (Net → Shape) → Net → Shape
  data_hub other (Lo b i) = line_hub 0 b i
  data_hub other (Ro b i) = line_hub 1 b i
  data_hub other net = other net

module _ (s : Source) (pins : AreRolePins s) where
  pub sense_drawn : (port : ℕ) → port < 2 → IsDrawnPin s Sense port M2 TopAndBottom
  sense_drawn port lt = pins.drawn Sense port M2 TopAndBottom (sense_demand port lt)

  pub write_drawn : (port : ℕ) → port < 2 → IsDrawnPin s Write (suc port) M2 Top
  write_drawn port lt = pins.drawn Write (suc port) M2 Top (write_demand port lt)

  pub mux_drawn : (port : ℕ) → port < 2 → IsDrawnPin s Mux (suc (suc port)) M4 Bottom
  mux_drawn port lt = pins.drawn Mux (suc (suc port)) M4 Bottom (mux_demand port lt)

  pub tie_drawn : (port : ℕ) → port < 2 → IsDrawnPin s Tie port M4 Bottom
  tie_drawn port lt = pins.drawn Tie port M4 Bottom (tie_demand port lt)

  write_faces : (port : ℕ) → port < 2 → FaceUp (s.kit.pin Write (suc port) 1) (s.kit.pin Sense port 1) (s.kit.height Write)
  write_faces port lt =
      let left = pins.facing.write port lt in
      let across_a = (write_drawn port lt).fits.1 in
      let across_b = (sense_drawn port lt).fits.2 in
      record { ends = (write_drawn port lt).fits.0; begins = (sense_drawn port lt).fits.1; left = left; right = omega (arith, ints, left, across_a, across_b) }

module _ (tech : Tech) (s : Source) (flat : FlatLists) (by : IsStatedBy tech.connects s flat) (joins : JoinsWires tech.connects s.wire) (sizes : AreSizes s.wire) (first : AreFirstLayers s.layers s.wire) (pins : AreRolePins s) (build : IsBuildable s.plan) (fp : IsFloorplan s.plan s.kit s.wire s.tracks s.floorplan) (c : IsDrawnChannel (IsColumnChannel s.plan s.kit s.wire s.floorplan) s.wire s.tracks.column) where
  sense_listed : (port b i : ℕ) → port < 2 → b < banks_of s.plan → i < s.plan.word_size → Contains flat.shapes (line_hub s port b i)
  sense_listed port b i lt of_bank of_bit = (pin_listed tech.connects s flat by (SenseAt b i) (slice_place s b i) port 1 (data_line s.plan.col_bits port b i) (of_bank, of_bit) refl (sense_on s.plan port b i lt) (sense_drawn s pins port lt).bound).listed

  some_bank : (b : ℕ) → b < banks_of s.plan → 0 < banks_of s.plan
  some_bank b lt = omega (arith, lt)

  meets_below : (port b i number : ℕ) → port < 2 → b < banks_of s.plan → i < s.plan.word_size → slice_get (column_nets s.plan) number ≡ Some (data_line s.plan.col_bits port 0 i) → MeetsColumn tech s flat by joins sizes first fp c b number (line_hub s port b i)
  meets_below port b i number lt of_bank of_bit named = sense_meets tech s flat by joins sizes first fp c b i port number (data_line s.plan.col_bits port 0 i) of_bank (some_bank b of_bank, of_bit) named (sense_on s.plan port 0 i lt) (sense_drawn s pins port lt)

  -- in the write cell
  pub line_in_write : (port b i : ℕ) → port < 2 → b < banks_of s.plan → i < inputs_of s.plan → AreOnOneNet tech.connects flat.shapes (pin_at s (WriteAt b i) (write_place s b i) (suc port) 1) (line_hub s port b i)
  line_in_write port b i lt of_bank of_input =
      let of_bit = inputs_within s.plan i of_input in
      let written = written_all s.plan.write_size (s.kit.height Write) (some_written s.plan.write_size s.plan.word_size i of_input) in
      let line = data_line s.plan.col_bits port b i in
      let write = pin_listed tech.connects s flat by (WriteAt b i) (write_place s b i) (suc port) 1 line (of_bank, of_input) refl (write_on s.plan port b i lt) (write_drawn s pins port lt).bound in
      let sense = pin_listed tech.connects s flat by (SenseAt b i) (slice_place s b i) port 1 line (of_bank, of_bit) refl (sense_on s.plan port b i lt) (sense_drawn s pins port lt).bound in
      facing_joined tech.connects s flat by (slice_index s.wire.metals 1) (pin_at s (WriteAt b i) (write_place s b i) (suc port) 1) (line_hub s port b i) (metal_conducts tech.connects s.wire joins M2) refl refl
      (write_joined s.plan s.kit s.floorplan (suc port) port b i line (pin_at s (WriteAt b i) (write_place s b i) (suc port) 1).rect (line_hub s port b i).rect (write_faces s pins port lt) (fp.sense_y ∙ ap (λ (h : ℕ). s.floorplan.write_y +ℤ pos h) written) write.pin sense.pin) sense.listed

  -- in a multiplexer
  pub line_in_mux : (port b k : ℕ) → port < 2 → HasLeafInstance s.plan (MuxAt b k) → AreOnOneNet tech.connects flat.shapes (pin_at s (MuxAt b k) (foot_place s b k) (suc (suc port)) 3) (line_hub s port b (k / words_per_row s.plan))
  line_in_mux port b k lt has =
      let i = k / words_per_row s.plan in
      let of_bit = bit_of_column s.plan build k has.1.0 in
      let number = line_number s.plan port i lt of_bit in
      let drawn = mux_drawn s pins port lt in
      column_meets tech s flat by joins sizes first fp c b number.0 (pin_at s (MuxAt b k) (foot_place s b k) (suc (suc port)) 3) (line_hub s port b i) has.0 (sense_listed port b i lt has.0 of_bit)
      (end_meets tech s flat by joins sizes first fp c (MuxAt b k) (MuxAt 0 k) b k (suc (suc port)) number.0 (data_line s.plan.col_bits port 0 i) (data_line s.plan.col_bits port b i) has.0 (home s.plan.col_bits has.1.1) has (some_bank b has.0, has.1) refl refl
      number.1 (mux_on s.plan port 0 k lt) (mux_on s.plan port b k lt) refl drawn.bound drawn.bound drawn.fits.0)
      (meets_below port b i number.0 lt has.0 of_bit number.1)
    where
      home : (n : ℕ) → 0 < n → MuxAt 0 k ≡ column_leaf n 0 k
      home zero some = absurd (omega (arith, some))
      home (suc n) some = refl

  -- in a tie
  pub line_in_tie : (port b k : ℕ) → port < 2 → HasLeafInstance s.plan (TieAt b k) → k < s.plan.word_size → AreOnOneNet tech.connects flat.shapes (pin_at s (TieAt b k) (foot_place s b k) port 3) (line_hub s port b k)
  line_in_tie port b k lt has of_bit =
      let number = line_number s.plan port k lt of_bit in
      let drawn = tie_drawn s pins port lt in
      let none = has.1.1 in
      column_meets tech s flat by joins sizes first fp c b number.0 (pin_at s (TieAt b k) (foot_place s b k) port 3) (line_hub s port b k) has.0 (sense_listed port b k lt has.0 of_bit)
      (end_meets tech s flat by joins sizes first fp c (TieAt b k) (TieAt 0 k) b k port number.0 (data_line 0 port 0 k) (data_line 0 port b k) has.0 (ap (λ (n : ℕ). column_leaf n 0 k) (sym none)) has (some_bank b has.0, has.1) refl refl
      (subst (λ (n : ℕ). slice_get (column_nets s.plan) number.0 ≡ Some (data_line n port 0 k)) none number.1) (tie_on s.plan port 0 k lt) (tie_on s.plan port b k lt) refl drawn.bound drawn.bound drawn.fits.0)
      (meets_below port b k number.0 lt has.0 of_bit number.1)

  -- where a row has one word: the line is the column's bit line
  pub line_is_bit_line : (port b k : ℕ) → port < 2 → s.plan.col_bits ≡ 0 → b < banks_of s.plan → k < s.plan.word_size → AreOnOneNet tech.connects flat.shapes (line_hub s port b k) (pin_at s (BitAt b 0 k) (bit_place s b 0 k) port 1)
  line_is_bit_line port b k lt none of_bank of_bit =
      let whole : columns_of s.plan ≡ s.plan.word_size * 1 = ap (λ (n : ℕ). s.plan.word_size * power_of_two n) none in
      let of_column : k < columns_of s.plan = omega (arith, of_bit, whole) in
      let has : HasLeafInstance s.plan (TieAt b k) = (of_bank, (of_column, none)) in
      let low = tie_drawn s pins port lt in
      let high = column_drawn s pins 0 port lt in
      let tie_low = pin_listed tech.connects s flat by (TieAt b k) (foot_place s b k) port 3 (data_line 0 port b k) has refl (tie_on s.plan port b k lt) low.bound in
      nets_on tech.connects flat.shapes (line_hub s port b k) (pin_at s (TieAt b k) (foot_place s b k) port 3) (pin_at s (BitAt b 0 k) (bit_place s b 0 k) port 1)
      (net_back tech.connects flat.shapes (pin_at s (TieAt b k) (foot_place s b k) port 3) (line_hub s port b k) tie_low.listed (line_in_tie port b k lt has of_bit))
      (nets_on tech.connects flat.shapes (pin_at s (TieAt b k) (foot_place s b k) port 3) (pin_at s (TieAt b k) (foot_place s b k) port 1) (pin_at s (BitAt b 0 k) (bit_place s b 0 k) port 1)
      (pins_joined tech.connects s flat by (TieAt b k) has (foot_place s b k) refl port 3 1 low.bound high.bound)
      (line_in_column tech.connects s flat by joins pins build fp 0 port b k lt (sym none) of_bank of_column))
