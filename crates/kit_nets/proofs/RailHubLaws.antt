-- Data outputs and pins with taps are joined with the main channel's wires, by output wires, taps and rails.
use Rattle.std.proofs.Common.{◌≡◌, inl, inr, ℕ, ◌*◌, ◌<◌, ℤ, pos, ◌≤ℤ◌, ◌+ℤ◌, ◌*ℤ◌, Contains, Some, refl, sym, ap, subst, ◌∙◌, arith}
use Rattle.std.specs.Prelude.{slice_get, slice_index}
use Rattle.std.proofs.lemmas.Int.{ints}
use Rattle.or_geom.specs.declared.shape.Shape.{Shape}
use Rattle.or_geom.specs.declared.place.Place.{Place}
use Rattle.cell_roles.specs.declared.role.Role.TheVariants.{Sense, Write}
use Rattle.tech_rules.specs.declared.tech.Tech.{Tech}
use Rattle.wire_drawing.specs.Drawing.{IsBox, IsVia}
use Rattle.tech_rules.specs.WireRules.{margin}
use Rattle.tech_rules.specs.Facts.{AreSizes}
use Rattle.tech_rules.specs.Net.{AreOnOneNet}
use Rattle.cell_hierarchy.specs.Plain.{FlatLists}
use Rattle.cell_hierarchy.specs.FlatSet.{IsMoved}
use Rattle.channel_router.specs.Channel.{IsPinOf}
use Rattle.leaf_shapes.specs.declared.demand.Metal.TheVariants.{M3, M4}
use Rattle.leaf_shapes.specs.declared.fit.Fit.TheVariants.{Bottom}
use Rattle.sram_netlist.specs.Organization.{banks_of, words_per_row, inputs_of}
use Rattle.sram_netlist.specs.Nets.{Net, Dout}
use Rattle.sram_netlist.specs.Instances.{SenseAt}
use Rattle.sram_netlist.specs.Membership.{HasLeafInstance}
use Rattle.sram_netlist.proofs.Bounds.{some_written, written_all}
use Rattle.macro_layout.specs.Places.{IsPlaceOf, bank_x, column_x}
use Rattle.macro_layout.specs.Floorplan.{IsFloorplan, rail_x}
use Rattle.macro_layout.specs.Pins.{main_nets, rail_nets, IsRailOf}
use Rattle.macro_layout.specs.Channels.{IsMainChannel}
use Rattle.macro_layout.specs.Wires.{IsTapAt, IsTapOfNet}
use Rattle.good_nets.specs.Ports.{upright_place}
use Rattle.good_nets.proofs.CellLaws.{has_image}
use Rattle.good_nets.proofs.NetLaws.{nets_on, net_back}
use Rattle.joined_nets.specs.Joints.{JoinsWires, IsOnWireLayer}
use Rattle.joined_nets.specs.WireNets.{in_bank, IsBankWireOf, IsWireOfNet}
use Rattle.joined_nets.proofs.FacingLaws.{wire_below}
use Rattle.joined_nets.proofs.SupplyLaws.{shape_in_bar}
use Rattle.joined_nets.proofs.TapLaws.{tap_on_rail}
use Rattle.kit_nets.specs.StatedParts.{Source, stated_parts, IsStatedBy}
use Rattle.kit_nets.specs.RolePins.{IsDrawnPin, AreRolePins}
use Rattle.kit_nets.specs.Hubs.{IsPortJoined}
use Rattle.kit_nets.specs.DrawnChannels.{IsDrawnChannel}
use Rattle.leaf_shapes.specs.FirstLayers.{AreFirstLayers}
use Rattle.kit_nets.proofs.DemandLaws.{metal_conducts}
use Rattle.kit_nets.proofs.ArrayNetLaws.{pin_of, pin_at, pin_listed}
use Rattle.kit_nets.proofs.PartsLaws.{stated_are_parts}
use Rattle.kit_nets.proofs.PinJoinLaws.{standing, pin_joined_by, facing_joined}
use Rattle.kit_nets.proofs.ChannelDrawnLaws.{IsOfMain, drawn_as_is, moved_is_shifted, moved_layer, box_there}
use Rattle.kit_nets.proofs.ColumnHubLaws.{zero_times, pin_shifted}
use Rattle.kit_nets.proofs.DataHubLaws.{slice_place}
use Rattle.kit_nets.proofs.MainHubLaws.{above_main}

-- boxes, so much further right
shifted_box : (d : ℤ) (layer : ℕ) (x1 y1 x2 y2 : ℤ) (inner u : Shape) → IsBox layer x1 y1 x2 y2 inner → IsMoved (upright_place d (pos 0)) inner u → IsBox layer (x1 +ℤ d) y1 (x2 +ℤ d) y2 u
shifted_box d layer x1 y1 x2 y2 inner u box moved =
    let shift = moved_is_shifted d (pos 0) inner u moved in
    let b1 = box.left in
    let b2 = box.low in
    let b3 = box.right in
    let b4 = box.high in
    let s1 = shift.x1 in
    let s2 = shift.y1 in
    let s3 = shift.x2 in
    let s4 = shift.y2 in
    record { on = shift.layer ∙ box.on; left = omega (arith, ints); low = omega (arith, ints); right = omega (arith, ints); high = omega (arith, ints) }

ended : (layer : ℕ) (x y1 x2 y2 end : ℤ) (u : Shape) → IsBox layer x y1 x2 y2 u → x2 ≡ end → IsBox layer x y1 end y2 u
ended layer x y1 x2 y2 end u box same = record { on = box.on; left = box.left; low = box.low; right = box.right ∙ same; high = box.high }

further : (x w d : ℤ) → (x +ℤ w) +ℤ d ≡ (x +ℤ d) +ℤ w
further x w d = omega (arith, ints)

cut_further : (x g w d : ℤ) → ((x +ℤ g) +ℤ w) +ℤ d ≡ ((x +ℤ d) +ℤ g) +ℤ w
cut_further x g w d = omega (arith, ints)

module _ (s : Source) where
  sense_begins : (b i port metal : ℕ) → (pin_at s (SenseAt b i) (slice_place s b i) port metal).rect.x1 ≡ (pin_at s (SenseAt 0 i) (slice_place s 0 i) port metal).rect.x1 +ℤ (pos b *ℤ s.floorplan.bank_width)
  sense_begins b i port metal =
      let here = (pin_shifted s (SenseAt b i) (bank_x s.floorplan b (column_x s.plan s.kit s.floorplan (i * words_per_row s.plan))) s.floorplan.sense_y port metal).x1 in
      let there = (pin_shifted s (SenseAt 0 i) (bank_x s.floorplan 0 (column_x s.plan s.kit s.floorplan (i * words_per_row s.plan))) s.floorplan.sense_y port metal).x1 in
      let none = zero_times s.floorplan.bank_width in
      omega (arith, ints, here, there, none)

  sense_low : (b i port metal : ℕ) → (pin_of s (SenseAt b i) port metal).rect.y1 ≡ pos 0 → (pin_at s (SenseAt b i) (slice_place s b i) port metal).rect.y1 ≡ s.floorplan.sense_y
  sense_low b i port metal low = let here = (pin_shifted s (SenseAt b i) (bank_x s.floorplan b (column_x s.plan s.kit s.floorplan (i * words_per_row s.plan))) s.floorplan.sense_y port metal).y1 in omega (arith, ints, here, low)

module _ (tech : Tech) (s : Source) (flat : FlatLists) (by : IsStatedBy tech.connects s flat) (joins : JoinsWires tech.connects s.wire) (sizes : AreSizes s.wire) (first : AreFirstLayers s.layers s.wire) (pins : AreRolePins s) (fp : IsFloorplan s.plan s.kit s.wire s.tracks s.floorplan) (m : IsDrawnChannel (IsMainChannel s.plan s.kit s.wire s.floorplan) s.wire s.tracks.main) where
  abbrev shift_of : ℕ → Place
  shift_of b = upright_place (pos b *ℤ s.floorplan.bank_width) (pos 0)

  -- A wire of bank 0 stands in each bank.
  pub bank_wire_is : (b : ℕ) (net : Net) (inner u : Shape) → b < banks_of s.plan → IsBankWireOf s.plan s.kit s.wire s.tracks s.floorplan net inner → IsOnWireLayer s.wire inner → IsMoved (upright_place (pos b *ℤ s.floorplan.bank_width) (pos 0)) inner u → (stated_parts s).Wire (in_bank b net) u
  bank_wire_is b net inner u of_bank is on moved =
      drawn_as_is s.layers s.wire (IsWireOfNet s.plan s.kit s.wire s.tracks s.floorplan (in_bank b net)) u first (moved_layer s.wire inner u moved.layer on)
      (inr (record { bank = b; below = of_bank; net = net; named = refl; inner = inner; is = is; shifted = moved_is_shifted (pos b *ℤ s.floorplan.bank_width) (pos 0) inner u moved }))

  pub bank_wire_stands : (b : ℕ) (net : Net) (inner u : Shape) → b < banks_of s.plan → IsBankWireOf s.plan s.kit s.wire s.tracks s.floorplan net inner → IsOnWireLayer s.wire inner → IsMoved (upright_place (pos b *ℤ s.floorplan.bank_width) (pos 0)) inner u → Contains flat.shapes u
  bank_wire_stands b net inner u of_bank is on moved = (stated_are_parts tech.connects s flat by).wires (in_bank b net) u (bank_wire_is b net inner u of_bank is on moved)

  output_drawn : IsDrawnPin s Sense 2 M4 Bottom
  output_drawn = pins.drawn Sense 2 M4 Bottom (record { place = 2; name = _; there = refl; named = refl })

  -- A sense cell's output over a write cell
  pub dout_joined : (b i number : ℕ) (has : HasLeafInstance s.plan (SenseAt b i)) (place : Place) (stands : IsPlaceOf s.plan s.kit s.floorplan (SenseAt b i) place) (hub : Shape) → i < inputs_of s.plan → 0 < s.kit.height Write → slice_get (main_nets s.plan) number ≡ Some (Dout i) → IsOfMain tech s flat by joins sizes first m number hub
      → IsPortJoined tech.connects s flat (standing tech.connects s flat by (SenseAt b i) has place stands) 2 hub
  dout_joined b i number has place stands hub of_input tall named of_hub =
      let some_bank : 0 < banks_of s.plan = (let lt = has.0 in omega (arith, lt)) in
      let p = pin_at s (SenseAt b i) (slice_place s b i) 2 3 in
      let p0 = pin_at s (SenseAt 0 i) (slice_place s 0 i) 2 3 in
      let pin = pin_listed tech.connects s flat by (SenseAt b i) (slice_place s b i) 2 3 (Dout i) has refl refl output_drawn.bound in
      let home = pin_listed tech.connects s flat by (SenseAt 0 i) (slice_place s 0 i) 2 3 (Dout i) (some_bank, has.1) refl refl output_drawn.bound in
      let written = written_all s.plan.write_size (s.kit.height Write) (some_written s.plan.write_size s.plan.word_size i of_input) in
      let sense_y = fp.sense_y ∙ ap (λ (h : ℕ). s.floorplan.write_y +ℤ pos h) written in
      let w = sizes.width.from in
      let box = box_there (slice_index s.wire.metals 3) p0.rect.x1 s.floorplan.write_y (p0.rect.x1 +ℤ s.wire.width) s.floorplan.sense_y (omega (arith, ints, w)) (omega (arith, ints, sense_y, tall)) in
      let image = has_image (upright_place (pos b *ℤ s.floorplan.bank_width) (pos 0)) box.0 in
      let o = image.0 in
      let d = pos b *ℤ s.floorplan.bank_width in
      let o_box = ended (slice_index s.wire.metals 3) (p0.rect.x1 +ℤ d) s.floorplan.write_y ((p0.rect.x1 +ℤ s.wire.width) +ℤ d) s.floorplan.sense_y ((p0.rect.x1 +ℤ d) +ℤ s.wire.width) o (shifted_box d (slice_index s.wire.metals 3) p0.rect.x1 s.floorplan.write_y (p0.rect.x1 +ℤ s.wire.width) s.floorplan.sense_y box.0 o box.1 image.1) (further p0.rect.x1 s.wire.width d) in
      let stands_o = bank_wire_stands b (Dout i) box.0 o has.0 (inr (inr (inr (inl (record { bit = i; below = of_input; rect = p0.rect; pin = home.pin; drawn = box.1 }))))) (inl (record { place = 3; below = omega arith; on = box.1.on })) image.1 in
      let begins = sense_begins s b i 2 3 in
      let left : p.rect.x1 ≡ o.rect.x1 = begins ∙ sym o_box.left in
      let met_p = (m.routed.meant.top number p.rect.x1).1 (Dout i, named, (b, has.0, inr (inr (inr (i, record { rect = p.rect; is = pin.pin; begins = refl }))))) in
      let met = subst (λ (x : ℤ). IsPinOf m.channel.top number x) left met_p in
      let joined = wire_below (slice_index s.wire.metals 3) (p0.rect.x1 +ℤ d) s.floorplan.write_y s.floorplan.sense_y s.wire.width p.rect o w begins (sense_low s b i 2 3 output_drawn.fits.0) o_box in
      pin_joined_by tech.connects s flat by (SenseAt b i) has place (slice_place s b i) stands 2 3 hub stands output_drawn.bound
      (nets_on tech.connects flat.shapes p o hub
      (net_back tech.connects flat.shapes o p stands_o (facing_joined tech.connects s flat by (slice_index s.wire.metals 3) o p (metal_conducts tech.connects s.wire joins M4) o_box.on refl joined pin.listed))
      (above_main tech s flat by joins sizes first pins fp m number (Dout i) o hub named met o_box.on o_box.low stands_o of_hub))

  -- the highest tap of a rail that has one
  pub record HighestTap (x : ℤ) (net : Net) : Type 0 where
    pub y : ℤ
    pub end : ℤ
    pub tap : IsTapOfNet s.plan s.kit s.wire s.tracks.column s.floorplan net x y end
    pub highest : (other other_end : ℤ) → IsTapAt s.plan s.kit s.wire s.tracks.column s.floorplan x other other_end → other ≤ℤ y
    pub above : s.floorplan.write_y ≤ℤ y

  in_bank_x : (j b : ℕ) (x : ℤ) → x ≡ bank_x s.floorplan 0 (rail_x s.wire j) → x +ℤ (pos b *ℤ s.floorplan.bank_width) ≡ bank_x s.floorplan b (rail_x s.wire j)
  in_bank_x j b x at = let none = zero_times s.floorplan.bank_width in omega (arith, ints, none, at)

  shifted_end : (x w end d : ℤ) → (x +ℤ w) ≤ℤ end → ((x +ℤ d) +ℤ w) ≤ℤ (end +ℤ d)
  shifted_end x w end d le = omega (arith, ints, le)

  -- A shape along a tap of rail j, in bank b, is joined with the main channel's wires of the rail's net.
  pub tapped : (b j number : ℕ) (net on : Net) (x y end : ℤ) (p hub : Shape) → b < banks_of s.plan → slice_get (rail_nets s.plan 0) j ≡ Some net → x ≡ bank_x s.floorplan 0 (rail_x s.wire j) → IsTapOfNet s.plan s.kit s.wire s.tracks.column s.floorplan net x y end → HighestTap x net → s.floorplan.write_y ≤ℤ y → (x +ℤ s.wire.width) ≤ℤ end
      → slice_get (rail_nets s.plan b) j ≡ Some on → slice_get (main_nets s.plan) number ≡ Some on → IsOfMain tech s flat by joins sizes first m number hub
      → p.layer ≡ slice_index s.wire.metals 2 → (x +ℤ (pos b *ℤ s.floorplan.bank_width)) ≤ℤ p.rect.x1 → p.rect.x2 ≤ℤ (end +ℤ (pos b *ℤ s.floorplan.bank_width)) → p.rect.y1 ≡ y → p.rect.y2 ≡ y +ℤ s.wire.width → AreOnOneNet tech.connects flat.shapes p hub
  tapped b j number net on x y end p hub of_bank of_rail at tap top above wide of_rail_b named of_hub on_p left right low high =
      let rail : IsRailOf s.plan s.wire s.floorplan 0 net x = record { rail = j; on = of_rail; at = at } in
      let w = sizes.width.from in
      let cut = sizes.cut.from in
      let higher : y ≤ℤ top.y = top.highest y end (record { net = net; rail = rail; tap = tap }) in
      let tap_box = box_there (slice_index s.wire.metals 2) x y end (y +ℤ s.wire.width) (omega (arith, ints, w, wide)) (omega (arith, ints, w)) in
      let via_box = box_there (slice_index s.wire.cuts 2) (x +ℤ margin s.wire) (y +ℤ margin s.wire) ((x +ℤ margin s.wire) +ℤ s.wire.cut) ((y +ℤ margin s.wire) +ℤ s.wire.cut) (omega (arith, ints, cut)) (omega (arith, ints, cut)) in
      let rail_box = box_there (slice_index s.wire.metals 3) x s.floorplan.write_y (x +ℤ s.wire.width) (top.y +ℤ s.wire.width) (omega (arith, ints, w)) (omega (arith, ints, w, above, higher)) in
      let tap_image = has_image (shift_of b) tap_box.0 in
      let rail_image = has_image (shift_of b) rail_box.0 in
      let via_image = has_image (shift_of b) via_box.0 in
      let t = tap_image.0 in
      let r = rail_image.0 in
      let d = pos b *ℤ s.floorplan.bank_width in
      let tap_b = shifted_box d (slice_index s.wire.metals 2) x y end (y +ℤ s.wire.width) tap_box.0 t tap_box.1 tap_image.1 in
      let rail_b = ended (slice_index s.wire.metals 3) (x +ℤ d) s.floorplan.write_y ((x +ℤ s.wire.width) +ℤ d) (top.y +ℤ s.wire.width) ((x +ℤ d) +ℤ s.wire.width) r (shifted_box d (slice_index s.wire.metals 3) x s.floorplan.write_y (x +ℤ s.wire.width) (top.y +ℤ s.wire.width) rail_box.0 r rail_box.1 rail_image.1) (further x s.wire.width d) in
      let via_moved = shifted_box d (slice_index s.wire.cuts 2) (x +ℤ margin s.wire) (y +ℤ margin s.wire) ((x +ℤ margin s.wire) +ℤ s.wire.cut) ((y +ℤ margin s.wire) +ℤ s.wire.cut) via_box.0 via_image.0 via_box.1 via_image.1 in
      let via_b : IsVia s.wire 2 (x +ℤ d) y via_image.0 = record { on = via_moved.on; left = via_moved.left ∙ further x (margin s.wire) d; low = via_moved.low; right = via_moved.right ∙ cut_further x (margin s.wire) s.wire.cut d; high = via_moved.high } in
      let tap_is : IsBankWireOf s.plan s.kit s.wire s.tracks s.floorplan net tap_box.0 = inr (inl (record { x = x; y = y; end = end; rail = rail; tap = tap; drawn = inl tap_box.1 })) in
      let via_is : IsBankWireOf s.plan s.kit s.wire s.tracks s.floorplan net via_box.0 = inr (inl (record { x = x; y = y; end = end; rail = rail; tap = tap; drawn = inr via_box.1 })) in
      let rail_is : IsBankWireOf s.plan s.kit s.wire s.tracks s.floorplan net rail_box.0 = inr (inr (inl (record { x = x; y = top.y; end = top.end; rail = rail; tap = top.tap; highest = top.highest; drawn = rail_box.1 }))) in
      let t_stands = bank_wire_stands b net tap_box.0 t of_bank tap_is (inl (record { place = 2; below = omega arith; on = tap_box.1.on })) tap_image.1 in
      let v_stands = bank_wire_stands b net via_box.0 via_image.0 of_bank via_is (inr (record { place = 2; below = omega arith; on = via_box.1.on })) via_image.1 in
      let r_stands = bank_wire_stands b net rail_box.0 r of_bank rail_is (inl (record { place = 3; below = omega arith; on = rail_box.1.on })) rail_image.1 in
      let at_b : r.rect.x1 ≡ bank_x s.floorplan b (rail_x s.wire j) = rail_b.left ∙ in_bank_x j b x at in
      let met = (m.routed.meant.top number r.rect.x1).1 (on, named, (b, of_bank, inl (record { rail = j; on = of_rail_b; at = at_b }))) in
      nets_on tech.connects flat.shapes p t hub
      (facing_joined tech.connects s flat by (slice_index s.wire.metals 2) p t (metal_conducts tech.connects s.wire joins M3) on_p tap_b.on (shape_in_bar (slice_index s.wire.metals 2) (x +ℤ d) y (end +ℤ d) s.wire.width p.rect t tap_b left right low high) t_stands)
      (nets_on tech.connects flat.shapes t r hub
      (tap_on_rail tech.connects s.wire flat.shapes (x +ℤ d) y (end +ℤ d) s.floorplan.write_y top.y t via_image.0 r joins sizes tap_b via_b rail_b (shifted_end x s.wire.width end d wide) above higher v_stands r_stands)
      (above_main tech s flat by joins sizes first pins fp m number on r hub named met rail_b.on rail_b.low r_stands of_hub))
