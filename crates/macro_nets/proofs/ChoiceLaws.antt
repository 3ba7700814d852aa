-- A column choice in a multiplexer is joined with the main channel's wires: by the column channel's wires, and by the tap along its trunk.
use Rattle.std.proofs.Common.{◌≡◌, inl, inr, ℕ, zero, suc, ◌%◌, ◌<◌, ℤ, pos, ◌<ℤ◌, ◌≤ℤ◌, ◌+ℤ◌, ◌*ℤ◌, ◌++◌, Some, refl, sym, ap, ◌∙◌, arith}
use Rattle.std.specs.Prelude.{slice_get, slice_index}
use Rattle.std.proofs.lemmas.Int.{ints}
use Rattle.or_geom.specs.declared.shape.Shape.{Shape}
use Rattle.or_geom.specs.declared.place.Place.{Place}
use Rattle.cell_roles.specs.declared.role.Role.TheVariants.{Mux, Sense}
use Rattle.tech_rules.specs.declared.tech.Tech.{Tech}
use Rattle.tech_rules.specs.Net.{AreOnOneNet}
use Rattle.cell_hierarchy.specs.Plain.{FlatLists}
use Rattle.cell_hierarchy.specs.FlatSet.{IsMoved}
use Rattle.channel_router.specs.Wires.{track_y}
use Rattle.channel_router.proofs.PinLaws.{pin_right}
use Rattle.leaf_shapes.specs.declared.demand.Metal.TheVariants.{M3, M4}
use Rattle.leaf_shapes.specs.declared.fit.Fit.TheVariants.{Bottom}
use Rattle.sram_netlist.specs.Organization.{power_of_two, banks_of, words_per_row}
use Rattle.sram_netlist.specs.Nets.{Net, Line}
use Rattle.sram_netlist.specs.Instances.{MuxAt}
use Rattle.sram_netlist.specs.InstanceList.{tabulate_lists}
use Rattle.sram_netlist.specs.Membership.{HasLeafInstance, IsOneOf}
use Rattle.sram_netlist.proofs.InstanceLists.{to_each, place_in}
use Rattle.sram_rows.proofs.PlainNames.{choice_of_column}
use Rattle.macro_layout.specs.Places.{IsPlaceOf, bank_x}
use Rattle.macro_layout.specs.Floorplan.{rail_x}
use Rattle.macro_layout.specs.Cells.{column_leaf}
use Rattle.macro_layout.specs.Pins.{main_nets, choice_nets, slice_nets, IsRailOf}
use Rattle.macro_layout.specs.Wires.{IsTapOfNet}
use Rattle.good_nets.proofs.CellLaws.{has_image}
use Rattle.good_nets.proofs.NetLaws.{nets_on, net_back}
use Rattle.good_wires.proofs.LevelLaws.{track_above}
use Rattle.joined_nets.specs.WireNets.{IsBankWireOf}
use Rattle.joined_nets.proofs.EdgeLaws.{joined_within}
use Rattle.kit_nets.specs.StatedParts.{Source}
use Rattle.kit_nets.specs.Hubs.{IsPortJoined}
use Rattle.kit_nets.proofs.ArrayNetLaws.{pin_at}
use Rattle.kit_nets.proofs.ChannelDrawnLaws.{IsOfMain, IsOfColumn, bank_shift, column_stands, column_wires_joined, box_there, moved_is_shifted}
use Rattle.kit_nets.proofs.ColumnHubLaws.{end_meets}
use Rattle.kit_nets.proofs.DataHubLaws.{foot_place}
use Rattle.kit_nets.proofs.DemandLaws.{metal_conducts}
use Rattle.kit_nets.proofs.PinJoinLaws.{standing, pin_joined_by, facing_joined}
use Rattle.kit_nets.proofs.RailHubLaws.{bank_wire_stands, tapped}
use Rattle.supply_nets.specs.LaidMacro.{IsLaidMacro}
use Rattle.supply_nets.proofs.LevelLaws.{write_under_sense}
use Rattle.wire_nets.proofs.NamedLaws.{bank_rail}
use Rattle.good_wires.specs.Held.{DoRailsReach}
use Rattle.macro_nets.proofs.RailNumberLaws.{choice_rail}
use Rattle.macro_nets.proofs.TapLaws.{highest}
use Rattle.macro_nets.proofs.TapPinLaws.{in_front_at}

-- the choices of a memory that has column bits
pub listed_choice : (n c : ℕ) → 0 < n → c < power_of_two n → IsOneOf (Line 0 n c) (choice_nets n)
listed_choice zero c some lt = absurd (omega (arith, some))
listed_choice (suc n) c some lt = to_each (power_of_two (suc n)) (Line 0 (suc n)) c lt

mux_home : (n k : ℕ) → 0 < n → MuxAt 0 k ≡ column_leaf n 0 k
mux_home zero k some = absurd (omega (arith, some))
mux_home (suc n) k some = refl

-- the tap lies within the trunk, also further right
tap_in_trunk : (left right x w d a1 a2 b1 b2 : ℤ) → left ≤ℤ x → x ≤ℤ right → a1 ≡ x +ℤ d → a2 ≡ (x +ℤ w) +ℤ d → b1 ≡ left +ℤ d → b2 ≡ (right +ℤ w) +ℤ d → (b1 ≤ℤ a1) × (a2 ≤ℤ b2)
tap_in_trunk left right x w d a1 a2 b1 b2 one two at_a1 at_a2 at_b1 at_b2 = (omega (arith, ints, one, at_a1, at_b1), omega (arith, ints, two, at_a2, at_b2))

one_below : (a b : ℤ) → a ≡ b → a ≤ℤ b
one_below a b e = omega (arith, ints, e)

module _ (tech : Tech) (s : Source) (flat : FlatLists) (k : IsLaidMacro tech s flat) (reach : DoRailsReach s.plan s.kit s.wire s.tracks.column s.floorplan) where
  abbrev d_of : ℕ → ℤ
  d_of b = pos b *ℤ s.floorplan.bank_width

  abbrev rail_at : ℕ → ℤ
  rail_at j = bank_x s.floorplan 0 (rail_x s.wire j)

  abbrev net_of : ℕ → Net
  net_of c = Line 0 s.plan.col_bits c

  high_enough : (a sense low y space : ℤ) (h : ℕ) → a ≤ℤ sense → low ≡ sense +ℤ pos h → (low +ℤ space) ≤ℤ y → pos 1 ≤ℤ space → a ≤ℤ y
  high_enough a sense low y space h one is two some = omega (arith, ints, one, is, two, some)

  still : (a : ℤ) → a +ℤ pos 0 ≡ a
  still a = omega (arith, ints)

  wide_trunk : (left right x w : ℤ) → left ≤ℤ x → x ≤ℤ right → pos 1 ≤ℤ w → left <ℤ (right +ℤ w)
  wide_trunk left right x w one two some = omega (arith, ints, one, two, some)

  longer : (a w : ℤ) → pos 1 ≤ℤ w → a <ℤ (a +ℤ w)
  longer a w some = omega (arith, ints, some)

  same : (a : ℤ) → a ≤ℤ a
  same a = omega (arith, ints)

  -- A wire of a choice's net in the column channel, in bank b, is joined with the main channel's.
  pub choice_wire_joined : (b c number column : ℕ) (inner u hub : Shape) → b < banks_of s.plan → slice_get (choice_nets s.plan.col_bits) column ≡ Some (Line 0 s.plan.col_bits c) → IsOneOf (Line 0 s.plan.col_bits c) (choice_nets s.plan.col_bits)
      → IsOfColumn tech s flat k.by k.joins k.sizes k.first k.column column inner → IsMoved (bank_shift tech s flat k.by k.joins k.sizes k.first k.column b) inner u
      → slice_get (main_nets s.plan) number ≡ Some (Line 0 s.plan.col_bits c) → IsOfMain tech s flat k.by k.joins k.sizes k.first k.main number hub → AreOnOneNet tech.connects flat.shapes u hub
  choice_wire_joined b c number column inner u hub of_bank choice listed of moved named of_hub =
      let rail = choice_rail s.plan (net_of c) listed in
      let x = rail_at rail.rail in
      let w = s.wire.width in
      let d = d_of b in
      let ch = k.column.channel in
      let left = of.interval.left in
      let right = of.interval.right in
      let y = track_y ch.low s.wire of.t in
      let is_rail : IsRailOf s.plan s.wire s.floorplan 0 (net_of c) x = record { rail = rail.rail; on = rail.on; at = refl } in
      let in_column = in_front_at (choice_nets s.plan.col_bits) (tabulate_lists s.plan.word_size (slice_nets s.plan)) column (net_of c) choice in
      let exit = (k.column.routed.meant.exits column x).1 (net_of c, in_column, is_rail) in
      let exit_place = pin_right (ch.top ++ ch.bottom) ch.exits column x exit in
      let is = k.column.routed.nets.of_net column of.interval of.has.there in
      let from = is.least x exit_place in
      let to = is.greatest x exit_place in
      let some = k.sizes.width.from in
      let trunk_box = box_there (slice_index s.wire.metals 2) left y (right +ℤ w) (y +ℤ w) (wide_trunk left right x w from to some) (longer y w some) in
      let of_trunk : IsOfColumn tech s flat k.by k.joins k.sizes k.first k.column column trunk_box.0 = record { interval = of.interval; t = of.t; has = of.has; wires = inl trunk_box.1 } in
      let trunk_image = has_image (bank_shift tech s flat k.by k.joins k.sizes k.first k.column b) trunk_box.0 in
      let v = trunk_image.0 in
      let v_stands = column_stands tech s flat k.by k.joins k.sizes k.first k.column b column trunk_box.0 v of_bank of_trunk trunk_image.1 in
      let tap_box = box_there (slice_index s.wire.metals 2) x y (x +ℤ w) (y +ℤ w) (longer x w some) (longer y w some) in
      let tap : IsTapOfNet s.plan s.kit s.wire s.tracks.column s.floorplan (net_of c) x y (x +ℤ w) =
      inr (inr (inr (inr (record { number = column; choice = choice; trunk = record { channel = ch; intervals = k.column.intervals; track = k.column.track; routed = k.column.routed; interval = of.interval; on = of.t; has = of.has; at = refl }; ends = refl })))) in
      let tap_is : IsBankWireOf s.plan s.kit s.wire s.tracks s.floorplan (net_of c) tap_box.0 = inr (inl (record { x = x; y = y; end = x +ℤ w; rail = is_rail; tap = tap; drawn = inl tap_box.1 })) in
      let tap_image = has_image (bank_shift tech s flat k.by k.joins k.sizes k.first k.column b) tap_box.0 in
      let p = tap_image.0 in
      let p_stands = bank_wire_stands tech s flat k.by k.joins k.sizes k.first k.pins k.floor k.main b (net_of c) tap_box.0 p of_bank tap_is (inl (record { place = 2; below = omega arith; on = tap_box.1.on })) tap_image.1 in
      let p_shift = moved_is_shifted d (pos 0) tap_box.0 p tap_image.1 in
      let v_shift = moved_is_shifted d (pos 0) trunk_box.0 v trunk_image.1 in
      let p1 : p.rect.x1 ≡ x +ℤ d = p_shift.x1 ∙ ap (λ (z : ℤ). z +ℤ d) tap_box.1.left in
      let p2 : p.rect.x2 ≡ (x +ℤ w) +ℤ d = p_shift.x2 ∙ ap (λ (z : ℤ). z +ℤ d) tap_box.1.right in
      let p3 : p.rect.y1 ≡ y = p_shift.y1 ∙ ap (λ (z : ℤ). z +ℤ pos 0) tap_box.1.low ∙ still y in
      let p4 : p.rect.y2 ≡ y +ℤ w = p_shift.y2 ∙ ap (λ (z : ℤ). z +ℤ pos 0) tap_box.1.high ∙ still (y +ℤ w) in
      let v1 : v.rect.x1 ≡ left +ℤ d = v_shift.x1 ∙ ap (λ (z : ℤ). z +ℤ d) trunk_box.1.left in
      let v2 : v.rect.x2 ≡ (right +ℤ w) +ℤ d = v_shift.x2 ∙ ap (λ (z : ℤ). z +ℤ d) trunk_box.1.right in
      let v3 : v.rect.y1 ≡ y = v_shift.y1 ∙ ap (λ (z : ℤ). z +ℤ pos 0) trunk_box.1.low ∙ still y in
      let v4 : v.rect.y2 ≡ y +ℤ w = v_shift.y2 ∙ ap (λ (z : ℤ). z +ℤ pos 0) trunk_box.1.high ∙ still (y +ℤ w) in
      let within = tap_in_trunk left right x w d p.rect.x1 p.rect.x2 v.rect.x1 v.rect.x2 from to p1 p2 v1 v2 in
      let met = joined_within p.rect v.rect within.0 within.1 (one_below v.rect.y1 p.rect.y1 (v3 ∙ sym p3)) (one_below p.rect.y2 v.rect.y2 (p4 ∙ sym v4)) in
      let above = high_enough s.floorplan.write_y s.floorplan.sense_y ch.low y s.wire.space (s.kit.height Sense) (write_under_sense s k.sizes k.floor k.inside) k.column.routed.meant.low (track_above ch.low s.wire of.t k.sizes) k.sizes.space.from in
      nets_on tech.connects flat.shapes u v hub (column_wires_joined tech s flat k.by k.joins k.sizes k.first k.column b column inner trunk_box.0 u v of_bank of of_trunk moved trunk_image.1)
      (nets_on tech.connects flat.shapes v p hub
      (net_back tech.connects flat.shapes p v p_stands (facing_joined tech.connects s flat k.by (slice_index s.wire.metals 2) p v (metal_conducts tech.connects s.wire k.joins M3) (p_shift.layer ∙ tap_box.1.on) (v_shift.layer ∙ trunk_box.1.on) met v_stands))
      (tapped tech s flat k.by k.joins k.sizes k.first k.pins k.floor k.main b rail.rail number (net_of c) (net_of c) x y (x +ℤ w) p hub of_bank rail.on refl tap (highest tech s flat k reach x y (x +ℤ w) (net_of c) is_rail tap above) above (same (x +ℤ w))
      (bank_rail s.plan b rail.rail (net_of c) rail.on) named of_hub (p_shift.layer ∙ tap_box.1.on) (one_below (x +ℤ d) p.rect.x1 (sym p1)) (one_below p.rect.x2 ((x +ℤ w) +ℤ d) p2) p3 p4))

  -- A column choice in a multiplexer
  pub choice_joined : (b c number : ℕ) (has : HasLeafInstance s.plan (MuxAt b c)) (place : Place) (stands : IsPlaceOf s.plan s.kit s.floorplan (MuxAt b c) place) (hub : Shape) → slice_get (main_nets s.plan) number ≡ Some (Line 0 s.plan.col_bits (c % words_per_row s.plan))
      → IsOfMain tech s flat k.by k.joins k.sizes k.first k.main number hub → IsPortJoined tech.connects s flat (standing tech.connects s flat k.by (MuxAt b c) has place stands) 4 hub
  choice_joined b c number has place stands hub named of_hub =
      let choice = c % words_per_row s.plan in
      let net = net_of choice in
      let listed = listed_choice s.plan.col_bits choice has.1.1 (choice_of_column s.plan k.build c) in
      let at = place_in net (choice_nets s.plan.col_bits) listed in
      let drawn = k.pins.drawn Mux 4 M4 Bottom (record { place = 4; name = _; there = refl; named = refl }) in
      let home : HasLeafInstance s.plan (MuxAt 0 c) = (some_bank b has.0, has.1) in
      let met = end_meets tech s flat k.by k.joins k.sizes k.first k.floor k.column (MuxAt b c) (MuxAt 0 c) b c 4 at.0 net net has.0 (mux_home s.plan.col_bits c has.1.1) has home refl refl
      (in_front_at (choice_nets s.plan.col_bits) (tabulate_lists s.plan.word_size (slice_nets s.plan)) at.0 net at.1) refl refl refl drawn.bound drawn.bound drawn.fits.0 in
      pin_joined_by tech.connects s flat k.by (MuxAt b c) has place (foot_place s b c) stands 4 3 hub stands drawn.bound
      (nets_on tech.connects flat.shapes (pin_at s (MuxAt b c) (foot_place s b c) 4 3) met.u hub met.net (choice_wire_joined b choice number at.0 met.inner met.u hub has.0 at.1 listed met.of met.moved named of_hub))
    where
      some_bank : (b : ℕ) → b < banks_of s.plan → 0 < banks_of s.plan
      some_bank b lt = omega (arith, lt)
