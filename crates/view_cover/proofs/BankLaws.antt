-- The wires of a bank lie within it: taps, rails, outputs, joiners and the column channel.
use Rattle.std.proofs.Common.{◌≡◌, ◌⊎◌, inl, inr, ℕ, ℤ, pos, ◌+ℤ◌, ◌-ℤ◌, ◌*ℤ◌, ◌≤ℤ◌, ◌<ℤ◌, refl, sym, subst, ◌∙◌, arith}
use Rattle.std.specs.Prelude.{slice_index}
use Rattle.std.proofs.lemmas.Int.{ints, clamps}
use Rattle.or_geom.specs.declared.shape.Rect.{Rect}
use Rattle.or_geom.specs.declared.shape.Shape.{Shape}
use Rattle.or_geom.specs.declared.place.Place.{Place}
use Rattle.or_geom.specs.Place.{placed, IsImage}
use Rattle.cell_roles.specs.declared.role.Role.TheVariants.{Precharge}
use Rattle.tech_rules.specs.declared.tech.Wire.{Wire}
use Rattle.wire_drawing.specs.Drawing.{pitch, IsBox, IsVia}
use Rattle.channel_router.specs.Wires.{track_y}
use Rattle.sram_netlist.specs.Organization.{Organization}
use Rattle.sram_netlist.specs.Nets.{Net}
use Rattle.sram_netlist.specs.Instances.{LeafInstance, NandAt, DriverAt, PrechargeAt, SenseAt}
use Rattle.sram_netlist.specs.Netlist.{role}
use Rattle.macro_layout.specs.LayoutKit.{LayoutKit}
use Rattle.macro_layout.specs.Places.{Floorplan, upright, bank_x, column_x, columns_x}
use Rattle.macro_layout.specs.Floorplan.{Tracks, column_channel_y, upper_y}
use Rattle.macro_layout.specs.Pins.{IsRailOf}
use Rattle.macro_layout.specs.Wires.{IsPinTap, IsChoiceTap, IsTapOfNet, IsTapAt, IsTapWire, IsRailWire, IsOutputWire, columns_end, IsWriteJoiner, IsCornerJoiner, IsWireInBank}
use Rattle.macro_layout.specs.Stated.{IsWireInBanks}
use Rattle.view_cover.specs.Bits.{LiesWithin}
use Rattle.view_cover.proofs.PlaceLaws.{box_within, image_within}
use Rattle.view_cover.proofs.FitLaws.{AreGiven, contents_end, rises, reaches}
use Rattle.view_cover.proofs.LeafLaws.{gate_stands, driver_stands, precharge_stands, bank_from, bank_to, array_upper, sense_upper, begins_within}
use Rattle.view_cover.proofs.KindLaws.{IsPlain, via_cut, wide_box, not_fourth, plain_shifts, wire_behind, chain}
use Rattle.view_cover.proofs.ColumnLaws.{IsBankKind, AtHome, from_bank, row_from, rail_within, row_to, sense_home, sense_pin, channel_y, channel_low, column_upper, column_wire}

upright_low : (x y : ℤ) (r s : Rect) → IsImage (placed (upright x y)) r s → s.y1 ≡ r.y1 +ℤ y
upright_low x y r s image = let tall = r.tall in let y1 = image.y1 in y1 ∙ omega (arith, ints, clamps, tall)

module _ (plan : Organization) (kit : LayoutKit) (wire : Wire) (tracks : Tracks) (f : Floorplan) (g : AreGiven plan kit wire tracks f) where
  -- Taps

  -- a tap ends in the bank and a wire's width above it is within the macro
  record IsBankTap (y end : ℤ) : Type 0 where
    above : pos 0 ≤ℤ y
    below : (y +ℤ wire.width) ≤ℤ upper_y kit f
    to : end ≤ℤ f.bank_width

  lower_tap : (high y end : ℤ) (r : Rect) → LiesWithin f.row_x (pos 0) f.bank_width high r → (high +ℤ wire.width) ≤ℤ upper_y kit f → y ≡ r.y1 → end ≡ r.x2 → IsBankTap y end
  lower_tap high y end r is room at ends =
      let above = is.above in
      let below = is.below in
      let to = is.to in
      let tall = r.tall in
      record { above = omega (arith, ints, above, at); below = by y wire.width high (upper_y kit f) r.y1 r.y2 at tall below room; to = omega (arith, ints, to, ends) }
    where
      by : (y w high up y1 y2 : ℤ) → y ≡ y1 → y1 <ℤ y2 → y2 ≤ℤ high → (high +ℤ w) ≤ℤ up → (y +ℤ w) ≤ℤ up
      by y w high up y1 y2 at tall below room = omega (arith, ints, at, tall, below, room)

  pin_tap : (leaf : LeafInstance) (net : Net) (high y end : ℤ) (t : IsPinTap plan kit f leaf net y end) → AtHome plan kit wire tracks f g high (kit.width (role plan leaf)) (kit.height (role plan leaf)) t.pin.place → (high +ℤ wire.width) ≤ℤ upper_y kit f → IsBankTap y end
  pin_tap leaf net high y end t stands room =
      lower_tap high y end t.rect (image_within f.row_x f.bank_width high (kit.width (role plan leaf)) (kit.height (role plan leaf)) t.pin.place (kit.pin (role plan leaf) t.port 2) t.rect stands (g.fits.inside (role plan leaf) t.port 2) t.pin.image) room t.at t.ends

  rows_room : (f.precharge_y +ℤ wire.width) ≤ℤ upper_y kit f
  rows_room = (rises plan kit wire tracks f g).to_upper

  senses_room : (column_channel_y kit f +ℤ wire.width) ≤ℤ upper_y kit f
  senses_room = let r = rises plan kit wire tracks f g in let a = r.to_column in let b = r.to_array in let c = array_upper plan kit wire tracks f g in omega (arith, ints, a, b, c)

  gate_tap : (r : ℕ) (net : Net) (y end : ℤ) → IsPinTap plan kit f (NandAt 0 r) net y end → IsBankTap y end
  gate_tap r net y end t = pin_tap (NandAt 0 r) net f.precharge_y y end t (from_bank plan kit wire tracks f g f.precharge_y (kit.width (role plan (NandAt 0 r))) (kit.height (role plan (NandAt 0 r))) t.pin.place (gate_stands plan kit wire tracks f g 0 r t.pin.place t.pin.has t.pin.stands)) rows_room

  driver_tap : (r : ℕ) (net : Net) (y end : ℤ) → IsPinTap plan kit f (DriverAt 0 r) net y end → IsBankTap y end
  driver_tap r net y end t = pin_tap (DriverAt 0 r) net f.precharge_y y end t (from_bank plan kit wire tracks f g f.precharge_y (kit.width (role plan (DriverAt 0 r))) (kit.height (role plan (DriverAt 0 r))) t.pin.place (driver_stands plan kit wire tracks f g 0 r t.pin.place t.pin.has t.pin.stands)) rows_room

  sense_tap : (i : ℕ) (net : Net) (y end : ℤ) → IsPinTap plan kit f (SenseAt 0 i) net y end → IsBankTap y end
  sense_tap i net y end t = pin_tap (SenseAt 0 i) net (column_channel_y kit f) y end t (sense_home plan kit wire tracks f g i t.pin.place t.pin.has t.pin.stands) senses_room

  precharge_room : (y r1 a w h up : ℤ) → y ≡ r1 +ℤ a → (r1 +ℤ w) ≤ℤ h → up ≡ a +ℤ h → (y +ℤ w) ≤ℤ up
  precharge_room y r1 a w h up is le top = omega (arith, ints, is, le, top)

  precharge_tap : (c : ℕ) (net : Net) (y end : ℤ) → IsPinTap plan kit f (PrechargeAt 0 c) net y end → IsBankTap y end
  precharge_tap c net y end t =
      let r = kit.pin Precharge t.port 2 in
      let stands = from_bank plan kit wire tracks f g (upper_y kit f) (kit.width Precharge) (kit.height Precharge) t.pin.place (precharge_stands plan kit wire tracks f g 0 c t.pin.place t.pin.has t.pin.stands) in
      let within = image_within f.row_x f.bank_width (upper_y kit f) (kit.width Precharge) (kit.height Precharge) t.pin.place r t.rect stands (g.fits.inside Precharge t.port 2) t.pin.image in
      let low = upright_low (bank_x f 0 (column_x plan kit f c)) f.precharge_y r t.rect (subst (λ (p : Place). IsImage (placed p) r t.rect) t.pin.stands t.pin.image) in
      let above = within.above in
      let to = within.to in
      let at = t.at in
      let ends = t.ends in
      record {
        above = omega (arith, ints, above, at);
        below = precharge_room y r.y1 f.precharge_y wire.width (pos (kit.height Precharge)) (upper_y kit f) (at ∙ low) (g.fits.upward t.port) refl;
        to = omega (arith, ints, to, ends);
      }

  choice_tap : (net : Net) (x y end : ℤ) → IsRailOf plan wire f 0 net x → IsChoiceTap plan kit wire tracks.column f net x y end → IsBankTap y end
  choice_tap net x y end rail t =
      let k = t.trunk in
      let lt = k.routed.count.below t.number k.on k.has.on in
      let ys = channel_y plan kit wire tracks f g k.channel k.on k.routed.meant lt in
      let both = rail_within plan kit wire tracks f g net x rail in
      record {
        above = subst (λ (z : ℤ). pos 0 ≤ℤ z) (sym k.at) (chain (pos 0) (column_channel_y kit f) (track_y k.channel.low wire k.on) (channel_low plan kit wire tracks f g) ys.0);
        below = subst (λ (z : ℤ). (z +ℤ wire.width) ≤ℤ upper_y kit f) (sym k.at) (chain (track_y k.channel.low wire k.on +ℤ wire.width) f.column_y (upper_y kit f) ys.1 (column_upper plan kit wire tracks f g));
        to = subst (λ (z : ℤ). z ≤ℤ f.bank_width) (sym t.ends) (chain (x +ℤ wire.width) f.row_x f.bank_width both.1 (row_to plan kit wire tracks f g));
      }

  tap_of_net : (net : Net) (x y end : ℤ) → IsRailOf plan wire f 0 net x → IsTapOfNet plan kit wire tracks.column f net x y end → IsBankTap y end
  tap_of_net net x y end rail (inl t) = gate_tap t.0 net y end t.1
  tap_of_net net x y end rail (inr (inl t)) = driver_tap t.0 net y end t.1
  tap_of_net net x y end rail (inr (inr (inl t))) = sense_tap t.0 net y end t.2
  tap_of_net net x y end rail (inr (inr (inr (inl t)))) = precharge_tap t.0 net y end t.2
  tap_of_net net x y end rail (inr (inr (inr (inr t)))) = choice_tap net x y end rail t

  tap_at : (x y end : ℤ) → IsTapAt plan kit wire tracks.column f x y end → IsBankTap y end
  tap_at x y end t = tap_of_net t.net x y end t.rail t.tap

  rail_at : (x y end : ℤ) → IsTapAt plan kit wire tracks.column f x y end → (pitch wire ≤ℤ x) × ((x +ℤ wire.width) ≤ℤ f.bank_width)
  rail_at x y end t = let both = rail_within plan kit wire tracks f g t.net x t.rail in (both.0, chain (x +ℤ wire.width) f.row_x f.bank_width both.1 (row_to plan kit wire tracks f g))

  abbrev IsOfBank : Shape → Type 0
  IsOfBank = IsBankKind plan kit wire tracks f g

  tap_wire : (s : Shape) → IsTapWire plan kit wire tracks.column f s → IsOfBank s
  tap_wire s t = of t.drawn where
    of : IsBox (slice_index wire.metals 2) t.x t.y t.end (t.y +ℤ wire.width) s ⊎ IsVia wire 2 t.x t.y s → IsOfBank s
    of (inl box) = let tap = tap_at t.x t.y t.end t.tap in inl (box_within (slice_index wire.metals 2) t.x t.y t.end (t.y +ℤ wire.width) (pitch wire) (pos 0) f.bank_width (upper_y kit f) s box (rail_at t.x t.y t.end t.tap).0 tap.above tap.to tap.below)
    of (inr via) = inr (inr (via_cut wire 2 t.x t.y s (omega arith) via))

  write_low : pos 0 ≤ℤ f.write_y
  write_low = let r = rises plan kit wire tracks f g in let a = r.wire in let b = r.to_inv in let c = r.to_write in omega (arith, ints, a, b, c)

  rail_wire : (s : Shape) → IsRailWire plan kit wire tracks.column f s → IsOfBank s
  rail_wire s r =
      let rail = rail_at r.x r.y r.end r.tap in
      inl (box_within (slice_index wire.metals 3) r.x f.write_y (r.x +ℤ wire.width) (r.y +ℤ wire.width) (pitch wire) (pos 0) f.bank_width (upper_y kit f) s r.drawn rail.0 write_low rail.1 (tap_at r.x r.y r.end r.tap).below)

  output_wire : (s : Shape) → IsOutputWire plan kit wire f s → IsOfBank s
  output_wire s o =
      let within = sense_pin plan kit wire tracks f g o.bit 2 3 o.net o.rect.x1 (record { rect = o.rect; is = o.pin; begins = refl }) in
      let both = begins_within plan kit wire tracks f g f.row_x f.bank_width (column_channel_y kit f) o.rect.x1 o.rect within refl in
      inr (inl (wide_box wire 3 o.rect.x1 f.write_y (o.rect.x1 +ℤ wire.width) f.sense_y (pitch wire) (f.bank_width +ℤ wire.width) (upper_y kit f) s (omega arith) not_fourth o.drawn
      (chain (pitch wire) f.row_x o.rect.x1 (row_from plan kit wire tracks f g) both.0) write_low (wire_behind o.rect.x1 wire.width f.bank_width both.1) (sense_upper plan kit wire tracks f g)))

  -- Joiners

  columns_to : columns_end plan kit f ≤ℤ f.bank_width
  columns_to = let is = g.stands.bank_width in omega (arith, ints, is)

  columns_from : pitch wire ≤ℤ columns_x plan kit f
  columns_from = chain (pitch wire) f.row_x (columns_x plan kit f) (row_from plan kit wire tracks f g) (reaches plan kit wire tracks f g).to_columns

  joiner_low : (y : ℤ) → f.write_y ≤ℤ y → pos 0 ≤ℤ (y -ℤ wire.width)
  joiner_low y le = let r = rises plan kit wire tracks f g in let a = r.to_inv in let b = r.to_write in omega (arith, ints, a, b, le)

  write_joiner : (s : Shape) → IsWriteJoiner plan kit wire f s → IsOfBank s
  write_joiner s (written, is) =
      inl (box_within (slice_index wire.metals 0) (columns_x plan kit f) (f.sense_y -ℤ wire.width) (columns_end plan kit f) f.sense_y (pitch wire) (pos 0) f.bank_width (upper_y kit f) s is columns_from (joiner_low f.sense_y (rises plan kit wire tracks f g).to_sense) columns_to (sense_upper plan kit wire tracks f g))

  corner_joiner : (s : Shape) → IsCornerJoiner plan kit wire f s → IsOfBank s
  corner_joiner s is =
      let r = rises plan kit wire tracks f g in
      let a = r.to_sense in
      let b = r.to_channel in
      let c = r.to_column in
      let d = r.to_array in
      let w = r.wire in
      inl (box_within (slice_index wire.metals 0) f.row_x (f.array_y -ℤ wire.width) (columns_end plan kit f) f.array_y (pitch wire) (pos 0) f.bank_width (upper_y kit f) s is (row_from plan kit wire tracks f g) (joiner_low f.array_y (omega (arith, ints, a, b, c, d, w))) columns_to (array_upper plan kit wire tracks f g))

  bank_wire : (s : Shape) → IsWireInBank plan kit wire tracks f s → IsOfBank s
  bank_wire s (inl is) = column_wire plan kit wire tracks f g s is
  bank_wire s (inr (inl is)) = tap_wire s is
  bank_wire s (inr (inr (inl is))) = rail_wire s is
  bank_wire s (inr (inr (inr (inl is)))) = output_wire s is
  bank_wire s (inr (inr (inr (inr (inl is))))) = write_joiner s is
  bank_wire s (inr (inr (inr (inr (inr is))))) = corner_joiner s is

  -- a wire of any bank
  pub banks_wire : (s : Shape) → IsWireInBanks plan kit wire tracks f s → IsPlain wire (pitch wire) (contents_end plan kit f) (contents_end plan kit f +ℤ wire.width) (upper_y kit f) s
  banks_wire s w =
      let end = bank_to plan kit wire tracks f g w.bank w.below in
      plain_shifts wire (pos w.bank *ℤ f.bank_width) (pitch wire) f.bank_width (f.bank_width +ℤ wire.width) (upper_y kit f) (pitch wire) (contents_end plan kit f) (contents_end plan kit f +ℤ wire.width) w.inner s w.shifted (bank_wire w.inner w.is)
      (bank_from plan kit wire tracks f g w.bank (pitch wire) (omega (arith, ints))) end (later f.bank_width (pos w.bank *ℤ f.bank_width) wire.width (contents_end plan kit f) end)
    where
      later : (b dx w end : ℤ) → (b +ℤ dx) ≤ℤ end → ((b +ℤ w) +ℤ dx) ≤ℤ (end +ℤ w)
      later b dx w end le = omega (arith, ints, le)
