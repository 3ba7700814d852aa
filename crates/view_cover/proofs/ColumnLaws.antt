-- The column channel's wires lie within bank 0, and those on the second metal end where its columns do.
use Rattle.std.proofs.Common.{◌≡◌, inl, inr, ℕ, zero, suc, ◌<◌, ℤ, pos, ◌+ℤ◌, ◌≤ℤ◌, ◌<ℤ◌, sym, subst, ◌∙◌, arith}
use Rattle.std.specs.Prelude.{slice_index}
use Rattle.std.proofs.lemmas.Int.{ints}
use Rattle.std.proofs.lemmas.Option.{slice_get_within}
use Rattle.or_geom.specs.declared.shape.Rect.{Rect}
use Rattle.or_geom.specs.declared.shape.Shape.{Shape}
use Rattle.or_geom.specs.declared.place.Place.{Place}
use Rattle.cell_roles.specs.declared.role.Role.TheVariants.{Mux, Tie, Sense}
use Rattle.tech_rules.specs.declared.tech.Wire.{Wire}
use Rattle.wire_drawing.specs.Drawing.{pitch}
use Rattle.channel_router.specs.declared.channel.Channel.{Channel}
use Rattle.channel_router.specs.declared.channel.Interval.{Interval}
use Rattle.channel_router.specs.Channel.{IsPinOf, places}
use Rattle.channel_router.specs.Intervals.{IsIntervalOf}
use Rattle.channel_router.specs.Wires.{channel_height, track_y, IsTrunk, IsTopBranch, IsBottomBranch}
use Rattle.sram_netlist.specs.Organization.{Organization}
use Rattle.sram_netlist.specs.Nets.{Net}
use Rattle.sram_netlist.specs.Instances.{SenseAt}
use Rattle.sram_netlist.specs.Netlist.{role}
use Rattle.sram_netlist.specs.Membership.{HasLeafInstance}
use Rattle.macro_layout.specs.LayoutKit.{LayoutKit}
use Rattle.macro_layout.specs.Places.{Floorplan, columns_x, IsPlaceOf}
use Rattle.macro_layout.specs.Floorplan.{Tracks, rail_count, rail_x, column_channel_y, upper_y}
use Rattle.macro_layout.specs.Cells.{column_leaf}
use Rattle.macro_layout.specs.Pins.{IsRailOf, rail_nets}
use Rattle.macro_layout.specs.Channels.{IsPinFrom, MeetsColumnTop, MeetsColumnBottom, IsColumnChannel, IsChannelWire}
use Rattle.view_cover.specs.Bits.{LiesWithin}
use Rattle.view_cover.proofs.PlaceLaws.{box_within, StandsIn, width_within}
use Rattle.view_cover.proofs.FitLaws.{AreGiven, rises, reaches, track_fits, track_above, rail_before, rail_from}
use Rattle.view_cover.proofs.LeafLaws.{sense_stands, mux_stands, tie_stands, InBank, array_upper, pin_within, begins_within}
use Rattle.view_cover.proofs.KindLaws.{IsPlain, via_cut, wide_box, not_third, not_fourth, rails_count, pin_cases, wire_behind, behind_wire, chain, home}

module _ (plan : Organization) (kit : LayoutKit) (wire : Wire) (tracks : Tracks) (f : Floorplan) (g : AreGiven plan kit wire tracks f) where
  -- the wires of bank 0
  abbrev pub IsBankKind : Shape → Type 0
  IsBankKind = IsPlain wire (pitch wire) f.bank_width (f.bank_width +ℤ wire.width) (upper_y kit f)

  abbrev pub AtHome : ℤ → ℕ → ℕ → Place → Type 0
  AtHome high = StandsIn f.row_x f.bank_width high

  pub from_bank : (high : ℤ) (w h : ℕ) (place : Place) → InBank plan kit wire tracks f g 0 high w h place → AtHome high w h place
  from_bank high w h place is = record { x = is.x; y = is.y; at = is.at; from = subst (λ (z : ℤ). z ≤ℤ is.x) (home f f.row_x) is.from; to = subst (λ (z : ℤ). (is.x +ℤ pos w) ≤ℤ z) (home f f.bank_width) is.to; above = is.above; below = is.below }

  pub row_from : pitch wire ≤ℤ f.row_x
  row_from = (reaches plan kit wire tracks f g).to_row

  pub one : pos 1 ≤ℤ wire.width
  one = g.sizes.width.from

  -- x is a place of a pin or a rail in the bank
  abbrev pub IsBankPlace : ℤ → Type 0
  IsBankPlace x = (pitch wire ≤ℤ x) × (x <ℤ f.bank_width)

  pub within_place : (high x : ℤ) (r : Rect) → LiesWithin f.row_x (pos 0) f.bank_width high r → x ≡ r.x1 → IsBankPlace x
  within_place high x r is at = let both = begins_within plan kit wire tracks f g f.row_x f.bank_width high x r is at in (chain (pitch wire) f.row_x x row_from both.0, both.1)

  -- Rails

  pub rail_within : (net : Net) (x : ℤ) → IsRailOf plan wire f 0 net x → (pitch wire ≤ℤ x) × ((x +ℤ wire.width) ≤ℤ f.row_x)
  rail_within net x r =
      let count = rails_count plan 0 in
      let within = slice_get_within (rail_nets plan 0) r.rail net r.on in
      let is = r.at ∙ home f (rail_x wire r.rail) in
      let room = rail_before wire r.rail (rail_count plan) g.sizes (omega (arith, within, count)) in
      (subst (λ (z : ℤ). pitch wire ≤ℤ z) (sym is) (rail_from wire r.rail g.sizes), by x (rail_x wire r.rail) wire.width (rail_x wire (rail_count plan)) f.row_x is room g.stands.row_x)
    where
      by : (x a w b row : ℤ) → x ≡ a → (a +ℤ w) ≤ℤ b → row ≡ b → (x +ℤ w) ≤ℤ row
      by x a w b row p le q = omega (arith, ints, p, le, q)

  pub row_to : f.row_x ≤ℤ f.bank_width
  row_to = let r = reaches plan kit wire tracks f g in chain f.row_x (columns_x plan kit f) f.bank_width r.to_columns r.to_bank

  pub rail_place : (net : Net) (x : ℤ) → IsRailOf plan wire f 0 net x → IsBankPlace x
  rail_place net x r = let both = rail_within net x r in (both.0, behind_wire x wire.width f.bank_width (chain (x +ℤ wire.width) f.row_x f.bank_width both.1 row_to) one)

  -- The column channel

  column_home : (n c : ℕ) (place : Place) → HasLeafInstance plan (column_leaf n 0 c) → IsPlaceOf plan kit f (column_leaf n 0 c) place → AtHome f.array_y (kit.width (role plan (column_leaf n 0 c))) (kit.height (role plan (column_leaf n 0 c))) place
  column_home zero c place has at = from_bank f.array_y (kit.width Tie) (kit.height Tie) place (tie_stands plan kit wire tracks f g 0 c place has at)
  column_home (suc n) c place has at = from_bank f.array_y (kit.width Mux) (kit.height Mux) place (mux_stands plan kit wire tracks f g 0 c place has at)

  pub sense_home : (i : ℕ) (place : Place) → HasLeafInstance plan (SenseAt 0 i) → IsPlaceOf plan kit f (SenseAt 0 i) place → AtHome (column_channel_y kit f) (kit.width Sense) (kit.height Sense) place
  sense_home i place has at = from_bank (column_channel_y kit f) (kit.width Sense) (kit.height Sense) place (sense_stands plan kit wire tracks f g 0 i place has at)

  column_top : (net : Net) (x : ℤ) → MeetsColumnTop plan kit f net x → IsBankPlace x
  column_top net x (c, port, from) =
      let stands = column_home plan.col_bits c from.is.place from.is.has from.is.stands in
      within_place f.array_y x from.rect (pin_within plan kit wire tracks f g (column_leaf plan.col_bits 0 c) port 3 net f.row_x f.bank_width f.array_y x from stands) from.begins

  pub sense_pin : (i port metal : ℕ) (net : Net) (x : ℤ) (from : IsPinFrom plan kit f (SenseAt 0 i) port metal net x) → LiesWithin f.row_x (pos 0) f.bank_width (column_channel_y kit f) from.rect
  sense_pin i port metal net x from = pin_within plan kit wire tracks f g (SenseAt 0 i) port metal net f.row_x f.bank_width (column_channel_y kit f) x from (sense_home i from.is.place from.is.has from.is.stands)

  column_bottom : (net : Net) (x : ℤ) → MeetsColumnBottom plan kit f net x → IsBankPlace x
  column_bottom net x (i, port, from) = within_place (column_channel_y kit f) x from.rect (sense_pin i port 1 net x from) from.begins

  -- a bottom pin's wire on the second metal ends in its cell
  bottom_room : (net : Net) (x : ℤ) → MeetsColumnBottom plan kit f net x → (x +ℤ wire.width) ≤ℤ f.bank_width
  bottom_room net x (i, port, from) =
      subst (λ (z : ℤ). (z +ℤ wire.width) ≤ℤ f.bank_width) (sym from.begins)
      (width_within f.row_x f.bank_width (column_channel_y kit f) wire.width (kit.width Sense) (kit.height Sense) from.is.place (kit.pin Sense port 1) from.rect (sense_home i from.is.place from.is.has from.is.stands) (g.fits.sense_across port) from.is.image)

  place_of : (ch : Channel) → IsColumnChannel plan kit wire f ch → (net : ℕ) (x : ℤ) → IsPinOf (places ch) net x → IsBankPlace x
  place_of ch is net x p = elim (pin_cases ch net x p) [
    | inl a ↦ let m = (is.top net x).0 a in column_top m.0 x m.2
    | inr rest ↦ elim rest [
      | inl b ↦ let m = (is.bottom net x).0 b in column_bottom m.0 x m.2
      | inr c ↦ let m = (is.exits net x).0 c in rail_place m.0 x m.2
    ]
  ]

  pub channel_y : (ch : Channel) (t : ℕ) → IsColumnChannel plan kit wire f ch → t < tracks.column → (column_channel_y kit f ≤ℤ track_y ch.low wire t) × ((track_y ch.low wire t +ℤ wire.width) ≤ℤ f.column_y)
  channel_y ch t is lt =
      let above = track_above ch.low wire t g.sizes in
      let below = track_fits ch.low wire t tracks.column g.sizes lt in
      let low = is.low in
      (subst (λ (z : ℤ). z ≤ℤ track_y ch.low wire t) low above, by (track_y ch.low wire t) wire.width ch.low (channel_height wire tracks.column) (column_channel_y kit f) f.column_y below low g.stands.column_y)
    where
      by : (y w low h from to : ℤ) → (y +ℤ w) ≤ℤ (low +ℤ h) → low ≡ from → to ≡ from +ℤ h → (y +ℤ w) ≤ℤ to
      by y w low h from to le p q = omega (arith, ints, le, p, q)

  pub channel_low : pos 0 ≤ℤ column_channel_y kit f
  channel_low = let r = rises plan kit wire tracks f g in let a = r.wire in let b = r.to_inv in let c = r.to_write in let d = r.to_sense in let e = r.to_channel in omega (arith, ints, a, b, c, d, e)

  pub column_upper : f.column_y ≤ℤ upper_y kit f
  column_upper = let a = array_upper plan kit wire tracks f g in let r = rises plan kit wire tracks f g in let b = r.to_array in let c = r.wire in omega (arith, ints, a, b, c)

  column_trunk : (ch : Channel) (interval : Interval) (net t : ℕ) (s : Shape) → IsColumnChannel plan kit wire f ch → IsIntervalOf (places ch) net interval → t < tracks.column → IsTrunk ch.low wire interval t s → IsBankKind s
  column_trunk ch interval net t s is of lt drawn =
      let left = place_of ch is net interval.left of.begins in
      let right = place_of ch is net interval.right of.ends in
      let y = channel_y ch t is lt in
      inr (inl (wide_box wire 2 interval.left (track_y ch.low wire t) (interval.right +ℤ wire.width) (track_y ch.low wire t +ℤ wire.width) (pitch wire) (f.bank_width +ℤ wire.width) (upper_y kit f) s (omega arith) not_third drawn
      left.0 (chain (pos 0) (column_channel_y kit f) (track_y ch.low wire t) channel_low y.0) (wire_behind interval.right wire.width f.bank_width right.1) (chain (track_y ch.low wire t +ℤ wire.width) f.column_y (upper_y kit f) y.1 column_upper)))

  column_up : (ch : Channel) → IsColumnChannel plan kit wire f ch → (ch.low +ℤ channel_height wire tracks.column) ≤ℤ upper_y kit f
  column_up ch is = by ch.low (channel_height wire tracks.column) (column_channel_y kit f) f.column_y (upper_y kit f) is.low g.stands.column_y column_upper where
    by : (low h from to up : ℤ) → low ≡ from → to ≡ from +ℤ h → to ≤ℤ up → (low +ℤ h) ≤ℤ up
    by low h from to up p q le = omega (arith, ints, p, q, le)

  column_branch : (ch : Channel) (net t : ℕ) (x : ℤ) (s : Shape) → IsColumnChannel plan kit wire f ch → t < tracks.column → IsPinOf ch.top net x → IsTopBranch ch.low wire tracks.column t x s → IsBankKind s
  column_branch ch net t x s is lt p (inl drawn) =
      let m = (is.top net x).0 p in
      let place = column_top m.0 x m.2 in
      let y = channel_y ch t is lt in
      inr (inl (wide_box wire 3 x (track_y ch.low wire t) (x +ℤ wire.width) (ch.low +ℤ channel_height wire tracks.column) (pitch wire) (f.bank_width +ℤ wire.width) (upper_y kit f) s (omega arith) not_fourth drawn
      place.0 (chain (pos 0) (column_channel_y kit f) (track_y ch.low wire t) channel_low y.0) (wire_behind x wire.width f.bank_width place.1) (column_up ch is)))
  column_branch ch net t x s is lt p (inr drawn) = inr (inr (via_cut wire 2 x (track_y ch.low wire t) s (omega arith) drawn))

  column_root : (ch : Channel) (net t : ℕ) (x : ℤ) (s : Shape) → IsColumnChannel plan kit wire f ch → t < tracks.column → IsPinOf ch.bottom net x → IsBottomBranch ch.low wire t x s → IsBankKind s
  column_root ch net t x s is lt p (inl drawn) =
      let m = (is.bottom net x).0 p in
      let place = column_bottom m.0 x m.2 in
      let y = channel_y ch t is lt in
      inl (box_within (slice_index wire.metals 1) x ch.low (x +ℤ wire.width) (track_y ch.low wire t +ℤ wire.width) (pitch wire) (pos 0) f.bank_width (upper_y kit f) s drawn
      place.0 (subst (λ (z : ℤ). pos 0 ≤ℤ z) (sym is.low) channel_low) (bottom_room m.0 x m.2) (chain (track_y ch.low wire t +ℤ wire.width) f.column_y (upper_y kit f) y.1 column_upper))
  column_root ch net t x s is lt p (inr drawn) = inr (inr (via_cut wire 1 x (track_y ch.low wire t) s (omega arith) drawn))

  pub column_wire : (s : Shape) → IsChannelWire (IsColumnChannel plan kit wire f) wire tracks.column s → IsBankKind s
  column_wire s c =
      let d = c.drawn in
      let is = c.routed.meant in
      let lt = c.routed.count.below c.net d.t d.has.on in
      elim d.wires [
        | inl trunk ↦ column_trunk c.channel d.interval c.net d.t s is (c.routed.nets.of_net c.net d.interval d.has.there) lt trunk
        | inr rest ↦ elim rest [
          | inl top ↦ column_branch c.channel c.net d.t top.0 s is lt top.1 top.2
          | inr bottom ↦ column_root c.channel c.net d.t bottom.0 s is lt bottom.1 bottom.2
        ]
      ]
