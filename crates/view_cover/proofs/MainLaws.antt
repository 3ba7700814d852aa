-- The main channel's wires lie within the macro's contents, but for a port's trunk, which begins at the left side.
use Rattle.std.proofs.Common.{◌≡◌, ◌⊎◌, inl, inr, ℕ, ◌<◌, ℤ, pos, ◌+ℤ◌, ◌*ℤ◌, ◌≤ℤ◌, ◌<ℤ◌, List, length, refl, sym, subst, arith}
use Rattle.std.specs.Prelude.{slice_index}
use Rattle.std.proofs.lemmas.Int.{ints}
use Rattle.std.proofs.lemmas.Option.{slice_get_within}
use Rattle.or_geom.specs.declared.shape.Shape.{Shape}
use Rattle.cell_roles.specs.declared.role.Role.TheVariants.{Inv}
use Rattle.tech_rules.specs.declared.tech.Wire.{Wire}
use Rattle.wire_drawing.specs.Drawing.{pitch}
use Rattle.channel_router.specs.declared.channel.Channel.{Channel}
use Rattle.channel_router.specs.declared.channel.Interval.{Interval}
use Rattle.channel_router.specs.Channel.{IsPinOf, places}
use Rattle.channel_router.specs.Tracks.{HasTrack}
use Rattle.channel_router.specs.Wires.{channel_height, track_y, IsTrunk, IsTopBranch, IsBottomBranch}
use Rattle.sram_netlist.specs.Organization.{Organization, banks_of}
use Rattle.sram_netlist.specs.Nets.{Net}
use Rattle.sram_netlist.specs.Instances.{LeafInstance, SenseAt, WriteAt, LogicAt}
use Rattle.sram_netlist.specs.Netlist.{logic_role}
use Rattle.sram_netlist.specs.InstanceList.{logic_cells}
use Rattle.macro_layout.specs.LayoutKit.{LayoutKit}
use Rattle.macro_layout.specs.Places.{Floorplan, bank_x, total_width}
use Rattle.macro_layout.specs.Floorplan.{Tracks, rail_count, rail_x, upper_y}
use Rattle.macro_layout.specs.Pins.{IsRailOf, rail_nets, port_nets}
use Rattle.macro_layout.specs.Channels.{IsPinFrom, IsRoutedBy, IsChannelWire, IsTrunkAt, MeetsMainTopOfBanks, MeetsMainBottom, IsMainChannel}
use Rattle.view_cover.specs.Bits.{LiesWithin}
use Rattle.view_cover.proofs.PlaceLaws.{box_within, width_within}
use Rattle.view_cover.proofs.FitLaws.{AreGiven, contents_end, track_fits, track_above, rail_before, rail_from, logic_ends}
use Rattle.view_cover.proofs.LeafLaws.{bank_from, bank_to, write_upper, pin_within, begins_within, logic_is, leaf_stands, logic_stands}
use Rattle.view_cover.proofs.KindLaws.{IsPlain, via_cut, wide_box, not_third, not_fourth, rails_count, pin_cases, wire_behind, behind_wire, chain}
use Rattle.view_cover.proofs.ColumnLaws.{row_to}

module _ (plan : Organization) (kit : LayoutKit) (wire : Wire) (tracks : Tracks) (f : Floorplan) (g : AreGiven plan kit wire tracks f) where
  -- the trunk of a signal port, which begins at the macro's left side
  pub record IsPortTrunk (s : Shape) : Type 0 where
    pub number : ℕ
    pub port : number < length (port_nets plan)
    pub y : ℤ
    pub trunk : IsTrunkAt (IsMainChannel plan kit wire f) wire tracks.main number y
    pub on : s.layer ≡ slice_index wire.metals 2
    pub low : s.rect.y1 ≡ y
    pub high : s.rect.y2 ≡ y +ℤ wire.width
    pub within : LiesWithin (pos 0) (pos 0) (contents_end plan kit f +ℤ wire.width) (upper_y kit f) s.rect

  -- the wires of the main channel, but for those trunks
  abbrev pub IsMainKind : Shape → Type 0
  IsMainKind = IsPlain wire (pitch wire) (contents_end plan kit f) (contents_end plan kit f +ℤ wire.width) (upper_y kit f)

  main_one : pos 1 ≤ℤ wire.width
  main_one = g.sizes.width.from

  -- x is a place of a pin or a rail
  abbrev IsMainPlace : ℤ → Type 0
  IsMainPlace x = (pitch wire ≤ℤ x) × (x <ℤ contents_end plan kit f)

  below_end : (x b end : ℤ) → x <ℤ b → b ≤ℤ end → x <ℤ end
  below_end x b end lt le = omega (arith, ints, lt, le)

  further : (x y dx : ℤ) → x <ℤ y → (x +ℤ dx) <ℤ (y +ℤ dx)
  further x y dx lt = omega (arith, ints, lt)

  first_end : pos 0 <ℤ contents_end plan kit f
  first_end =
      let end = logic_ends (pos (banks_of plan) *ℤ f.bank_width) (f.logic_x +ℤ pos (total_width plan kit (logic_cells plan))) in
      by f.logic_x wire.width wire.space (contents_end plan kit f) (total_width plan kit (logic_cells plan)) g.stands.logic_x g.sizes.width.from g.sizes.space.from end
    where
      by : (x w s end : ℤ) (n : ℕ) → x ≡ w +ℤ s → pos 1 ≤ℤ w → pos 1 ≤ℤ s → (x +ℤ pos n) ≤ℤ end → pos 0 <ℤ end
      by x w s end n is a b le = omega (arith, ints, is, a, b, le)

  leaf_place : (leaf : LeafInstance) (port metal : ℕ) (net : Net) (x : ℤ) → IsPinFrom plan kit f leaf port metal net x → IsMainPlace x
  leaf_place leaf port metal net x from =
      let stands = leaf_stands plan kit wire tracks f g leaf from.is.place from.is.has from.is.stands in
      begins_within plan kit wire tracks f g (pitch wire) (contents_end plan kit f) (upper_y kit f) x from.rect (pin_within plan kit wire tracks f g leaf port metal net (pitch wire) (contents_end plan kit f) (upper_y kit f) x from stands) from.begins

  -- the rails of bank b
  rail_main : (b : ℕ) (net : Net) (x : ℤ) → b < banks_of plan → IsRailOf plan wire f b net x → IsMainPlace x
  rail_main b net x lt r =
      let count = rails_count plan b in
      let within = slice_get_within (rail_nets plan b) r.rail net r.on in
      let room = rail_before wire r.rail (rail_count plan) g.sizes (omega (arith, within, count)) in
      let row = subst (λ (z : ℤ). (rail_x wire r.rail +ℤ wire.width) ≤ℤ z) (sym g.stands.row_x) room in
      let bank = chain (rail_x wire r.rail +ℤ wire.width) f.row_x f.bank_width row (row_to plan kit wire tracks f g) in
      let before = behind_wire (rail_x wire r.rail) wire.width f.bank_width bank main_one in (
        subst (λ (z : ℤ). pitch wire ≤ℤ z) (sym r.at) (bank_from plan kit wire tracks f g b (rail_x wire r.rail) (rail_from wire r.rail g.sizes)),
        subst (λ (z : ℤ). z <ℤ contents_end plan kit f) (sym r.at) (below_end (bank_x f b (rail_x wire r.rail)) (bank_x f b f.bank_width) (contents_end plan kit f) (further (rail_x wire r.rail) f.bank_width (pos b *ℤ f.bank_width) before) (bank_to plan kit wire tracks f g b lt)),
      )

  main_top : (net : Net) (x : ℤ) → MeetsMainTopOfBanks plan kit wire f net x → IsMainPlace x
  main_top net x (b, lt, inl rail) = rail_main b net x lt rail
  main_top net x (b, lt, inr (inl p)) = leaf_place (WriteAt b p.0) 0 3 net x p.1
  main_top net x (b, lt, inr (inr (inl p))) = leaf_place (WriteAt b p.0) 3 3 net x p.1
  main_top net x (b, lt, inr (inr (inr p))) = leaf_place (SenseAt b p.0) 2 3 net x p.1

  main_bottom : (net : Net) (x : ℤ) → MeetsMainBottom plan kit f net x → IsMainPlace x
  main_bottom net x (cell, port, from) = leaf_place (LogicAt cell) port 1 net x from

  -- a bottom pin's wire on the second metal ends in its cell
  logic_room : (net : Net) (x : ℤ) → MeetsMainBottom plan kit f net x → (x +ℤ wire.width) ≤ℤ contents_end plan kit f
  logic_room net x (cell, port, from) =
      subst (λ (z : ℤ). (z +ℤ wire.width) ≤ℤ contents_end plan kit f) (sym from.begins)
      (width_within (pitch wire) (contents_end plan kit f) (pos (kit.height Inv)) wire.width (kit.width (logic_role plan cell)) (kit.height (logic_role plan cell)) from.is.place (kit.pin (logic_role plan cell) port 1) from.rect (logic_stands plan kit wire tracks f g cell from.is.place from.is.stands) (g.fits.logic_across (logic_role plan cell) (logic_is plan cell) port) from.is.image)

  abbrev Leaves : ℕ → ℤ → Type 0
  Leaves number x = (number < length (port_nets plan)) × (x ≡ pos 0)

  place_or_left : (ch : Channel) → IsMainChannel plan kit wire f ch → (number : ℕ) (x : ℤ) → IsPinOf (places ch) number x → IsMainPlace x ⊎ Leaves number x
  place_or_left ch is number x p = elim (pin_cases ch number x p) [
    | inl a ↦ let m = (is.top number x).0 a in inl (main_top m.0 x m.2)
    | inr rest ↦ elim rest [
      | inl b ↦ let m = (is.bottom number x).0 b in inl (main_bottom m.0 x m.2)
      | inr c ↦ let m = (is.exits number x).0 c in inr (m.port, m.left)
    ]
  ]

  ends_before : (number : ℕ) (x : ℤ) → IsMainPlace x ⊎ Leaves number x → x <ℤ contents_end plan kit f
  ends_before number x (inl place) = place.1
  ends_before number x (inr left) = subst (λ (z : ℤ). z <ℤ contents_end plan kit f) (sym left.1) first_end

  inv_low : pos 0 ≤ℤ pos (kit.height Inv)
  inv_low = omega (arith, ints)

  main_y : (ch : Channel) (t : ℕ) → IsMainChannel plan kit wire f ch → t < tracks.main → (pos 0 ≤ℤ track_y ch.low wire t) × ((track_y ch.low wire t +ℤ wire.width) ≤ℤ f.write_y)
  main_y ch t is lt =
      let above = track_above ch.low wire t g.sizes in
      let below = track_fits ch.low wire t tracks.main g.sizes lt in
      (chain (pos 0) ch.low (track_y ch.low wire t) (subst (λ (z : ℤ). pos 0 ≤ℤ z) (sym is.low) inv_low) above, by (track_y ch.low wire t) wire.width ch.low (channel_height wire tracks.main) (pos (kit.height Inv)) f.write_y below is.low g.stands.write_y)
    where
      by : (y w low h from to : ℤ) → (y +ℤ w) ≤ℤ (low +ℤ h) → low ≡ from → to ≡ from +ℤ h → (y +ℤ w) ≤ℤ to
      by y w low h from to le p q = omega (arith, ints, le, p, q)

  y_upper : (y : ℤ) → y ≤ℤ f.write_y → y ≤ℤ upper_y kit f
  y_upper y le = chain y f.write_y (upper_y kit f) le (write_upper plan kit wire tracks f g)

  main_trunk : (ch : Channel) (intervals : List Interval) (track : List ℕ) (interval : Interval) (number t : ℕ) (s : Shape) → IsRoutedBy (IsMainChannel plan kit wire f) wire tracks.main ch intervals track → HasTrack intervals track number interval t → IsTrunk ch.low wire interval t s
      → IsMainKind s ⊎ IsPortTrunk s
  main_trunk ch intervals track interval number t s routed has drawn =
      let of = routed.nets.of_net number interval has.there in
      let lt = routed.count.below number t has.on in
      let ys = main_y ch t routed.meant lt in
      let right = ends_before number interval.right (place_or_left ch routed.meant number interval.right of.ends) in
      let end = wire_behind interval.right wire.width (contents_end plan kit f) right in
      let up = y_upper (track_y ch.low wire t +ℤ wire.width) ys.1 in
      by (place_or_left ch routed.meant number interval.left of.begins) ys.0 end up
    where
      by : IsMainPlace interval.left ⊎ Leaves number interval.left → pos 0 ≤ℤ track_y ch.low wire t → (interval.right +ℤ wire.width) ≤ℤ (contents_end plan kit f +ℤ wire.width) → (track_y ch.low wire t +ℤ wire.width) ≤ℤ upper_y kit f → IsMainKind s ⊎ IsPortTrunk s
      by (inl place) low end up = inl (inr (inl (wide_box wire 2 interval.left (track_y ch.low wire t) (interval.right +ℤ wire.width) (track_y ch.low wire t +ℤ wire.width) (pitch wire) (contents_end plan kit f +ℤ wire.width) (upper_y kit f) s (omega arith) not_third drawn place.0 low end up)))
      by (inr left) low end up = inr (record {
        number = number;
        port = left.0;
        y = track_y ch.low wire t;
        trunk = record { channel = ch; intervals = intervals; track = track; routed = routed; interval = interval; on = t; has = has; at = refl };
        on = drawn.on;
        low = drawn.low;
        high = drawn.high;
        within = box_within (slice_index wire.metals 2) interval.left (track_y ch.low wire t) (interval.right +ℤ wire.width) (track_y ch.low wire t +ℤ wire.width) (pos 0) (pos 0) (contents_end plan kit f +ℤ wire.width) (upper_y kit f) s drawn (let e = left.1 in omega (arith, ints, e)) low end up;
      })

  main_up : (ch : Channel) → IsMainChannel plan kit wire f ch → (ch.low +ℤ channel_height wire tracks.main) ≤ℤ upper_y kit f
  main_up ch is = by ch.low (channel_height wire tracks.main) (pos (kit.height Inv)) f.write_y (upper_y kit f) is.low g.stands.write_y (write_upper plan kit wire tracks f g) where
    by : (low h from to up : ℤ) → low ≡ from → to ≡ from +ℤ h → to ≤ℤ up → (low +ℤ h) ≤ℤ up
    by low h from to up p q le = omega (arith, ints, p, q, le)

  main_branch : (ch : Channel) (number t : ℕ) (x : ℤ) (s : Shape) → IsMainChannel plan kit wire f ch → t < tracks.main → IsPinOf ch.top number x → IsTopBranch ch.low wire tracks.main t x s → IsMainKind s
  main_branch ch number t x s is lt p (inl drawn) =
      let m = (is.top number x).0 p in
      let place = main_top m.0 x m.2 in
      inr (inl (wide_box wire 3 x (track_y ch.low wire t) (x +ℤ wire.width) (ch.low +ℤ channel_height wire tracks.main) (pitch wire) (contents_end plan kit f +ℤ wire.width) (upper_y kit f) s (omega arith) not_fourth drawn
      place.0 (main_y ch t is lt).0 (wire_behind x wire.width (contents_end plan kit f) place.1) (main_up ch is)))
  main_branch ch number t x s is lt p (inr drawn) = inr (inr (via_cut wire 2 x (track_y ch.low wire t) s (omega arith) drawn))

  main_root : (ch : Channel) (number t : ℕ) (x : ℤ) (s : Shape) → IsMainChannel plan kit wire f ch → t < tracks.main → IsPinOf ch.bottom number x → IsBottomBranch ch.low wire t x s → IsMainKind s
  main_root ch number t x s is lt p (inl drawn) =
      let m = (is.bottom number x).0 p in
      inl (box_within (slice_index wire.metals 1) x ch.low (x +ℤ wire.width) (track_y ch.low wire t +ℤ wire.width) (pitch wire) (pos 0) (contents_end plan kit f) (upper_y kit f) s drawn
      (main_bottom m.0 x m.2).0 (subst (λ (z : ℤ). pos 0 ≤ℤ z) (sym is.low) inv_low) (logic_room m.0 x m.2) (y_upper (track_y ch.low wire t +ℤ wire.width) (main_y ch t is lt).1))
  main_root ch number t x s is lt p (inr drawn) = inr (inr (via_cut wire 1 x (track_y ch.low wire t) s (omega arith) drawn))

  pub main_wire : (s : Shape) → IsChannelWire (IsMainChannel plan kit wire f) wire tracks.main s → IsMainKind s ⊎ IsPortTrunk s
  main_wire s c =
      let d = c.drawn in
      let is = c.routed.meant in
      let lt = c.routed.count.below c.net d.t d.has.on in
      elim d.wires [
        | inl trunk ↦ main_trunk c.channel c.intervals c.track d.interval c.net d.t s c.routed d.has trunk
        | inr rest ↦ elim rest [
          | inl top ↦ inl (main_branch c.channel c.net d.t top.0 s is lt top.1 top.2)
          | inr bottom ↦ inl (main_root c.channel c.net d.t bottom.0 s is lt bottom.1 bottom.2)
        ]
      ]
