-- Pins at the column channel: each is joined with the channel's wires of its net, in each bank.
use Rattle.std.proofs.Common.{◌≡◌, inl, inr, ℕ, ◌*◌, ◌<◌, ℤ, pos, negsuc, ◌+ℤ◌, ◌*ℤ◌, List, Contains, Some, refl, ap, subst, ◌∙◌, arith}
use Rattle.std.specs.Prelude.{slice_get, slice_index}
use Rattle.std.proofs.lemmas.Int.{ints}
use Rattle.or_geom.specs.declared.shape.Shape.{Shape}
use Rattle.or_geom.specs.declared.place.Place.{Place}
use Rattle.tech_rules.specs.declared.tech.Tech.{Tech}
use Rattle.tech_rules.specs.declared.tech.Wire.{Wire}
use Rattle.wire_drawing.specs.Drawing.{IsBox, pitch}
use Rattle.tech_rules.specs.Facts.{AreSizes}
use Rattle.tech_rules.specs.Net.{AreOnOneNet}
use Rattle.cell_hierarchy.specs.Plain.{FlatLists}
use Rattle.cell_hierarchy.specs.FlatSet.{IsMoved}
use Rattle.channel_router.specs.declared.channel.Channel.{Channel}
use Rattle.channel_router.specs.declared.channel.Interval.{Interval}
use Rattle.channel_router.specs.Channel.{IsPinOf}
use Rattle.channel_router.specs.Tracks.{HasTrack}
use Rattle.channel_router.specs.Wires.{IsOfNet, track_y, channel_height}
use Rattle.leaf_shapes.specs.declared.demand.Metal.TheVariants.{M2, M4}
use Rattle.leaf_shapes.specs.declared.fit.Fit.TheVariants.{TopAndBottom}
use Rattle.cell_roles.specs.declared.role.Role.TheVariants.{Sense}
use Rattle.sram_netlist.specs.Organization.{banks_of, words_per_row}
use Rattle.sram_netlist.specs.Nets.{Net}
use Rattle.sram_netlist.specs.Instances.{LeafInstance, SenseAt}
use Rattle.sram_netlist.specs.Netlist.{ports}
use Rattle.sram_netlist.specs.Membership.{HasLeafInstance}
use Rattle.macro_layout.specs.Places.{IsPlaceOf, upright, bank_x, column_x}
use Rattle.macro_layout.specs.Floorplan.{IsFloorplan}
use Rattle.macro_layout.specs.Cells.{column_leaf}
use Rattle.macro_layout.specs.Pins.{column_nets}
use Rattle.macro_layout.specs.Channels.{IsPinFrom, IsColumnChannel}
use Rattle.macro_layout.specs.Stated.{IsShifted}
use Rattle.good_nets.proofs.CellLaws.{has_image}
use Rattle.good_nets.proofs.NetLaws.{nets_on, net_back}
use Rattle.joined_nets.specs.Joints.{JoinsWires}
use Rattle.joined_nets.proofs.FacingLaws.{wire_above, wire_below}
use Rattle.joined_nets.proofs.WireNetLaws.{item_there, place_below}
use Rattle.kit_nets.specs.StatedParts.{Source, IsStatedBy}
use Rattle.kit_nets.specs.RolePins.{IsDrawnPin}
use Rattle.kit_nets.specs.DrawnChannels.{IsDrawnChannel}
use Rattle.leaf_shapes.specs.FirstLayers.{AreFirstLayers}
use Rattle.kit_nets.proofs.DemandLaws.{metal_conducts}
use Rattle.kit_nets.proofs.ArrayNetLaws.{pin_of, pin_at, IsBoundPin, pin_listed}
use Rattle.kit_nets.proofs.PinJoinLaws.{facing_joined}
use Rattle.kit_nets.proofs.ChannelDrawnLaws.{column_stands, column_wires_joined, bank_shift, IsOfColumn, moved_is_shifted, box_there, track_above, track_below}

pub zero_times : (w : ℤ) → pos 0 *ℤ w ≡ pos 0
zero_times (pos n) = omega (arith, ints)
zero_times (negsuc n) = omega (arith, ints)

-- Branches

record Tracked (intervals : List Interval) (track : List ℕ) (number : ℕ) : Type 0 where
  interval : Interval
  t : ℕ
  has : HasTrack intervals track number interval t

module _ (IsMeant : Channel → Type 0) (wire : Wire) (tracks : ℕ) (sizes : AreSizes wire) (c : IsDrawnChannel IsMeant wire tracks) where
  tracked : (number : ℕ) → number < c.channel.nets → Tracked c.intervals c.track number
  tracked number lt =
      let each = c.routed.nets.each in
      let long = c.routed.lowest.each in
      let interval = item_there c.intervals number (omega (arith, lt, each)) in
      let t = item_there c.track number (omega (arith, lt, each, long)) in
      record { interval = interval.0; t = t.0; has = record { there = interval.1; on = t.1 } }

  pub record IsBranch (layer number : ℕ) (x low high : ℤ) (u : Shape) : Type 0 where
    pub of : IsOfNet c.channel wire c.intervals c.track tracks number u
    pub box : IsBox layer x low (x +ℤ wire.width) high u

  -- a pin of the bottom has a branch, which begins at the channel's lower end
  pub bottom_branch : (number : ℕ) (x : ℤ) → number < c.channel.nets → IsPinOf c.channel.bottom number x → (u : Shape) × (high : ℤ) × IsBranch (slice_index wire.metals 1) number x c.channel.low high u
  bottom_branch number x lt pin =
      let on = tracked number lt in
      let y = track_y c.channel.low wire on.t in
      let w = sizes.width.from in
      let space = sizes.space.from in
      let above = track_above on.t (pitch wire) (omega (arith, ints, w, space)) in
      let box = box_there (slice_index wire.metals 1) x c.channel.low (x +ℤ wire.width) (y +ℤ wire.width) (omega (arith, ints, w)) (omega (arith, ints, w, space, above)) in
      (box.0, y +ℤ wire.width, record { of = record { interval = on.interval; t = on.t; has = on.has; wires = inr (inr (x, pin, inl box.1)) }; box = box.1 })

  -- a pin of the top has a branch, which ends at the channel's upper end
  pub top_branch : (number : ℕ) (x : ℤ) → number < c.channel.nets → IsPinOf c.channel.top number x → (u : Shape) × (low : ℤ) × IsBranch (slice_index wire.metals 3) number x low (c.channel.low +ℤ channel_height wire tracks) u
  top_branch number x lt pin =
      let on = tracked number lt in
      let y = track_y c.channel.low wire on.t in
      let w = sizes.width.from in
      let space = sizes.space.from in
      let below = track_below on.t tracks (pitch wire) (omega (arith, ints, w, space)) (c.routed.count.below number on.t on.has.on) in
      let box = box_there (slice_index wire.metals 3) x y (x +ℤ wire.width) (c.channel.low +ℤ channel_height wire tracks) (omega (arith, ints, w)) (omega (arith, ints, w, space, below)) in
      (box.0, y, record { of = record { interval = on.interval; t = on.t; has = on.has; wires = inr (inl (x, pin, inl box.1)) }; box = box.1 })

-- where a pin of an upright cell lies
pub pin_shifted : (s : Source) (leaf : LeafInstance) (x y : ℤ) (port metal : ℕ) → IsShifted x y (pin_of s leaf port metal) (pin_at s leaf (upright x y) port metal)
pin_shifted s leaf x y port metal = moved_is_shifted x y (pin_of s leaf port metal) (pin_at s leaf (upright x y) port metal) (record { layer = refl; image = (has_image (upright x y) (pin_of s leaf port metal)).1.image })

module _ (tech : Tech) (s : Source) (flat : FlatLists) (by : IsStatedBy tech.connects s flat) (joins : JoinsWires tech.connects s.wire) (sizes : AreSizes s.wire) (first : AreFirstLayers s.layers s.wire) (fp : IsFloorplan s.plan s.kit s.wire s.tracks s.floorplan) (c : IsDrawnChannel (IsColumnChannel s.plan s.kit s.wire s.floorplan) s.wire s.tracks.column) where
  -- a wire of the column channel's net of this number, in bank b, on one net with the shape
  pub record MeetsColumn (b number : ℕ) (shape : Shape) : Type 0 where
    pub inner : Shape
    pub u : Shape
    pub of : IsOfColumn tech s flat by joins sizes first c number inner
    pub moved : IsMoved (bank_shift tech s flat by joins sizes first c b) inner u
    pub net : AreOnOneNet tech.connects flat.shapes shape u

  -- what meets wires of one net of it is joined
  pub column_meets : (b number : ℕ) (one two : Shape) → b < banks_of s.plan → Contains flat.shapes two → MeetsColumn b number one → MeetsColumn b number two → AreOnOneNet tech.connects flat.shapes one two
  column_meets b number one two of_bank listed m n =
      nets_on tech.connects flat.shapes one m.u two m.net
      (nets_on tech.connects flat.shapes m.u n.u two (column_wires_joined tech s flat by joins sizes first c b number m.inner n.inner m.u n.u of_bank m.of n.of m.moved n.moved) (net_back tech.connects flat.shapes two n.u listed n.net))

  counted : (number : ℕ) (net : Net) → slice_get (column_nets s.plan) number ≡ Some net → number < c.channel.nets
  counted number net named = let lt = place_below (column_nets s.plan) number net named in let count = c.routed.meant.nets in omega (arith, lt, count)

  abbrev pub sense_place : ℕ → ℕ → Place
  sense_place b i = upright (bank_x s.floorplan b (column_x s.plan s.kit s.floorplan (i * words_per_row s.plan))) s.floorplan.sense_y

  -- A line of a bit in its sense cell meets the channel's wires from below.
  pub sense_meets : (b i port number : ℕ) (net : Net) → b < banks_of s.plan → HasLeafInstance s.plan (SenseAt 0 i) → slice_get (column_nets s.plan) number ≡ Some net → slice_get (ports s.plan (SenseAt 0 i)) port ≡ Some net → IsDrawnPin s Sense port M2 TopAndBottom
      → MeetsColumn b number (pin_at s (SenseAt b i) (sense_place b i) port 1)
  sense_meets b i port number net of_bank has named on drawn =
      let home = pin_listed tech.connects s flat by (SenseAt 0 i) (sense_place 0 i) port 1 net has refl on drawn.bound in
      let x = (pin_at s (SenseAt 0 i) (sense_place 0 i) port 1).rect.x1 in
      let pin = (c.routed.meant.bottom number x).1 (net, named, (i, port, record { rect = (pin_at s (SenseAt 0 i) (sense_place 0 i) port 1).rect; is = home.pin; begins = refl })) in
      let branch = bottom_branch (IsColumnChannel s.plan s.kit s.wire s.floorplan) s.wire s.tracks.column sizes c number x (counted number net named) pin in
      let image = has_image (bank_shift tech s flat by joins sizes first c b) branch.0 in
      let u = image.0 in
      let shift = moved_is_shifted (pos b *ℤ s.floorplan.bank_width) (pos 0) branch.0 u image.1 in
      let here = pin_shifted s (SenseAt b i) (bank_x s.floorplan b (column_x s.plan s.kit s.floorplan (i * words_per_row s.plan))) s.floorplan.sense_y port 1 in
      let there = pin_shifted s (SenseAt 0 i) (bank_x s.floorplan 0 (column_x s.plan s.kit s.floorplan (i * words_per_row s.plan))) s.floorplan.sense_y port 1 in
      let none = zero_times s.floorplan.bank_width in
      let low = c.routed.meant.low in
      let high = drawn.fits.0 in
      let b1 = branch.2.box.left in
      let b2 = branch.2.box.low in
      let b3 = branch.2.box.right in
      let s1 = shift.x1 in
      let s2 = shift.y1 in
      let s3 = shift.x2 in
      let h1 = here.x1 in
      let h2 = here.y2 in
      let t1 = there.x1 in
      let joined = wire_above (slice_index s.wire.metals 1) u.rect.x1 u.rect.y1 u.rect.y2 s.wire.width (pin_at s (SenseAt b i) (sense_place b i) port 1).rect u sizes.width.from (omega (arith, ints, none)) (omega (arith, ints))
      (record { on = shift.layer ∙ branch.2.box.on; left = refl; low = refl; right = omega (arith, ints); high = refl }) in
      record {
        inner = branch.0;
        u = u;
        of = branch.2.of;
        moved = image.1;
        net = facing_joined tech.connects s flat by (slice_index s.wire.metals 1) (pin_at s (SenseAt b i) (sense_place b i) port 1) u (metal_conducts tech.connects s.wire joins M2) refl (shift.layer ∙ branch.2.box.on) joined (column_stands tech s flat by joins sizes first c b number branch.0 u of_bank branch.2.of image.1);
      }

  abbrev pub end_place : ℕ → ℕ → Place
  end_place b k = upright (bank_x s.floorplan b (column_x s.plan s.kit s.floorplan k)) s.floorplan.column_y

  -- A port of a column's end on the fourth metal meets them from above. (The leaf stands in bank b, and home in bank 0.)
  pub end_meets : (leaf home : LeafInstance) (b k port number : ℕ) (net on : Net) → b < banks_of s.plan → home ≡ column_leaf s.plan.col_bits 0 k → HasLeafInstance s.plan leaf → HasLeafInstance s.plan home → IsPlaceOf s.plan s.kit s.floorplan leaf (end_place b k) → IsPlaceOf s.plan s.kit s.floorplan home (end_place 0 k)
      → slice_get (column_nets s.plan) number ≡ Some net → slice_get (ports s.plan home) port ≡ Some net → slice_get (ports s.plan leaf) port ≡ Some on → pin_of s leaf port 3 ≡ pin_of s home port 3 → IsBoundPin s leaf port 3 → IsBoundPin s home port 3 → (pin_of s leaf port 3).rect.y1 ≡ pos 0
      → MeetsColumn b number (pin_at s leaf (end_place b k) port 3)
  end_meets leaf home b k port number net on of_bank is has has_home stands stands_home named at_home at same bound bound_home lower =
      let first_pin = pin_listed tech.connects s flat by home (end_place 0 k) port 3 net has_home stands_home at_home bound_home in
      let own = pin_listed tech.connects s flat by leaf (end_place b k) port 3 on has stands at bound in
      let x = (pin_at s home (end_place 0 k) port 3).rect.x1 in
      let from : IsPinFrom s.plan s.kit s.floorplan home port 3 net x = record { rect = (pin_at s home (end_place 0 k) port 3).rect; is = first_pin.pin; begins = refl } in
      let pin = (c.routed.meant.top number x).1 (net, named, (k, port, subst (λ (l : LeafInstance). IsPinFrom s.plan s.kit s.floorplan l port 3 net x) is from)) in
      let branch = top_branch (IsColumnChannel s.plan s.kit s.wire s.floorplan) s.wire s.tracks.column sizes c number x (counted number net named) pin in
      let image = has_image (bank_shift tech s flat by joins sizes first c b) branch.0 in
      let u = image.0 in
      let shift = moved_is_shifted (pos b *ℤ s.floorplan.bank_width) (pos 0) branch.0 u image.1 in
      let here = pin_shifted s leaf (bank_x s.floorplan b (column_x s.plan s.kit s.floorplan k)) s.floorplan.column_y port 3 in
      let there = pin_shifted s home (bank_x s.floorplan 0 (column_x s.plan s.kit s.floorplan k)) s.floorplan.column_y port 3 in
      let none = zero_times s.floorplan.bank_width in
      let low = c.routed.meant.low in
      let upper = fp.column_y in
      let left = ap (λ (q : Shape). q.rect.x1) same in
      let b1 = branch.2.box.left in
      let b2 = branch.2.box.high in
      let b3 = branch.2.box.right in
      let s1 = shift.x1 in
      let s2 = shift.y2 in
      let s3 = shift.x2 in
      let h1 = here.x1 in
      let h2 = here.y1 in
      let t1 = there.x1 in
      let stands_u = column_stands tech s flat by joins sizes first c b number branch.0 u of_bank branch.2.of image.1 in
      let joined = wire_below (slice_index s.wire.metals 3) u.rect.x1 u.rect.y1 u.rect.y2 s.wire.width (pin_at s leaf (end_place b k) port 3).rect u sizes.width.from (omega (arith, ints, none, left)) (omega (arith, ints, lower))
      (record { on = shift.layer ∙ branch.2.box.on; left = refl; low = refl; right = omega (arith, ints); high = refl }) in
      record {
        inner = branch.0;
        u = u;
        of = branch.2.of;
        moved = image.1;
        net = net_back tech.connects flat.shapes u (pin_at s leaf (end_place b k) port 3) stands_u (facing_joined tech.connects s flat by (slice_index s.wire.metals 3) u (pin_at s leaf (end_place b k) port 3) (metal_conducts tech.connects s.wire joins M4) (shift.layer ∙ branch.2.box.on) refl joined own.listed);
      }
