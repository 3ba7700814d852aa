-- The routed channel is the column channel, moved.
use Rattle.std.proofs.Common.{◌≡◌, ℕ, ◌<◌, ℤ, pos, ◌+ℤ◌, ◌-ℤ◌, ◌≤ℤ◌, ◌<ℤ◌, List, length, Some, inl, refl, ap, sym, ◌∙◌, arith}
use Rattle.std.specs.Prelude.{slice_get, slice_index}
use Rattle.std.proofs.lemmas.Int.{ints}
use Rattle.std.proofs.lemmas.Option.{same_Some}
use Rattle.or_geom.specs.declared.shape.Shape.{Shape}
use Rattle.tech_rules.specs.declared.tech.Wire.{Wire}
use Rattle.wire_drawing.specs.declared.route.RouteFault.{RouteFault}
use Rattle.wire_drawing.specs.declared.route.RouteFault.TheVariants.{Close, TapsClose, Memory}
use Rattle.wire_drawing.specs.Drawing.{pitch}
use Rattle.tech_rules.specs.Facts.{AreSizes}
use Rattle.channel_router.specs.declared.channel.Channel.{Channel}
use Rattle.channel_router.specs.declared.channel.ChannelPin.{ChannelPin}
use Rattle.channel_router.specs.declared.channel.Interval.{Interval}
use Rattle.channel_router.specs.declared.channel.Routed.{Routed}
use Rattle.channel_router.specs.Routed.{IsRouted, IsRouteFault}
use Rattle.channel_router.specs.Tracks.{HasTrack}
use Rattle.channel_router.specs.Wires.{channel_height, track_y, IsOfNet}
use Rattle.sram_netlist.specs.Organization.{Organization}
use Rattle.leaf_tables.specs.Parts.{of_route}
use Rattle.macro_layout.specs.LayoutKit.{LayoutKit}
use Rattle.macro_layout.specs.Places.{Floorplan, columns_x}
use Rattle.macro_layout.specs.Floorplan.{column_channel_y}
use Rattle.macro_layout.specs.Channels.{ArePins, IsColumnChannel, IsRoutedBy, IsChannelWire, IsTrunkAt}
use Rattle.macro_layout.specs.Moved.{ArePinsMoved, IsChannelMoved, IsThe}
use Rattle.macro_layout.specs.Stated.{IsShifted}
use Rattle.macro_layout.proofs.RoutingLaws.{item_at, below_length, intervals_move, AreTwo, other_track, same_track}
use Rattle.macro_layout.proofs.MovedLaws.{column_channels_are_drawn}
use Rattle.port_data.specs.Column.{IsBankFloorplan, IsColumnRouted, IsColumnFault}
use Rattle.port_data.specs.Pins.{column_channel}
use Rattle.port_data.proofs.ColumnLaws.{meant_channel, is_meant, is_moved, is_data_channel}

-- each channel that is meant is the one that is routed, moved

pins_of_all : (dx : ℤ) (xs ys zs : List ChannelPin) (Meets : ℕ → ℤ → Type 0) → ArePins xs Meets → ArePins ys Meets → ArePinsMoved dx ys zs → ArePinsMoved dx xs zs
pins_of_all dx xs ys zs Meets a b m net x = (
  λ p. (a net x).1 ((b net x).0 ((m net x).0 p)),
  λ p. (m net x).1 ((b net x).1 ((a net x).0 p)),
)

any_moved : (plan : Organization) (kit : LayoutKit) (wire : Wire) (floorplan : Floorplan) (dx dy : ℤ) (c meant ch : Channel) → IsColumnChannel plan kit wire floorplan c → IsColumnChannel plan kit wire floorplan meant → IsChannelMoved dx dy meant ch → IsChannelMoved dx dy c ch
any_moved plan kit wire floorplan dx dy c meant ch a b m = record {
  low = m.low ∙ ap (λ (z : ℤ). z +ℤ dy) (b.low ∙ sym a.low);
  nets = m.nets ∙ (b.nets ∙ sym a.nets);
  top = pins_of_all dx c.top meant.top ch.top _ a.top b.top m.top;
  bottom = pins_of_all dx c.bottom meant.bottom ch.bottom _ a.bottom b.bottom m.bottom;
  exits = pins_of_all dx c.exits meant.exits ch.exits _ a.exits b.exits m.exits;
}

routed_by : (ch : Channel) (wire : Wire) (intervals : List Interval) (routed : Routed) → IsRouted ch wire intervals routed → IsRoutedBy (IsThe ch) wire routed.tracks ch intervals routed.track
routed_by ch wire intervals routed is = record { meant = refl; nets = is.nets; lowest = is.lowest; count = is.count }

-- tracks

-- a net's track in a channel that is meant is its track here
on_track : (dx dy : ℤ) (c ch : Channel) (wire : Wire) (xs ys : List Interval) (track other : List ℕ) (IsMeant : Channel → Type 0) (tracks number on : ℕ) (a : Interval) → IsChannelMoved dx dy c ch → IsRoutedBy IsMeant wire tracks c xs track → IsRoutedBy (IsThe ch) wire tracks ch ys other → HasTrack xs track number a on
    → slice_get other number ≡ Some on
on_track dx dy c ch wire xs ys track other IsMeant tracks number on a moved r q has =
    let two : AreTwo dx (pitch wire) xs ys track other = record { moved = intervals_move dx dy c ch xs ys moved r.nets q.nets; lowest = r.lowest; lows = q.lowest } in
    let o = other_track dx (pitch wire) xs ys track other two number a has.there in
    o.has.on ∙ ap (λ (t : ℕ). Some t) (sym (same_track dx (pitch wire) xs ys track other two number a o.interval on o.track has o.has))

-- each net has a track there
track_there : (wire : Wire) (xs : List Interval) (track : List ℕ) (IsMeant : Channel → Type 0) (tracks number : ℕ) (c : Channel) → IsRoutedBy IsMeant wire tracks c xs track → number < length xs → (a : Interval) × (on : ℕ) × HasTrack xs track number a on
track_there wire xs track IsMeant tracks number c r below =
    let each = r.lowest.each in
    let a = item_at xs number below in
    let on = item_at track number (omega (arith, below, each)) in
    (a.item, on.item, record { there = a.is; on = on.is })

-- a trunk

forward : (left right width : ℤ) → left ≤ℤ right → pos 1 ≤ℤ width → left <ℤ (right +ℤ width)
forward left right width le some = omega (arith, ints, le, some)

upward : (y width : ℤ) → pos 1 ≤ℤ width → y <ℤ (y +ℤ width)
upward y width some = omega (arith, ints, some)

abbrev trunk : (wire : Wire) (a : Interval) (y : ℤ) → a.left ≤ℤ a.right → pos 1 ≤ℤ wire.width → Shape
trunk wire a y le some = record {
  layer = slice_index wire.metals 2;
  rect = record { x1 = a.left; y1 = y; x2 = a.right +ℤ wire.width; y2 = y +ℤ wire.width; wide = forward a.left a.right wire.width le some; tall = upward y wire.width some };
}

less_shift : (a b d : ℤ) → a <ℤ b → (a -ℤ d) <ℤ (b -ℤ d)
less_shift a b d lt = omega (arith, ints, lt)

abbrev back : (dx dy : ℤ) → Shape → Shape
back dx dy s = record {
  layer = s.layer;
  rect = record { x1 = s.rect.x1 -ℤ dx; y1 = s.rect.y1 -ℤ dy; x2 = s.rect.x2 -ℤ dx; y2 = s.rect.y2 -ℤ dy; wide = less_shift s.rect.x1 s.rect.x2 dx s.rect.wide; tall = less_shift s.rect.y1 s.rect.y2 dy s.rect.tall };
}

over : (a d : ℤ) → a ≡ (a -ℤ d) +ℤ d
over a d = omega (arith, ints)

back_shifted : (dx dy : ℤ) (s : Shape) → IsShifted dx dy (back dx dy s) s
back_shifted dx dy s = record { layer = refl; x1 = over s.rect.x1 dx; y1 = over s.rect.y1 dy; x2 = over s.rect.x2 dx; y2 = over s.rect.y2 dy }

-- the channel is routed where it is meant
meant_routed : (plan : Organization) (kit : LayoutKit) (wire : Wire) (floorplan : Floorplan) (meant ch : Channel) (dx dy : ℤ) (intervals : List Interval) (routed : Routed) (number on : ℕ) → AreSizes wire → IsColumnChannel plan kit wire floorplan meant → IsChannelMoved dx dy meant ch → IsRouted ch wire intervals routed
    → slice_get routed.track number ≡ Some on → (s : Shape) × IsChannelWire (IsColumnChannel plan kit wire floorplan) wire routed.tracks s
meant_routed plan kit wire floorplan meant ch dx dy intervals routed number on sizes is moved r at =
    let each = r.lowest.each in
    let below = below_length routed.track number on at in
    let a = item_at intervals number (omega (arith, each, below)) in
    let interval = r.nets.of_net number a.item a.is in
    let shape = trunk wire a.item (track_y ch.low wire on) (interval.least a.item.right interval.ends) sizes.width.from in
    let drawn : IsOfNet ch wire intervals routed.track routed.tracks number shape = record { interval = a.item; t = on; has = record { there = a.is; on = at }; wires = inl (record { on = refl; left = refl; low = refl; right = refl; high = refl }) } in
    (back dx dy shape, (column_channels_are_drawn plan kit wire floorplan meant ch dx dy intervals routed.track routed.tracks is moved (routed_by ch wire intervals routed r) (back dx dy shape) shape (back_shifted dx dy shape)).1 (number, drawn))

trunk_at : (plan : Organization) (kit : LayoutKit) (wire : Wire) (floorplan : Floorplan) (meant ch : Channel) (dx dy : ℤ) (intervals : List Interval) (routed : Routed) (number on : ℕ) (y : ℤ) → AreSizes wire → IsColumnChannel plan kit wire floorplan meant → IsChannelMoved dx dy meant ch → IsRouted ch wire intervals routed
    → slice_get routed.track number ≡ Some on → y ≡ column_channel_y kit floorplan +ℤ channel_height wire on → IsTrunkAt (IsColumnChannel plan kit wire floorplan) wire routed.tracks number y
trunk_at plan kit wire floorplan meant ch dx dy intervals routed number on y sizes is moved r at high =
    let w = (meant_routed plan kit wire floorplan meant ch dx dy intervals routed number on sizes is moved r at).1 in
    let there = any_moved plan kit wire floorplan dx dy w.channel meant ch w.routed.meant is moved in
    let counted = w.routed.nets.each in
    let here = r.nets.each in
    let same = there.nets in
    let each = r.lowest.each in
    let below = below_length routed.track number on at in
    let t = track_there wire w.intervals w.track (IsColumnChannel plan kit wire floorplan) routed.tracks number w.channel w.routed (omega (arith, counted, here, same, each, below)) in
    let found = on_track dx dy w.channel ch wire w.intervals intervals w.track routed.track (IsColumnChannel plan kit wire floorplan) routed.tracks number t.1 t.0 there w.routed (routed_by ch wire intervals routed r) t.2 in
    let equal : on ≡ t.1 = same_Some on t.1 (sym at ∙ found) in
    record {
      channel = w.channel;
      intervals = w.intervals;
      track = w.track;
      routed = w.routed;
      interval = t.0;
      on = t.1;
      has = t.2;
      at = high ∙ (ap (λ (n : ℕ). column_channel_y kit floorplan +ℤ channel_height wire n) equal ∙ ap (λ (z : ℤ). z +ℤ channel_height wire t.1) (sym w.routed.meant.low));
    }

pub column_routed : (plan : Organization) (kit : LayoutKit) (wire : Wire) (floorplan : Floorplan) (intervals : List Interval) (routed : Routed) → AreSizes wire → IsBankFloorplan plan kit wire floorplan → IsRouted (column_channel plan kit wire) wire intervals routed → IsColumnRouted plan kit wire floorplan routed
column_routed plan kit wire floorplan intervals routed sizes bank r =
    let ch = column_channel plan kit wire in
    let meant = meant_channel plan kit wire floorplan in
    let dx = pos 0 -ℤ columns_x plan kit floorplan in
    let dy = pos 0 -ℤ floorplan.write_y in
    let is = is_meant plan kit wire floorplan bank in
    let moved = is_moved plan kit wire floorplan bank in
    let by = routed_by ch wire intervals routed r in
    record {
      wires = λ s t shift.
          let law = column_channels_are_drawn plan kit wire floorplan meant ch dx dy intervals routed.track routed.tracks is moved by s t shift in
          (λ w. (let of = law.0 w in r.wires.all of.0 t of.1), λ there. law.1 (r.wires.only t there));
      trunks = λ number y. (
        λ w. (
          w.on,
          on_track dx dy w.channel ch wire w.intervals intervals w.track routed.track (IsColumnChannel plan kit wire floorplan) routed.tracks number w.on w.interval (any_moved plan kit wire floorplan dx dy w.channel meant ch w.routed.meant is moved) w.routed by w.has,
          w.at ∙ ap (λ (z : ℤ). z +ℤ channel_height wire w.on) w.routed.meant.low,
        ),
        λ t. trunk_at plan kit wire floorplan meant ch dx dy intervals routed number t.0 y sizes is moved r t.1 t.2,
      );
    }

-- faults

pub column_fault : (plan : Organization) (kit : LayoutKit) (wire : Wire) (fault : RouteFault) → IsRouteFault (column_channel plan kit wire) wire fault → IsColumnFault plan kit wire (of_route fault)
column_fault plan kit wire (Close side first second) is = (is_data_channel plan kit wire, is)
column_fault plan kit wire (TapsClose first second) is = absurd is
column_fault plan kit wire Memory is = tt
