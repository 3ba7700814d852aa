-- The routed main channel is the stated one.
use Rattle.std.proofs.Common.{◌≡◌, ◌↔◌, ℕ, ℤ, pos, ◌+ℤ◌, List, Contains, Some, refl, ap, sym, subst, ◌∙◌, arith}
use Rattle.std.specs.Prelude.{slice_get}
use Rattle.std.proofs.lemmas.Int.{ints}
use Rattle.or_geom.specs.declared.shape.Shape.{Shape}
use Rattle.cell_roles.specs.declared.role.Role.TheVariants.{Inv}
use Rattle.tech_rules.specs.declared.tech.Wire.{Wire}
use Rattle.wire_drawing.specs.Drawing.{pitch}
use Rattle.channel_router.specs.declared.channel.Channel.{Channel}
use Rattle.channel_router.specs.declared.channel.ChannelPin.{ChannelPin}
use Rattle.channel_router.specs.declared.channel.Interval.{Interval}
use Rattle.channel_router.specs.declared.channel.Routed.{Routed}
use Rattle.channel_router.specs.Channel.{IsPinOf}
use Rattle.channel_router.specs.Routed.{IsRouted}
use Rattle.channel_router.specs.Wires.{track_y}
use Rattle.sram_netlist.specs.Organization.{Organization}
use Rattle.macro_layout.specs.LayoutKit.{LayoutKit}
use Rattle.macro_layout.specs.Places.{Floorplan}
use Rattle.macro_layout.specs.Floorplan.{Tracks, IsFloorplan}
use Rattle.macro_layout.specs.Channels.{ArePins, IsMainChannel, IsRoutedBy, IsChannelWire, IsTrunkAt}
use Rattle.macro_layout.specs.Moved.{ArePinsMoved, IsChannelMoved, IsThe, MainChannelsAreDrawn}
use Rattle.macro_layout.specs.Stated.{IsShifted}
use Rattle.macro_layout.proofs.RoutingLaws.{item_at, below_length, intervals_move, AreTwo, other_track, same_track}
use Rattle.sram_macro.specs.Layout.{IsMainRouted}

-- Two channels that are meant have the same pins.

nothing : (x : ℤ) → x +ℤ pos 0 ≡ x
nothing x = omega (arith, ints)

stands_still : (s : Shape) → IsShifted (pos 0) (pos 0) s s
stands_still s = record { layer = refl; x1 = sym (nothing s.rect.x1); y1 = sym (nothing s.rect.y1); x2 = sym (nothing s.rect.x2); y2 = sym (nothing s.rect.y2) }

pub same_pins : (xs ys : List ChannelPin) (Meets : ℕ → ℤ → Type 0) → ArePins xs Meets → ArePins ys Meets → ArePinsMoved (pos 0) xs ys
same_pins xs ys Meets a b net x = (
  λ p. (a net x).1 ((b net x).0 (subst (IsPinOf ys net) (nothing x) p)),
  λ p. subst (IsPinOf ys net) (sym (nothing x)) ((b net x).1 ((a net x).0 p)),
)

pub one_channel : (plan : Organization) (kit : LayoutKit) (wire : Wire) (floorplan : Floorplan) (a b : Channel) → IsMainChannel plan kit wire floorplan a → IsMainChannel plan kit wire floorplan b → IsChannelMoved (pos 0) (pos 0) a b
one_channel plan kit wire floorplan a b m n = record {
  low = n.low ∙ (sym m.low ∙ sym (nothing a.low));
  nets = n.nets ∙ sym m.nets;
  top = same_pins a.top b.top _ m.top n.top;
  bottom = same_pins a.bottom b.bottom _ m.bottom n.bottom;
  exits = same_pins a.exits b.exits _ m.exits n.exits;
}

routed_by : (ch : Channel) (wire : Wire) (intervals : List Interval) (routed : Routed) → IsRouted ch wire intervals routed → IsRoutedBy (IsThe ch) wire routed.tracks ch intervals routed.track
routed_by ch wire intervals routed is = record { meant = refl; nets = is.nets; lowest = is.lowest; count = is.count }

-- The shapes of the main channel are the stated ones.
pub main_wires : MainChannelsAreDrawn → (plan : Organization) (kit : LayoutKit) (wire : Wire) (tracks : Tracks) (floorplan : Floorplan) (routed : Routed) → IsMainRouted plan kit wire routed → IsFloorplan plan kit wire tracks floorplan
    → (s : Shape) → Contains routed.shapes s ↔ IsChannelWire (IsMainChannel plan kit wire floorplan) wire routed.tracks s
main_wires law plan kit wire tracks floorplan routed is stands s =
    let ch = is.channel in
    let meant = is.is.stated tracks floorplan stands in
    let by = routed_by ch wire is.intervals routed is.routed_as in
    let same = law plan kit wire floorplan ch ch (pos 0) (pos 0) is.intervals routed.track routed.tracks meant (one_channel plan kit wire floorplan ch ch meant meant) by s s (stands_still s) in
    (λ there. same.1 (is.routed_as.wires.only s there), λ w. (let of = same.0 w in is.routed_as.wires.all of.0 s of.1))

-- so many tracks are taken by it
pub main_routed_by : (plan : Organization) (kit : LayoutKit) (wire : Wire) (tracks : Tracks) (floorplan : Floorplan) (routed : Routed) (is : IsMainRouted plan kit wire routed) → IsFloorplan plan kit wire tracks floorplan
    → IsRoutedBy (IsMainChannel plan kit wire floorplan) wire routed.tracks is.channel is.intervals routed.track
main_routed_by plan kit wire tracks floorplan routed is stands =
    record { meant = is.is.stated tracks floorplan stands; nets = is.routed_as.nets; lowest = is.routed_as.lowest; count = is.routed_as.count }

-- A trunk of it is at its net's track.
pub main_trunks : (plan : Organization) (kit : LayoutKit) (wire : Wire) (tracks : Tracks) (floorplan : Floorplan) (routed : Routed) → IsMainRouted plan kit wire routed → IsFloorplan plan kit wire tracks floorplan
    → (number : ℕ) (y : ℤ) → IsTrunkAt (IsMainChannel plan kit wire floorplan) wire routed.tracks number y ↔ ((t : ℕ) × (slice_get routed.track number ≡ Some t) × (y ≡ track_y (pos (kit.height Inv)) wire t))
main_trunks plan kit wire tracks floorplan routed is stands number y =
    let r = main_routed_by plan kit wire tracks floorplan routed is stands in (
      λ w.
          let moved = one_channel plan kit wire floorplan w.channel is.channel w.routed.meant r.meant in
          let two : AreTwo (pos 0) (pitch wire) w.intervals is.intervals w.track routed.track =
          record { moved = intervals_move (pos 0) (pos 0) w.channel is.channel w.intervals is.intervals moved w.routed.nets r.nets; lowest = w.routed.lowest; lows = r.lowest } in
          let o = other_track (pos 0) (pitch wire) w.intervals is.intervals w.track routed.track two number w.interval w.has.there in
          let same = same_track (pos 0) (pitch wire) w.intervals is.intervals w.track routed.track two number w.interval o.interval w.on o.track w.has o.has in
          (w.on, o.has.on ∙ ap (λ (t : ℕ). Some t) (sym same), w.at ∙ ap (λ (z : ℤ). track_y z wire w.on) w.routed.meant.low),
      λ t.
          let each = r.lowest.each in
          let below = below_length routed.track number t.0 t.1 in
          let a = item_at is.intervals number (omega (arith, each, below)) in
          record {
            channel = is.channel;
            intervals = is.intervals;
            track = routed.track;
            routed = r;
            interval = a.item;
            on = t.0;
            has = record { there = a.is; on = t.1 };
            at = t.2 ∙ ap (λ (z : ℤ). track_y z wire t.0) (sym r.meant.low);
          },
    )
