-- A channel that takes its tracks is one route, of which all its wires are drawn.
use Rattle.std.proofs.Common.{◌≡◌, ◌∙◌, ℕ, ◌<◌, ◌≤◌, ℤ, pos, ◌+ℤ◌, List, refl, sym, subst, arith}
use Rattle.std.proofs.lemmas.Int.{ints}
use Rattle.or_geom.specs.declared.shape.Shape.{Shape}
use Rattle.tech_rules.specs.declared.tech.Wire.{Wire}
use Rattle.wire_drawing.specs.Drawing.{pitch}
use Rattle.channel_router.specs.declared.channel.Channel.{Channel}
use Rattle.channel_router.specs.declared.channel.ChannelPin.{ChannelPin}
use Rattle.channel_router.specs.Channel.{IsPinOf}
use Rattle.channel_router.specs.Wires.{track_y}
use Rattle.channel_router.proofs.TrackLaws.{lowest_assigns}
use Rattle.sram_netlist.specs.Organization.{Organization}
use Rattle.macro_layout.specs.LayoutKit.{LayoutKit}
use Rattle.macro_layout.specs.Places.{Floorplan}
use Rattle.macro_layout.specs.Channels.{ArePins, IsColumnChannel, IsMainChannel}
use Rattle.macro_layout.specs.Moved.{ArePinsMoved, IsChannelMoved}
use Rattle.macro_layout.specs.Stated.{IsShifted}
use Rattle.macro_layout.proofs.RoutingLaws.{item_at, AreTwo, intervals_move, other_track, same_track}
use Rattle.macro_layout.proofs.MovedLaws.{net_moves}
use Rattle.sram_macro.specs.Stated.{TakesTracks}
use Rattle.good_wires.specs.Channels.{ArePinsApart}
use Rattle.good_wires.specs.Drawn.{IsOneRoute}

-- Each two channels that are meant are one.

abbrev pub AreOne : (Channel → Type 0) → Type 0
AreOne IsMeant = (c e : Channel) → IsMeant c → IsMeant e → IsChannelMoved (pos 0) (pos 0) c e

pub nothing : (x : ℤ) → x +ℤ pos 0 ≡ x
nothing x = omega (arith, ints)

same_pins : (xs ys : List ChannelPin) (Meets : ℕ → ℤ → Type 0) → ArePins xs Meets → ArePins ys Meets → ArePinsMoved (pos 0) xs ys
same_pins xs ys Meets a b net x = (λ p. (a net x).1 ((b net x).0 (subst (IsPinOf ys net) (nothing x) p)), λ p. subst (IsPinOf ys net) (sym (nothing x)) ((b net x).1 ((a net x).0 p)))

same_low : (a b z : ℤ) → a ≡ z → b ≡ z → b ≡ a +ℤ pos 0
same_low a b z e f = omega (arith, ints, e, f)

pub mains_are_one : (plan : Organization) (kit : LayoutKit) (wire : Wire) (f : Floorplan) → AreOne (IsMainChannel plan kit wire f)
mains_are_one plan kit wire f c e m n = record {
  low = same_low c.low e.low _ m.low n.low;
  nets = n.nets ∙ sym m.nets;
  top = same_pins c.top e.top _ m.top n.top;
  bottom = same_pins c.bottom e.bottom _ m.bottom n.bottom;
  exits = same_pins c.exits e.exits _ m.exits n.exits;
}

pub columns_are_one : (plan : Organization) (kit : LayoutKit) (wire : Wire) (f : Floorplan) → AreOne (IsColumnChannel plan kit wire f)
columns_are_one plan kit wire f c e m n = record {
  low = same_low c.low e.low _ m.low n.low;
  nets = n.nets ∙ sym m.nets;
  top = same_pins c.top e.top _ m.top n.top;
  bottom = same_pins c.bottom e.bottom _ m.bottom n.bottom;
  exits = same_pins c.exits e.exits _ m.exits n.exits;
}

pub stands_still : (s : Shape) → IsShifted (pos 0) (pos 0) s s
stands_still s = record { layer = refl; x1 = sym (nothing s.rect.x1); y1 = sym (nothing s.rect.y1); x2 = sym (nothing s.rect.x2); y2 = sym (nothing s.rect.y2) }

-- So the routed one has all wires and trunks.
abbrev pub one_route : (IsMeant : Channel → Type 0) (wire : Wire) (tracks : ℕ) → AreOne IsMeant → (t : TakesTracks IsMeant wire tracks) → ArePinsApart wire t.channel.top → ArePinsApart wire t.channel.bottom → IsOneRoute IsMeant wire tracks
one_route IsMeant wire tracks one t top bottom = record {
  channel = t.channel;
  intervals = t.intervals;
  track = t.track;
  meant = t.routed.meant;
  nets = t.routed.nets;
  assigned = lowest_assigns (pitch wire) t.intervals t.track t.routed.lowest;
  count = t.routed.count;
  top = top;
  bottom = bottom;
  trunk = λ number y w.
      let moved = one w.channel t.channel w.routed.meant t.routed.meant in
      let two : AreTwo (pos 0) (pitch wire) w.intervals t.intervals w.track t.track = record { moved = intervals_move (pos 0) (pos 0) w.channel t.channel w.intervals t.intervals moved w.routed.nets t.routed.nets; lowest = w.routed.lowest; lows = t.routed.lowest } in
      let o = other_track (pos 0) (pitch wire) w.intervals t.intervals w.track t.track two number w.interval w.has.there in
      let same = same_track (pos 0) (pitch wire) w.intervals t.intervals w.track t.track two number w.interval o.interval w.on o.track w.has o.has in
      (o.interval, o.track, o.has, w.at ∙ ((λ i. track_y ((sym (nothing w.channel.low) ∙ sym moved.low) i) wire (same i))));
  each = λ s w.
      let moved = one w.channel t.channel w.routed.meant t.routed.meant in
      let two : AreTwo (pos 0) (pitch wire) w.intervals t.intervals w.track t.track = record { moved = intervals_move (pos 0) (pos 0) w.channel t.channel w.intervals t.intervals moved w.routed.nets t.routed.nets; lowest = w.routed.lowest; lows = t.routed.lowest } in
      (w.net, net_moves (pos 0) (pos 0) w.channel t.channel wire w.intervals t.intervals w.track t.track tracks w.net s s moved two (stands_still s) w.drawn);
}

-- where the channel has a net, there is a track
pub some_track : (IsMeant : Channel → Type 0) (wire : Wire) (tracks : ℕ) → (t : TakesTracks IsMeant wire tracks) → 0 < t.channel.nets → 1 ≤ tracks
some_track IsMeant wire tracks t some =
    let each = t.routed.lowest.each in
    let nets = t.routed.nets.each in
    let first = item_at t.track 0 (omega (arith, each, nets, some)) in
    let below = t.routed.count.below 0 first.item first.is in
    omega (arith, below)
