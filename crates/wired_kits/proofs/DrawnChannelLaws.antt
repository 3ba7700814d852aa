-- A channel that is routed has the list of its wires.
use Rattle.std.proofs.Common.{◌≡◌, ◌⊎◌, inl, inr, ℕ, ◌<◌, ℤ, pos, ◌<ℤ◌, ◌≤ℤ◌, ◌+ℤ◌, List, Contains, refl, sym, subst, arith}
use Rattle.std.specs.Prelude.{slice_index}
use Rattle.std.proofs.lemmas.Int.{ints}
use Rattle.or_geom.specs.declared.shape.Shape.{Shape}
use Rattle.or_geom.proofs.ListLaws.{one_at}
use Rattle.tech_rules.specs.declared.tech.Wire.{Wire}
use Rattle.wire_drawing.specs.Drawing.{IsBox, IsVia, pitch}
use Rattle.tech_rules.specs.Facts.{AreSizes}
use Rattle.tech_rules.specs.WireRules.{margin}
use Rattle.channel_router.specs.declared.channel.Channel.{Channel}
use Rattle.channel_router.specs.declared.channel.ChannelPin.{ChannelPin}
use Rattle.channel_router.specs.declared.channel.Interval.{Interval}
use Rattle.channel_router.specs.Channel.{IsPinOf}
use Rattle.channel_router.specs.Tracks.{HasTrack, IsLowest}
use Rattle.channel_router.specs.Wires.{IsOfNet, IsWireOf, IsTrunk, IsTopBranch, IsBottomBranch, channel_height, track_y}
use Rattle.macro_layout.specs.Channels.{IsRoutedBy}
use Rattle.good_wires.specs.Drawn.{IsOneRoute}
use Rattle.good_wires.proofs.LevelLaws.{track_above, track_below}
use Rattle.joined_nets.proofs.WireNetLaws.{item_there, place_below}
use Rattle.kit_nets.specs.DrawnChannels.{IsDrawnChannel}
use Rattle.wired_kits.proofs.ListingLaws.{IsListing, one_box, one_or_other, listed_as, each_listed, each_below}

module _ (IsMeant : Channel → Type 0) (wire : Wire) (tracks : ℕ) (ch : Channel) (intervals : List Interval) (track : List ℕ) (routed : IsRoutedBy IsMeant wire tracks ch intervals track) (sizes : AreSizes wire) where
  some : pos 1 ≤ℤ wire.width
  some = sizes.width.from

  longer : (a w : ℤ) → pos 1 ≤ℤ w → a <ℤ (a +ℤ w)
  longer a w one = omega (arith, ints, one)

  record IsOnTrack (number : ℕ) : Type 0 where
    interval : Interval
    t : ℕ
    has : HasTrack intervals track number interval t

  on_track : (number : ℕ) → number < ch.nets → IsOnTrack number
  on_track number lt =
      let each = routed.nets.each in
      let long = routed.lowest.each in
      let interval = item_there intervals number (omega (arith, lt, each)) in
      let t = item_there track number (omega (arith, lt, each, long)) in
      record { interval = interval.0; t = t.0; has = record { there = interval.1; on = t.1 } }

  -- a net has one interval and one track
  same_track : (number : ℕ) (a b : Interval) (t u : ℕ) → HasTrack intervals track number a t → HasTrack intervals track number b u → (a ≡ b) × (t ≡ u)
  same_track number a b t u one two = (one_at intervals number a b one.there two.there, one_at track number t u one.on two.on)

  via_listed : (k : ℕ) (x y : ℤ) → IsListing (IsVia wire k x y)
  via_listed k x y = listed_as (IsBox (slice_index wire.cuts k) (x +ℤ margin wire) (y +ℤ margin wire) ((x +ℤ margin wire) +ℤ wire.cut) ((y +ℤ margin wire) +ℤ wire.cut)) (IsVia wire k x y) (λ s h. h) (λ s h. h)
      (one_box (slice_index wire.cuts k) (x +ℤ margin wire) (y +ℤ margin wire) ((x +ℤ margin wire) +ℤ wire.cut) ((y +ℤ margin wire) +ℤ wire.cut) (longer (x +ℤ margin wire) wire.cut sizes.cut.from) (longer (y +ℤ margin wire) wire.cut sizes.cut.from))

  -- Trunks

  abbrev IsTrunkOf : ℕ → Shape → Type 0
  IsTrunkOf number s = (interval : Interval) × (t : ℕ) × HasTrack intervals track number interval t × IsTrunk ch.low wire interval t s

  trunk_listed : (number : ℕ) → number < ch.nets → IsListing (IsTrunkOf number)
  trunk_listed number lt =
      let on = on_track number lt in
      let y = track_y ch.low wire on.t in
      let is = routed.nets.of_net number on.interval on.has.there in
      listed_as (IsTrunk ch.low wire on.interval on.t) (IsTrunkOf number) (λ s h. (on.interval, on.t, on.has, h))
      (λ s h. let same = same_track number h.0 on.interval h.1 on.t h.2 on.has in subst (λ (t : ℕ). IsTrunk ch.low wire on.interval t s) same.1 (subst (λ (a : Interval). IsTrunk ch.low wire a h.1 s) same.0 h.3))
      (one_box (slice_index wire.metals 2) on.interval.left y (on.interval.right +ℤ wire.width) (y +ℤ wire.width) (forward on.interval.left on.interval.right wire.width (is.greatest on.interval.left is.begins) some) (longer y wire.width some))
    where
      forward : (left right w : ℤ) → left ≤ℤ right → pos 1 ≤ℤ w → left <ℤ (right +ℤ w)
      forward left right w a b = omega (arith, ints, a, b)

  -- Branches of a pin

  abbrev IsTopOf : ChannelPin → Shape → Type 0
  IsTopOf pin s = (interval : Interval) × (t : ℕ) × HasTrack intervals track pin.net interval t × IsTopBranch ch.low wire tracks t pin.x s

  abbrev IsBottomOf : ChannelPin → Shape → Type 0
  IsBottomOf pin s = (interval : Interval) × (t : ℕ) × HasTrack intervals track pin.net interval t × IsBottomBranch ch.low wire t pin.x s

  top_listed : (pin : ChannelPin) → pin.net < ch.nets → IsListing (IsTopOf pin)
  top_listed pin lt =
      let on = on_track pin.net lt in
      let y = track_y ch.low wire on.t in
      let high = ch.low +ℤ channel_height wire tracks in
      listed_as (IsTopBranch ch.low wire tracks on.t pin.x) (IsTopOf pin) (λ s h. (on.interval, on.t, on.has, h)) (λ s h. subst (λ (t : ℕ). IsTopBranch ch.low wire tracks t pin.x s) (same_track pin.net h.0 on.interval h.1 on.t h.2 on.has).1 h.3)
      (one_or_other (IsBox (slice_index wire.metals 3) pin.x y (pin.x +ℤ wire.width) high) (IsVia wire 2 pin.x y)
      (one_box (slice_index wire.metals 3) pin.x y (pin.x +ℤ wire.width) high (longer pin.x wire.width some) (under y high wire.width wire.space (track_below ch.low high wire on.t tracks sizes (routed.count.below pin.net on.t on.has.on) refl) some sizes.space.from))
      (via_listed 2 pin.x y))
    where
      under : (y high w space : ℤ) → ((y +ℤ w) +ℤ space) ≤ℤ high → pos 1 ≤ℤ w → pos 1 ≤ℤ space → y <ℤ high
      under y high w space a b c = omega (arith, ints, a, b, c)

  bottom_listed : (pin : ChannelPin) → pin.net < ch.nets → IsListing (IsBottomOf pin)
  bottom_listed pin lt =
      let on = on_track pin.net lt in
      let y = track_y ch.low wire on.t in
      listed_as (IsBottomBranch ch.low wire on.t pin.x) (IsBottomOf pin) (λ s h. (on.interval, on.t, on.has, h)) (λ s h. subst (λ (t : ℕ). IsBottomBranch ch.low wire t pin.x s) (same_track pin.net h.0 on.interval h.1 on.t h.2 on.has).1 h.3)
      (one_or_other (IsBox (slice_index wire.metals 1) pin.x ch.low (pin.x +ℤ wire.width) (y +ℤ wire.width)) (IsVia wire 1 pin.x y)
      (one_box (slice_index wire.metals 1) pin.x ch.low (pin.x +ℤ wire.width) (y +ℤ wire.width) (longer pin.x wire.width some) (over ch.low y wire.width wire.space (track_above ch.low wire on.t sizes) some sizes.space.from))
      (via_listed 1 pin.x y))
    where
      over : (low y w space : ℤ) → (low +ℤ space) ≤ℤ y → pos 1 ≤ℤ w → pos 1 ≤ℤ space → low <ℤ (y +ℤ w)
      over low y w space a b c = omega (arith, ints, a, b, c)

  -- All of them, where the pins' nets are the channel's

  abbrev IsAnyWire : Shape → Type 0
  IsAnyWire s = ((k : ℕ) × (k < ch.nets) × IsTrunkOf k s) ⊎ (((pin : ChannelPin) × Contains ch.top pin × IsTopOf pin s) ⊎ ((pin : ChannelPin) × Contains ch.bottom pin × IsBottomOf pin s))

  of_any : (s : Shape) → IsAnyWire s → (net : ℕ) × IsOfNet ch wire intervals track tracks net s
  of_any s (inl trunk) = (trunk.0, record { interval = trunk.2.0; t = trunk.2.1; has = trunk.2.2; wires = inl trunk.2.3 })
  of_any s (inr (inl top)) = (top.0.net, record { interval = top.2.0; t = top.2.1; has = top.2.2; wires = inr (inl (top.0.x, record { pin = top.0; listed = top.1; at_x = refl; of_net = refl }, top.2.3)) })
  of_any s (inr (inr bottom)) = (bottom.0.net, record { interval = bottom.2.0; t = bottom.2.1; has = bottom.2.2; wires = inr (inr (bottom.0.x, record { pin = bottom.0; listed = bottom.1; at_x = refl; of_net = refl }, bottom.2.3)) })

  to_any : (net : ℕ) (s : Shape) → IsOfNet ch wire intervals track tracks net s → IsAnyWire s
  to_any net s of = by of.wires where
    within : net < ch.nets
    within = let lt = place_below intervals net of.interval of.has.there in let each = routed.nets.each in omega (arith, lt, each)

    by : IsWireOf ch wire tracks net of.interval of.t s → IsAnyWire s
    by (inl trunk) = inl (net, within, (of.interval, of.t, of.has, trunk))
    by (inr (inl (x, pin, branch))) =
        inr (inl (pin.pin, pin.listed, (of.interval, of.t, subst (λ (k : ℕ). HasTrack intervals track k of.interval of.t) (sym pin.of_net) of.has, subst (λ (z : ℤ). IsTopBranch ch.low wire tracks of.t z s) (sym pin.at_x) branch)))
    by (inr (inr (x, pin, branch))) =
        inr (inr (pin.pin, pin.listed, (of.interval, of.t, subst (λ (k : ℕ). HasTrack intervals track k of.interval of.t) (sym pin.of_net) of.has, subst (λ (z : ℤ). IsBottomBranch ch.low wire of.t z s) (sym pin.at_x) branch)))

  -- The list.
  pub drawn_channel : ((pin : ChannelPin) → Contains ch.top pin → pin.net < ch.nets) → ((pin : ChannelPin) → Contains ch.bottom pin → pin.net < ch.nets) → IsDrawnChannel IsMeant wire tracks
  drawn_channel top bottom =
      let any = one_or_other (λ (s : Shape). (k : ℕ) × (k < ch.nets) × IsTrunkOf k s) (λ (s : Shape). ((pin : ChannelPin) × Contains ch.top pin × IsTopOf pin s) ⊎ ((pin : ChannelPin) × Contains ch.bottom pin × IsBottomOf pin s))
      (each_below IsTrunkOf ch.nets (λ k lt. trunk_listed k lt))
      (one_or_other (λ (s : Shape). (pin : ChannelPin) × Contains ch.top pin × IsTopOf pin s) (λ (s : Shape). (pin : ChannelPin) × Contains ch.bottom pin × IsBottomOf pin s)
      (each_listed IsTopOf ch.top (λ pin listed. top_listed pin (top pin listed))) (each_listed IsBottomOf ch.bottom (λ pin listed. bottom_listed pin (bottom pin listed)))) in
      record { channel = ch; intervals = intervals; track = track; routed = routed; list = any.list; wires = record { all = λ net s of. any.all s (to_any net s of); only = λ s listed. of_any s (any.only s listed) } }

-- So it is of the one route of a drawn memory's channel.
pub route_drawn : (IsMeant : Channel → Type 0) (wire : Wire) (tracks : ℕ) (route : IsOneRoute IsMeant wire tracks) → IsLowest (pitch wire) route.intervals route.track → AreSizes wire
    → ((number : ℕ) (x : ℤ) → IsPinOf route.channel.top number x → number < route.channel.nets) → ((number : ℕ) (x : ℤ) → IsPinOf route.channel.bottom number x → number < route.channel.nets) → IsDrawnChannel IsMeant wire tracks
route_drawn IsMeant wire tracks route lowest sizes top bottom =
    drawn_channel IsMeant wire tracks route.channel route.intervals route.track (record { meant = route.meant; nets = route.nets; lowest = lowest; count = route.count }) sizes
    (λ pin listed. top pin.net pin.x (record { pin = pin; listed = listed; at_x = refl; of_net = refl })) (λ pin listed. bottom pin.net pin.x (record { pin = pin; listed = listed; at_x = refl; of_net = refl }))
