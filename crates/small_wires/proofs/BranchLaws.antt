-- Each pin of a routed channel has its branch.
use Rattle.std.proofs.Common.{◌≡◌, ◌⊎◌, inl, inr, ℕ, ◌<◌, ℤ, pos, ◌+ℤ◌, ◌≤ℤ◌, ◌<ℤ◌, List, Some, refl, arith}
use Rattle.std.specs.Prelude.{slice_get, slice_index}
use Rattle.std.proofs.lemmas.Int.{ints}
use Rattle.or_geom.specs.declared.shape.Shape.{Shape}
use Rattle.tech_rules.specs.declared.tech.Wire.{Wire}
use Rattle.wire_drawing.specs.Drawing.{IsBox, pitch}
use Rattle.tech_rules.specs.Facts.{AreSizes}
use Rattle.tech_rules.specs.WireRules.{margin}
use Rattle.tech_rules.proofs.WireLaws.{two_margins, margin_positive}
use Rattle.channel_router.specs.declared.channel.Channel.{Channel}
use Rattle.channel_router.specs.declared.channel.Interval.{Interval}
use Rattle.channel_router.specs.Channel.{IsPinOf}
use Rattle.channel_router.specs.Tracks.{HasTrack, IsLowest}
use Rattle.channel_router.specs.Wires.{IsWireOf, track_y, channel_height}
use Rattle.sram_netlist.specs.Nets.{Net}
use Rattle.macro_layout.specs.Channels.{IsRoutedBy}
use Rattle.good_wires.specs.Drawn.{IsOneRoute}
use Rattle.good_wires.proofs.LevelLaws.{track_above, track_below}
use Rattle.joined_nets.specs.WireNets.{IsChannelWireOf}
use Rattle.joined_nets.proofs.WireNetLaws.{item_there}
use Rattle.kit_nets.proofs.ChannelDrawnLaws.{box_there}

module _ (IsMeant : Channel → Type 0) (wire : Wire) (tracks : ℕ) (sizes : AreSizes wire) (route : IsOneRoute IsMeant wire tracks) (lowest : IsLowest (pitch wire) route.intervals route.track) where
  routed : IsRoutedBy IsMeant wire tracks route.channel route.intervals route.track
  routed = record { meant = route.meant; nets = route.nets; lowest = lowest; count = route.count }

  record Tracked (number : ℕ) : Type 0 where
    interval : Interval
    t : ℕ
    has : HasTrack route.intervals route.track number interval t

  tracked : (number : ℕ) → number < route.channel.nets → Tracked number
  tracked number lt =
      let each = route.nets.each in
      let long = lowest.each in
      let interval = item_there route.intervals number (omega (arith, lt, each)) in
      let t = item_there route.track number (omega (arith, lt, each, long)) in
      record { interval = interval.0; t = t.0; has = record { there = interval.1; on = t.1 } }

  -- the branch of a pin, a wire of the pin's net
  pub record HasBranch (nets : List Net) (n : Net) (layer : ℕ) (x low high : ℤ) : Type 0 where
    pub u : Shape
    pub is : IsChannelWireOf IsMeant wire tracks nets n u
    pub box : IsBox layer x low (x +ℤ wire.width) high u

  -- from the channel's lower end, a space and a wire's width at least
  pub bottom_there : (nets : List Net) (number : ℕ) (n : Net) (x : ℤ) → slice_get nets number ≡ Some n → number < route.channel.nets → IsPinOf route.channel.bottom number x → (high : ℤ) × HasBranch nets n (slice_index wire.metals 1) x route.channel.low high × ((route.channel.low +ℤ (wire.space +ℤ wire.width)) ≤ℤ high)
  bottom_there nets number n x named lt pin =
      let on = tracked number lt in
      let y = track_y route.channel.low wire on.t in
      let w = sizes.width.from in
      let sp = sizes.space.from in
      let above = track_above route.channel.low wire on.t sizes in
      let box = box_there (slice_index wire.metals 1) x route.channel.low (x +ℤ wire.width) (y +ℤ wire.width) (wider x wire.width w) (up route.channel.low y wire.space wire.width above sp w) in (
        y +ℤ wire.width,
        record { u = box.0; is = record { channel = route.channel; intervals = route.intervals; track = route.track; routed = routed; number = number; named = named; drawn = record { interval = on.interval; t = on.t; has = on.has; wires = inr (inr (x, pin, inl box.1)) } }; box = box.1 },
        long route.channel.low y wire.space wire.width above,
      )
    where
      wider : (x w : ℤ) → pos 1 ≤ℤ w → x <ℤ (x +ℤ w)
      wider x w a = omega (arith, ints, a)

      up : (low y sp w : ℤ) → (low +ℤ sp) ≤ℤ y → pos 1 ≤ℤ sp → pos 1 ≤ℤ w → low <ℤ (y +ℤ w)
      up low y sp w a b c = omega (arith, ints, a, b, c)

      long : (low y sp w : ℤ) → (low +ℤ sp) ≤ℤ y → (low +ℤ (sp +ℤ w)) ≤ℤ (y +ℤ w)
      long low y sp w a = omega (arith, ints, a)

  -- from the channel's upper end down
  pub top_there : (nets : List Net) (number : ℕ) (n : Net) (x : ℤ) → slice_get nets number ≡ Some n → number < route.channel.nets → IsPinOf route.channel.top number x
      → (low : ℤ) × HasBranch nets n (slice_index wire.metals 3) x low (route.channel.low +ℤ channel_height wire tracks) × ((low +ℤ (wire.space +ℤ wire.width)) ≤ℤ (route.channel.low +ℤ channel_height wire tracks))
  top_there nets number n x named lt pin =
      let on = tracked number lt in
      let y = track_y route.channel.low wire on.t in
      let w = sizes.width.from in
      let sp = sizes.space.from in
      let below = track_below route.channel.low (route.channel.low +ℤ channel_height wire tracks) wire on.t tracks sizes (route.count.below number on.t on.has.on) refl in
      let box = box_there (slice_index wire.metals 3) x y (x +ℤ wire.width) (route.channel.low +ℤ channel_height wire tracks) (wider x wire.width w) (up y (route.channel.low +ℤ channel_height wire tracks) wire.space wire.width below sp w) in (
        y,
        record { u = box.0; is = record { channel = route.channel; intervals = route.intervals; track = route.track; routed = routed; number = number; named = named; drawn = record { interval = on.interval; t = on.t; has = on.has; wires = inr (inl (x, pin, inl box.1)) } }; box = box.1 },
        long y (route.channel.low +ℤ channel_height wire tracks) wire.space wire.width below,
      )
    where
      wider : (x w : ℤ) → pos 1 ≤ℤ w → x <ℤ (x +ℤ w)
      wider x w a = omega (arith, ints, a)

      up : (y h sp w : ℤ) → ((y +ℤ w) +ℤ sp) ≤ℤ h → pos 1 ≤ℤ sp → pos 1 ≤ℤ w → y <ℤ h
      up y h sp w a b c = omega (arith, ints, a, b, c)

      long : (y h sp w : ℤ) → ((y +ℤ w) +ℤ sp) ≤ℤ h → (y +ℤ (sp +ℤ w)) ≤ℤ h
      long y h sp w a = omega (arith, ints, a)

-- The wires of a channel: what stays a space off its ends, and the branches

pub record IsInChannel (wire : Wire) (low high : ℤ) (t : Shape) : Type 0 where
  pub above : (low +ℤ wire.space) ≤ℤ t.rect.y1
  pub below : (t.rect.y2 +ℤ wire.space) ≤ℤ high

module _ (IsMeant : Channel → Type 0) (wire : Wire) (tracks : ℕ) (nets : List Net) (n : Net) (t : Shape) (w : IsChannelWireOf IsMeant wire tracks nets n t) where
  pub record IsTopBox : Type 0 where
    pub x : ℤ
    pub y : ℤ
    pub pin : IsPinOf w.channel.top w.number x
    pub box : IsBox (slice_index wire.metals 3) x y (x +ℤ wire.width) (w.channel.low +ℤ channel_height wire tracks) t
    pub above : (w.channel.low +ℤ wire.space) ≤ℤ y

  pub record IsBottomBox : Type 0 where
    pub x : ℤ
    pub y : ℤ
    pub pin : IsPinOf w.channel.bottom w.number x
    pub box : IsBox (slice_index wire.metals 1) x w.channel.low (x +ℤ wire.width) y t
    pub below : (y +ℤ wire.space) ≤ℤ (w.channel.low +ℤ channel_height wire tracks)

  abbrev pub Kind : Type 0
  Kind = IsInChannel wire w.channel.low (w.channel.low +ℤ channel_height wire tracks) t ⊎ (IsTopBox ⊎ IsBottomBox)

  pub channel_kind : AreSizes wire → Kind
  channel_kind sizes = by w.drawn.wires where
    y : ℤ
    y = track_y w.channel.low wire w.drawn.t

    high : ℤ
    high = w.channel.low +ℤ channel_height wire tracks

    over : (w.channel.low +ℤ wire.space) ≤ℤ track_y w.channel.low wire w.drawn.t
    over = track_above w.channel.low wire w.drawn.t sizes

    under : ((track_y w.channel.low wire w.drawn.t +ℤ wire.width) +ℤ wire.space) ≤ℤ (w.channel.low +ℤ channel_height wire tracks)
    under = track_below w.channel.low (w.channel.low +ℤ channel_height wire tracks) wire w.drawn.t tracks sizes (w.routed.count.below w.number w.drawn.t w.drawn.has.on) refl

    via : (x : ℤ) (k : ℕ) → IsBox (slice_index wire.cuts k) (x +ℤ margin wire) (track_y w.channel.low wire w.drawn.t +ℤ margin wire) ((x +ℤ margin wire) +ℤ wire.cut) ((track_y w.channel.low wire w.drawn.t +ℤ margin wire) +ℤ wire.cut) t → Kind
    via x k box = inl (record {
      above = go w.channel.low wire.space (track_y w.channel.low wire w.drawn.t) (margin wire) t.rect.y1 over (margin_positive wire sizes) box.low;
      below = og wire.space (track_y w.channel.low wire w.drawn.t) (margin wire) wire.cut wire.width t.rect.y2 (w.channel.low +ℤ channel_height wire tracks) under (margin_positive wire sizes) (two_margins wire sizes) box.high;
    }) where
      go : (low sp y m t1 : ℤ) → (low +ℤ sp) ≤ℤ y → pos 1 ≤ℤ m → t1 ≡ y +ℤ m → (low +ℤ sp) ≤ℤ t1
      go low sp y m t1 a b e = omega (arith, ints, a, b, e)

      og : (sp y m c w t2 h : ℤ) → ((y +ℤ w) +ℤ sp) ≤ℤ h → pos 1 ≤ℤ m → w ≡ c +ℤ (m +ℤ m) → t2 ≡ (y +ℤ m) +ℤ c → (t2 +ℤ sp) ≤ℤ h
      og sp y m c w t2 h a b e k = omega (arith, ints, a, b, e, k)

    by : IsWireOf w.channel wire tracks w.number w.drawn.interval w.drawn.t t → Kind
    by (inl trunk) = inl (record { above = go w.channel.low wire.space (track_y w.channel.low wire w.drawn.t) t.rect.y1 over trunk.low; below = og wire.space (track_y w.channel.low wire w.drawn.t) wire.width t.rect.y2 (w.channel.low +ℤ channel_height wire tracks) under trunk.high }) where
      go : (low sp y t1 : ℤ) → (low +ℤ sp) ≤ℤ y → t1 ≡ y → (low +ℤ sp) ≤ℤ t1
      go low sp y t1 a e = omega (arith, ints, a, e)

      og : (sp y w t2 h : ℤ) → ((y +ℤ w) +ℤ sp) ≤ℤ h → t2 ≡ y +ℤ w → (t2 +ℤ sp) ≤ℤ h
      og sp y w t2 h a k = omega (arith, ints, a, k)
    by (inr (inl (x, pin, inl box))) = inr (inl (record { x = x; y = track_y w.channel.low wire w.drawn.t; pin = pin; box = box; above = over }))
    by (inr (inl (x, pin, inr cut))) = via x 2 cut
    by (inr (inr (x, pin, inl box))) = inr (inr (record { x = x; y = track_y w.channel.low wire w.drawn.t +ℤ wire.width; pin = pin; box = box; below = under }))
    by (inr (inr (x, pin, inr cut))) = via x 1 cut
