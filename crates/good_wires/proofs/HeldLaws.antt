-- Wires hold the cuts between them.
use Rattle.std.proofs.Common.{◌≡◌, ◌⊎◌, inl, inr, ◌∙◌, ℕ, ◌+◌, ◌*◌, ◌<◌, ◌≤◌, ℤ, pos, ◌+ℤ◌, ◌*ℤ◌, ◌≤ℤ◌, ◌<ℤ◌, ◌++◌, refl, sym, subst, arith}
use Rattle.std.specs.Prelude.{slice_index}
use Rattle.std.proofs.lemmas.Bool.{cases_eq}
use Rattle.std.proofs.lemmas.Int.{ints}
use Rattle.std.proofs.lemmas.List.Elements.{Contains-append_left, Contains-append_right}
use Rattle.or_geom.specs.declared.shape.Shape.{Shape}
use Rattle.tech_rules.specs.declared.tech.Wire.{Wire}
use Rattle.wire_drawing.specs.Drawing.{IsBox, IsVia}
use Rattle.channel_router.specs.declared.channel.Channel.{Channel}
use Rattle.channel_router.specs.Channel.{IsPinOf, places}
use Rattle.channel_router.specs.Intervals.{IsIntervalOf}
use Rattle.channel_router.specs.Wires.{IsWireOf, channel_height, track_y}
use Rattle.sram_netlist.specs.Organization.{Organization}
use Rattle.macro_layout.specs.LayoutKit.{LayoutKit}
use Rattle.macro_layout.specs.Places.{Floorplan}
use Rattle.macro_layout.specs.Floorplan.{Tracks, upper_y}
use Rattle.macro_layout.specs.Wires.{IsWireInBank, IsTapAt, IsBar, IsSupplyTrunk, trunk_x, ground_x}
use Rattle.macro_layout.specs.Stated.{IsShifted}
use Rattle.good_wires.proofs.TapLaws.{tap_low}
use Rattle.good_wires.specs.Drawn.{IsDrawnMemory, IsDrawnWire}
use Rattle.good_wires.proofs.LayerLaws.{cut_no_metal}
use Rattle.good_wires.proofs.LevelLaws.{track_above, track_below}
use Rattle.tech_rules.specs.WireRules.{margin}
use Rattle.tech_rules.proofs.WireLaws.{two_margins}
use Rattle.tech_rules.specs.Facts.{AreSizes}
use Rattle.macro_layout.specs.Channels.{IsChannelWire}
use Rattle.macro_layout.specs.Stated.{IsWireInBanks}
use Rattle.good_wires.proofs.FitLaws.{FitsInside, same, power_fits, ground_fits}
use Rattle.good_wires.specs.Held.{IsCutHeld, CutsAreHeld, DoRailsReach}
use Rattle.good_wires.proofs.LayerLaws.{cuts_differ}
use Rattle.good_wires.proofs.WideLaws as wide

-- a box that goes beyond a cut's square holds the cut
in_square : (x m c w left right : ℤ) → w ≡ c +ℤ (m +ℤ m) → left ≤ℤ x → (x +ℤ w) ≤ℤ right → ((left +ℤ m) ≤ℤ (x +ℤ m)) × ((((x +ℤ m) +ℤ c) +ℤ m) ≤ℤ right)
in_square x m c w left right two a b = (omega (arith, ints, a), omega (arith, ints, two, b))

longer_than : (a b w c : ℤ) → pos 1 ≤ℤ w → a ≤ℤ b → (b +ℤ w) ≤ℤ c → a <ℤ c
longer_than a b w c one le lt = omega (arith, ints, one, le, lt)

from_low : (a m s z : ℤ) → (a +ℤ m) ≤ℤ z → s ≡ z → (a +ℤ m) ≤ℤ s
from_low a m s z le e = omega (arith, ints, le, e)

to_high : (s m z b : ℤ) → (z +ℤ m) ≤ℤ b → s ≡ z → (s +ℤ m) ≤ℤ b
to_high s m z b le e = omega (arith, ints, le, e)

pub held : (IsWire : Shape → Type 0) (wire : Wire) (j metal : ℕ) (x y x1 y1 x2 y2 : ℤ) (s : Shape) → AreSizes wire → IsVia wire j x y s
    → ((h : Shape) → IsBox (slice_index wire.metals metal) x1 y1 x2 y2 h → IsWire h)
    → x1 ≤ℤ x → (x +ℤ wire.width) ≤ℤ x2 → y1 ≤ℤ y → (y +ℤ wire.width) ≤ℤ y2 → IsCutHeld IsWire wire metal s
held IsWire wire j metal x y x1 y1 x2 y2 s sizes via make left right low high =
    let two = two_margins wire sizes in
    let across = in_square x (margin wire) wire.cut wire.width x1 x2 two left right in
    let upward = in_square y (margin wire) wire.cut wire.width y1 y2 two low high in
    record {
      holder = holder;
      is = make holder (record { on = refl; left = refl; low = refl; right = refl; high = refl });
      on = refl;
      left = from_low x1 (margin wire) s.rect.x1 (x +ℤ margin wire) across.0 via.left;
      right = to_high s.rect.x2 (margin wire) ((x +ℤ margin wire) +ℤ wire.cut) x2 across.1 via.right;
      low = from_low y1 (margin wire) s.rect.y1 (y +ℤ margin wire) upward.0 via.low;
      high = to_high s.rect.y2 (margin wire) ((y +ℤ margin wire) +ℤ wire.cut) y2 upward.1 via.high;
    }
  where
    holder : Shape
    holder = record {
      layer = slice_index wire.metals metal;
      rect = record {
        x1 = x1;
        y1 = y1;
        x2 = x2;
        y2 = y2;
        wide = longer_than x1 x wire.width x2 sizes.width.from left right;
        tall = longer_than y1 y wire.width y2 sizes.width.from low high;
      };
    }

-- a cut and the wires that hold it, or no cut
abbrev pub Cuts : (Shape → Type 0) → Wire → Shape → Type 0
Cuts IsWire wire s = ((j : ℕ) × (j < 3) × (s.layer ≡ slice_index wire.cuts j) × IsCutHeld IsWire wire j s × IsCutHeld IsWire wire (j + 1) s) ⊎ ((i : ℕ) × (i < 4) × (s.layer ≡ slice_index wire.metals i))

other_kind : (P Q : Shape → Type 0) (wire : Wire) (metal : ℕ) (s : Shape) → ((h : Shape) → P h → Q h) → IsCutHeld P wire metal s → IsCutHeld Q wire metal s
other_kind P Q wire metal s to h = record { holder = h.holder; is = to h.holder h.is; on = h.on; left = h.left; right = h.right; low = h.low; high = h.high }

pub other_cuts : (P Q : Shape → Type 0) (wire : Wire) (s : Shape) → ((h : Shape) → P h → Q h) → Cuts P wire s → Cuts Q wire s
other_cuts P Q wire s to (inl (j, lt, on, a, b)) = inl (j, lt, on, other_kind P Q wire j s to a, other_kind P Q wire (j + 1) s to b)
other_cuts P Q wire s to (inr metal) = inr metal

-- Of a channel

pub longer : (x y w : ℤ) → x ≤ℤ y → (x +ℤ w) ≤ℤ (y +ℤ w)
longer x y w le = omega (arith, ints, le)

channel : (IsMeant : Channel → Type 0) (wire : Wire) (tracks : ℕ) (s : Shape) → AreSizes wire → IsChannelWire IsMeant wire tracks s → Cuts (IsChannelWire IsMeant wire tracks) wire s
channel IsMeant wire tracks s sizes c = by c.drawn.wires where
  ch : Channel
  ch = c.channel

  y : ℤ
  y = track_y ch.low wire c.drawn.t

  again : (h : Shape) → IsWireOf ch wire tracks c.net c.drawn.interval c.drawn.t h → IsChannelWire IsMeant wire tracks h
  again h is = record { channel = ch; intervals = c.intervals; track = c.track; routed = c.routed; net = c.net; drawn = record { interval = c.drawn.interval; t = c.drawn.t; has = c.drawn.has; wires = is } }

  interval_is : IsIntervalOf (places ch) c.net c.drawn.interval
  interval_is = c.routed.nets.of_net c.net c.drawn.interval c.drawn.has.there

  from_top : (x : ℤ) → IsPinOf ch.top c.net x → IsPinOf (places ch) c.net x
  from_top x p = record { pin = p.pin; listed = Contains-append_left (ch.top ++ ch.bottom) ch.exits p.pin (Contains-append_left ch.top ch.bottom p.pin p.listed); at_x = p.at_x; of_net = p.of_net }

  from_bottom : (x : ℤ) → IsPinOf ch.bottom c.net x → IsPinOf (places ch) c.net x
  from_bottom x p = record { pin = p.pin; listed = Contains-append_left (ch.top ++ ch.bottom) ch.exits p.pin (Contains-append_right ch.top ch.bottom p.pin p.listed); at_x = p.at_x; of_net = p.of_net }

  by_trunk : (j : ℕ) (x : ℤ) → IsPinOf (places ch) c.net x → IsVia wire j x y s → IsCutHeld (IsChannelWire IsMeant wire tracks) wire 2 s
  by_trunk j x p via =
      held (IsChannelWire IsMeant wire tracks) wire j 2 x y c.drawn.interval.left y (c.drawn.interval.right +ℤ wire.width) (y +ℤ wire.width) s sizes via (λ h box. again h (inl box))
      (interval_is.least x p) (longer x c.drawn.interval.right wire.width (interval_is.greatest x p)) (same y) (same (y +ℤ wire.width))

  low : ch.low ≤ℤ y
  low = let a = track_above ch.low wire c.drawn.t sizes in let sp = sizes.space.from in go ch.low wire.space y a sp where
    go : (l s y : ℤ) → (l +ℤ s) ≤ℤ y → pos 1 ≤ℤ s → l ≤ℤ y
    go l s y a b = omega (arith, ints, a, b)

  high : (y +ℤ wire.width) ≤ℤ (ch.low +ℤ channel_height wire tracks)
  high = let b = track_below ch.low (ch.low +ℤ channel_height wire tracks) wire c.drawn.t tracks sizes (c.routed.count.below c.net c.drawn.t c.drawn.has.on) refl in go (y +ℤ wire.width) wire.space (ch.low +ℤ channel_height wire tracks) b sizes.space.from where
    go : (a s b : ℤ) → (a +ℤ s) ≤ℤ b → pos 1 ≤ℤ s → a ≤ℤ b
    go a s b le one = omega (arith, ints, le, one)

  by : IsWireOf ch wire tracks c.net c.drawn.interval c.drawn.t s → Cuts (IsChannelWire IsMeant wire tracks) wire s
  by (inl trunk) = inr (2, omega arith, trunk.on)
  by (inr (inl (x, p, inl box))) = inr (3, omega arith, box.on)
  by (inr (inl (x, p, inr via))) = inl (
    2,
    omega arith,
    via.on,
    by_trunk 2 x (from_top x p) via,
    held (IsChannelWire IsMeant wire tracks) wire 2 3 x y x y (x +ℤ wire.width) (ch.low +ℤ channel_height wire tracks) s sizes via (λ h box. again h (inr (inl (x, p, inl box)))) (same x) (same (x +ℤ wire.width)) (same y) high,
  )
  by (inr (inr (x, p, inl box))) = inr (1, omega arith, box.on)
  by (inr (inr (x, p, inr via))) = inl (
    1,
    omega arith,
    via.on,
    held (IsChannelWire IsMeant wire tracks) wire 1 1 x y x ch.low (x +ℤ wire.width) (y +ℤ wire.width) s sizes via (λ h box. again h (inr (inr (x, p, inl box)))) (same x) (same (x +ℤ wire.width)) low (same (y +ℤ wire.width)),
    by_trunk 1 x (from_bottom x p) via,
  )

-- What is moved along holds what is moved so too.
pub held_moved : (From To : Shape → Type 0) (wire : Wire) (metal : ℕ) (dx : ℤ) (inner s : Shape) → ((h moved : Shape) → From h → IsShifted dx (pos 0) h moved → To moved) → IsShifted dx (pos 0) inner s → IsCutHeld From wire metal inner → IsCutHeld To wire metal s
held_moved From To wire metal dx inner s there sh h = record {
  holder = moved;
  is = there h.holder moved h.is (record { layer = refl; x1 = refl; y1 = refl; x2 = refl; y2 = refl });
  on = h.on;
  left = up h.holder.rect.x1 inner.rect.x1 s.rect.x1 (margin wire) dx h.left sh.x1;
  right = down h.holder.rect.x2 inner.rect.x2 s.rect.x2 (margin wire) dx h.right sh.x2;
  low = up h.holder.rect.y1 inner.rect.y1 s.rect.y1 (margin wire) (pos 0) h.low sh.y1;
  high = down h.holder.rect.y2 inner.rect.y2 s.rect.y2 (margin wire) (pos 0) h.high sh.y2;
} where
  still_less : (a b d : ℤ) → a <ℤ b → (a +ℤ d) <ℤ (b +ℤ d)
  still_less a b d lt = omega (arith, ints, lt)

  moved : Shape
  moved = record {
    layer = h.holder.layer;
    rect = record {
      x1 = h.holder.rect.x1 +ℤ dx;
      y1 = h.holder.rect.y1 +ℤ pos 0;
      x2 = h.holder.rect.x2 +ℤ dx;
      y2 = h.holder.rect.y2 +ℤ pos 0;
      wide = still_less h.holder.rect.x1 h.holder.rect.x2 dx h.holder.rect.wide;
      tall = still_less h.holder.rect.y1 h.holder.rect.y2 (pos 0) h.holder.rect.tall;
    };
  }

  up : (a i s m d : ℤ) → (a +ℤ m) ≤ℤ i → s ≡ i +ℤ d → ((a +ℤ d) +ℤ m) ≤ℤ s
  up a i s m d le e = omega (arith, ints, le, e)

  down : (a i s m d : ℤ) → (i +ℤ m) ≤ℤ a → s ≡ i +ℤ d → (s +ℤ m) ≤ℤ (a +ℤ d)
  down a i s m d le e = omega (arith, ints, le, e)

-- A bar to a trunk of a supply, with its cut.
pub bar_cuts : (Drawn : Shape → Type 0) (kit : LayoutKit) (wire : Wire) (f : Floorplan) (trunk x y : ℤ) (s : Shape) → AreSizes wire → (x +ℤ wire.width) ≤ℤ (trunk +ℤ wire.width) → FitsInside kit wire f y → ((h : Shape) → IsBar wire trunk x y h → Drawn h) → ((h : Shape) → IsSupplyTrunk kit wire f trunk h → Drawn h) → IsBar wire trunk x y s → Cuts Drawn wire s
bar_cuts Drawn kit wire f trunk x y s sizes le fits of_bar of_trunk (inl box) = inr (0, omega arith, box.on)
bar_cuts Drawn kit wire f trunk x y s sizes le fits of_bar of_trunk (inr via) = inl (
  0,
  omega arith,
  via.on,
  held Drawn wire 0 0 trunk y x y (trunk +ℤ wire.width) (y +ℤ wire.width) s sizes via (λ h box. of_bar h (inl box)) (shorter x trunk wire.width le) (same (trunk +ℤ wire.width)) (same y) (same (y +ℤ wire.width)),
  held Drawn wire 0 1 trunk y trunk (pos 0) (trunk +ℤ wire.width) (upper_y kit f) s sizes via (λ h box. of_trunk h box) (same trunk) (same (trunk +ℤ wire.width)) fits.low fits.high,
) where
  shorter : (x t w : ℤ) → (x +ℤ w) ≤ℤ (t +ℤ w) → x ≤ℤ t
  shorter x t w le = omega (arith, ints, le)

module _ (plan : Organization) (kit : LayoutKit) (wire : Wire) (tracks : Tracks) (f : Floorplan) (m : IsDrawnMemory plan kit wire tracks f) (words : 0 < plan.word_size) (tops : DoRailsReach plan kit wire tracks.column f) where
  abbrev InBank : Shape → Type 0
  InBank = IsWireInBank plan kit wire tracks f

  abbrev Drawn : Shape → Type 0
  Drawn = IsDrawnWire plan kit wire tracks f

  tap : (s : Shape) (x y end : ℤ) → IsTapAt plan kit wire tracks.column f x y end → IsVia wire 2 x y s → Cuts InBank wire s
  tap s x y end is via =
      let top = tops x y end is in
      inl (
        2,
        omega arith,
        via.on,
        held InBank wire 2 2 x y x y end (y +ℤ wire.width) s m.laid.sizes via (λ h box. inr (inl (record { x = x; y = y; end = end; tap = is; drawn = inl box }))) (same x) (wide.tap_long plan kit wire tracks f m words x y end is) (same y) (same (y +ℤ wire.width)),
        held InBank wire 2 3 x y x f.write_y (x +ℤ wire.width) (top.top +ℤ wire.width) s m.laid.sizes via (λ h box. inr (inr (inl (record { x = x; y = top.top; end = top.end; tap = top.tap; highest = top.highest; drawn = box })))) (same x) (same (x +ℤ wire.width))
            (tap_low plan kit wire tracks f x y end m is) (longer y top.top wire.width (top.highest y end is)),
      )

  in_bank : (s : Shape) → InBank s → Cuts InBank wire s
  in_bank s (inl c) = other_cuts _ InBank wire s (λ h is. inl is) (channel _ wire tracks.column s m.laid.sizes c)
  in_bank s (inr (inl t)) = elim t.drawn [
    | inl box ↦ inr (2, omega arith, box.on)
    | inr via ↦ tap s t.x t.y t.end t.tap via
  ]
  in_bank s (inr (inr (inl rail))) = inr (3, omega arith, rail.drawn.on)
  in_bank s (inr (inr (inr (inl out)))) = inr (3, omega arith, out.drawn.on)
  in_bank s (inr (inr (inr (inr (inl joiner))))) = inr (0, omega arith, joiner.1.on)
  in_bank s (inr (inr (inr (inr (inr joiner))))) = inr (0, omega arith, joiner.on)

  banks : (s : Shape) → IsWireInBanks plan kit wire tracks f s → Cuts Drawn wire s
  banks s b = put (in_bank b.inner b.is) where
    -- a bank's wires stand so far right
    move : (metal : ℕ) → IsCutHeld InBank wire metal b.inner → IsCutHeld Drawn wire metal s
    move metal = held_moved InBank Drawn wire metal (pos b.bank *ℤ f.bank_width) b.inner s (λ h moved is sh. inr (record { bank = b.bank; below = b.below; inner = h; is = is; shifted = sh })) b.shifted

    put : Cuts InBank wire b.inner → Cuts Drawn wire s
    put (inl (j, lt, on, under, over)) = inl (j, lt, b.shifted.layer ∙ on, move j under, move (j + 1) over)
    put (inr (i, lt, on)) = inr (i, lt, b.shifted.layer ∙ on)

  cuts : (s : Shape) → Drawn s → Cuts Drawn wire s
  cuts s (inl (inl c)) = other_cuts _ Drawn wire s (λ h is. inl (inl is)) (channel _ wire tracks.main s m.laid.sizes c)
  cuts s (inl (inr (inl (inl trunk)))) = inr (1, omega arith, trunk.on)
  cuts s (inl (inr (inl (inr (x, y, at, is))))) =
      bar_cuts Drawn kit wire f (trunk_x plan kit wire f) x y s m.laid.sizes (wide.contents plan kit wire tracks f m words x (wide.power_from plan kit wire tracks f m words x y at)) (power_fits plan kit wire tracks f m x y at) (λ h b. inl (inr (inl (inr (x, y, at, b))))) (λ h t. inl (inr (inl (inl t)))) is
  cuts s (inl (inr (inr (inl trunk)))) = inr (1, omega arith, trunk.on)
  cuts s (inl (inr (inr (inr (x, y, at, is))))) =
      bar_cuts Drawn kit wire f (ground_x plan kit wire f) x y s m.laid.sizes (wide.ground plan kit wire tracks f m words x (wide.contents plan kit wire tracks f m words x (wide.ground_from plan kit wire tracks f m words x y at))) (ground_fits plan kit wire tracks f m x y at) (λ h b. inl (inr (inr (inr (x, y, at, b))))) (λ h t. inl (inr (inr (inl t)))) is
  cuts s (inr b) = banks s b

  -- each wire stands on a metal or on a cut
  pub wire_layer : (s : Shape) → Drawn s → ((i : ℕ) × (i < 4) × (s.layer ≡ slice_index wire.metals i)) ⊎ ((j : ℕ) × (j < 3) × (s.layer ≡ slice_index wire.cuts j))
  wire_layer s is = elim (cuts s is) [ inl cut ↦ inr (cut.0, cut.1, cut.2) | inr metal ↦ inl metal ]

  pub which : (k : ℕ) → k < 3 → (s : Shape) → Drawn s → s.layer ≡ slice_index wire.cuts k → IsCutHeld Drawn wire k s × IsCutHeld Drawn wire (k + 1) s
  which k few s is on = by (cuts s is) where
    by : Cuts Drawn wire s → IsCutHeld Drawn wire k s × IsCutHeld Drawn wire (k + 1) s
    by (inr (i, lt, layer)) = absurd (cut_no_metal wire k i m.seven few lt (sym on ∙ layer))
    by (inl (j, lt, layer, under, over)) = elim (cases_eq j k) [
      | inl e ↦ (subst (λ (i : ℕ). IsCutHeld Drawn wire i s) e under, subst (λ (i : ℕ). IsCutHeld Drawn wire (i + 1) s) e over)
      | inr differ ↦ absurd (cuts_differ wire j k m.seven lt few differ (sym layer ∙ on))
    ]

pub cuts_are_held : CutsAreHeld
cuts_are_held plan kit wire tracks f m words tops k few s is on = which plan kit wire tracks f m words tops k few s is on
