-- A channel's intervals, its tracks and its shapes.
use Rattle.std.proofs.Common.{◌≡◌, ◌⊎◌, inl, inr, ℕ, zero, suc, ◌<◌, ℤ, pos, negsuc, ◌+ℤ◌, ◌≤ℤ◌, List, [], ◌∷◌, ◌++◌, length, get_or, refl, sym, ap, subst, ◌∙◌, append_assoc, arith, ◌*◌, ◌-ℤ◌, ◌+◌, ◌≤◌}
use Rattle.std.specs.Prelude.{Contains, Option, slice_get, slice_index, slice_set, None, Some}
use Rattle.std.specs.Int.{int_max, int_min}
use Rattle.std.proofs.lemmas.Int.{ints, by_lt_z}
use Rattle.std.proofs.lemmas.Bool.{cases_eq}
use Rattle.std.proofs.lemmas.List.{append-nil, length-set}
use Rattle.std.proofs.lemmas.List.Elements.{All-contains}
use Rattle.std.proofs.lemmas.Option.{slice_get-get_or, slice_get_within}
use Rattle.or_geom.specs.Distance.{IsNear}
use Rattle.or_geom.specs.declared.shape.Shape.{Shape}
use Rattle.or_geom.proofs.ListLaws.{contains_first, contains_later, contains_none, one_at}
use Rattle.tech_rules.specs.declared.tech.Wire.{Wire}
use Rattle.wire_drawing.specs.Drawing.{IsBox, IsVia, pitch}
use Rattle.tech_rules.specs.Facts.{AreSizes}
use Rattle.channel_router.specs.declared.channel.Channel.{Channel}
use Rattle.channel_router.specs.declared.channel.ChannelPin.{ChannelPin}
use Rattle.channel_router.specs.declared.channel.Interval.{Interval}
use Rattle.channel_router.specs.declared.channel.Routed.{Routed}
use Rattle.channel_router.specs.Channel.{AreOfNets, ArePinsNear, IsChannel, IsPinOf}
use Rattle.channel_router.specs.Hull.{AreHulls}
use Rattle.channel_router.specs.Intervals.{AreIntervals}
use Rattle.channel_router.specs.Routed.{pin_xs}
use Rattle.channel_router.specs.Wires.{AreWires, IsBottomBranch, IsOfNet, IsTopBranch, IsTrunk, IsWireOf, channel_height, track_y}
use Rattle.channel_router.proofs.PinLaws.{empty_hulls, hulls_are_intervals, hulls_more}
use Rattle.channel_router.proofs.PinListLaws.{pin_cases}
use Rattle.channel_router.proofs.RouteLaws.{forward}
use Rattle.channel_answers.specs.Answers.{ChannelsAreRouted, ClosePinsAreFound, CloseNumbersAreFound}
use Rattle.channel_answers.proofs.CloseLaws.{first_close_or_none}
use Rattle.channel_answers.proofs.ListedLaws.{Listed, listed_as, listed_below, listed_none, listed_or, listed_where, listed_within, times, times_is, times_up}
use Rattle.channel_answers.proofs.ShapeLaws.{listed_box, listed_via}
use Rattle.channel_answers.proofs.TrackLaws.{tracks_there}

-- Intervals that hold pins

abbrev nowhere : Interval
nowhere = record { left = pos 9223372036854775807; right = negsuc 9223372036854775807 }

copies_more : (l : List Interval) → ((i : ℕ) (a : Interval) → slice_get l i ≡ Some a → a ≡ nowhere) → (i : ℕ) (a : Interval)
    → slice_get (nowhere ∷ l) i ≡ Some a → a ≡ nowhere
copies_more l each zero a at = one_at (nowhere ∷ l) 0 a nowhere at refl
copies_more l each (suc i) a at = each i a at

copies : (n : ℕ) → (l : List Interval) × (length l ≡ n) × ((i : ℕ) (a : Interval) → slice_get l i ≡ Some a → a ≡ nowhere)
copies zero = ([], refl, λ i a at. absurd cc)
copies (suc n) = let rest = copies n in (nowhere ∷ rest.0, ap suc rest.1, copies_more rest.0 rest.2)

-- so many intervals hold the pins
record Holding (nets : ℕ) (pins : List ChannelPin) : Type 0 where
  pub intervals : List Interval
  pub each : length intervals ≡ nets
  pub hulls : AreHulls pins intervals

one_pin_more : (nets : ℕ) (pins : List ChannelPin) (pin : ChannelPin) → pin.net < nets → Holding nets pins → Holding nets (pins ++ pin ∷ [])
one_pin_more nets pins pin lt h =
    let sized = h.each in
    let inside : pin.net < length h.intervals = omega (arith, lt, sized) in
    let a = get_or h.intervals pin.net nowhere in
    let at = slice_get-get_or h.intervals pin.net nowhere inside in
    let c : Interval = record { left = int_min a.left pin.x; right = int_max a.right pin.x } in
    record {
      intervals = slice_set h.intervals pin.net c;
      each = length-set h.intervals pin.net c ∙ sized;
      hulls = hulls_more pins pin h.intervals a c inside at refl refl h.hulls;
    }

-- those of a list, behind others
more_pins : (nets : ℕ) (before pins : List ChannelPin) → ((pin : ChannelPin) → Contains pins pin → pin.net < nets) → Holding nets before
    → Holding nets (before ++ pins)
more_pins nets before [] inside h = subst (λ (l : List ChannelPin). Holding nets l) (sym (append-nil before)) h
more_pins nets before (pin ∷ pins) inside h =
    subst (λ (l : List ChannelPin). Holding nets l) (append_assoc before (pin ∷ []) pins)
    (more_pins nets (before ++ pin ∷ []) pins (λ p k. inside p (contains_later pin pins p k)) (one_pin_more nets before pin (inside pin (contains_first pin pins)) h))

of_nets : (nets : ℕ) (pins : List ChannelPin) → AreOfNets nets pins → (pin : ChannelPin) → Contains pins pin → pin.net < nets
of_nets nets pins are pin h = All-contains (λ (p : ChannelPin). p.net < nets) pins pin are h

intervals_there : (ch : Channel) → IsChannel ch → (intervals : List Interval) × AreIntervals ch intervals
intervals_there ch is =
    let none = copies ch.nets in
    let start : Holding ch.nets [] = record { intervals = none.0; each = none.1; hulls = empty_hulls none.0 nowhere refl refl (λ net b at. none.2 net b at) } in
    let top = more_pins ch.nets [] ch.top (of_nets ch.nets ch.top is.top.of_nets) start in
    let sides = more_pins ch.nets ch.top ch.bottom (of_nets ch.nets ch.bottom is.bottom.of_nets) top in
    let all = more_pins ch.nets (ch.top ++ ch.bottom) ch.exits (of_nets ch.nets ch.exits is.exits.of_nets) sides in
    (all.intervals, hulls_are_intervals ch all.intervals is all.each all.hulls)

-- Shapes

decide_place : (x y : ℤ) → (x ≡ y) ⊎ (x ≡ y → ⊥)
decide_place x y =
    by_lt_z {P = (x ≡ y) ⊎ (x ≡ y → ⊥)} x y (λ less. inr (λ e. omega (arith, ints, e, less)))
    (λ ge. by_lt_z {P = (x ≡ y) ⊎ (x ≡ y → ⊥)} y x (λ more. inr (λ e. omega (arith, ints, e, more))) (λ le. inl (omega (arith, ints, ge, le))))

-- whether a net has a pin at a place
decide_pin : (pins : List ChannelPin) (net : ℕ) (x : ℤ) → IsPinOf pins net x ⊎ (IsPinOf pins net x → ⊥)
decide_pin [] net x = inr (λ p. contains_none p.pin p.listed)
decide_pin (pin ∷ pins) net x = elim (decide_pin pins net x) [
  | inl later ↦ inl (record { pin = later.pin; listed = contains_later pin pins later.pin later.listed; at_x = later.at_x; of_net = later.of_net })
  | inr not_later ↦ elim (cases_eq pin.net net) [
    | inr other ↦ inr (λ p. elim (pin_cases pin pins net x p) [ inl here ↦ other here.0 | inr later ↦ not_later later ])
    | inl same ↦ elim (decide_place pin.x x) [
      | inl at ↦ inl (record { pin = pin; listed = contains_first pin pins; at_x = at; of_net = same })
      | inr elsewhere ↦ inr (λ p. elim (pin_cases pin pins net x p) [ inl here ↦ elsewhere here.1 | inr later ↦ not_later later ])
    ]
  ]
]

-- the places within 2^40
abbrev places_near : ℕ
places_near = 2199023255553

abbrev place_of : ℕ → ℤ
place_of k = pos k -ℤ pos 1099511627776

number_of : (x : ℤ) → IsNear x → (k : ℕ) × (k < places_near) × (place_of k ≡ x)
number_of x near = by (x +ℤ pos 1099511627776) refl
  where
    by : (z : ℤ) → x +ℤ pos 1099511627776 ≡ z → (k : ℕ) × (k < places_near) × (place_of k ≡ x)
    by (pos k) e = let below = near.below in (k, omega (arith, ints, below, e), omega (arith, ints, e))
    by (negsuc k) e = let above = near.above in absurd (omega (arith, ints, above, e))

listed_pins : (most : ℕ) (pins : List ChannelPin) (net : ℕ) (P : ℤ → Shape → Type 0) → ArePinsNear pins → ((x : ℤ) → Listed most (P x))
    → Listed (times places_near most) (λ s. (x : ℤ) × IsPinOf pins net x × P x s)
listed_pins most pins net P near each =
    listed_as (times places_near most) (λ s. (k : ℕ) × (k < places_near) × (IsPinOf pins net (place_of k) × P (place_of k) s)) (λ s. (x : ℤ) × IsPinOf pins net x × P x s)
    (λ s h. (place_of h.0, h.2.0, h.2.1))
    (λ s h.
    let pin = h.1 in
    let at = number_of h.0 (subst IsNear pin.at_x (All-contains (λ (p : ChannelPin). IsNear p.x) pins pin.pin near pin.listed)) in
    (at.0, at.1, (subst (λ (x : ℤ). IsPinOf pins net x) (sym at.2) h.1, subst (λ (x : ℤ). P x s) (sym at.2) h.2)))
    (listed_below places_near most (λ k s. IsPinOf pins net (place_of k) × P (place_of k) s) (λ k lt. listed_where most (IsPinOf pins net (place_of k)) (P (place_of k)) (decide_pin pins net (place_of k)) (λ p. each (place_of k))))

-- the shapes of one net at most
net_shapes : ℕ
net_shapes = 1 + (times places_near 2 + times places_near 2)

net_shapes_few : net_shapes ≤ 17592186044416
unfolding net_shapes
net_shapes_few = let twice = times_is places_near 2 in omega (arith, twice)

wires_of : (ch : Channel) (wire : Wire) (tracks net : ℕ) (interval : Interval) (t : ℕ) → IsChannel ch
    → Listed net_shapes (IsWireOf ch wire tracks net interval t)
unfolding net_shapes
wires_of ch wire tracks net interval t is =
    listed_or 1 (times places_near 2 + times places_near 2) (IsTrunk ch.low wire interval t) (λ s. ((x : ℤ) × IsPinOf ch.top net x × IsTopBranch ch.low wire tracks t x s) ⊎ ((x : ℤ) × IsPinOf ch.bottom net x × IsBottomBranch ch.low wire t x s))
    (listed_box (slice_index wire.metals 2) interval.left y (interval.right +ℤ wire.width) (y +ℤ wire.width))
    (listed_or (times places_near 2) (times places_near 2) (λ s. (x : ℤ) × IsPinOf ch.top net x × IsTopBranch ch.low wire tracks t x s) (λ s. (x : ℤ) × IsPinOf ch.bottom net x × IsBottomBranch ch.low wire t x s)
    (listed_pins 2 ch.top net (IsTopBranch ch.low wire tracks t) is.top.near (λ x. listed_or 1 1 (IsBox (slice_index wire.metals 3) x y (x +ℤ wire.width) (ch.low +ℤ channel_height wire tracks)) (IsVia wire 2 x y) (listed_box _ _ _ _ _) (listed_via wire 2 x y)))
    (listed_pins 2 ch.bottom net (IsBottomBranch ch.low wire t) is.bottom.near (λ x. listed_or 1 1 (IsBox (slice_index wire.metals 1) x ch.low (x +ℤ wire.width) (y +ℤ wire.width)) (IsVia wire 1 x y) (listed_box _ _ _ _ _) (listed_via wire 1 x y))))
  where
    y : ℤ
    y = track_y ch.low wire t

of_net : (ch : Channel) (wire : Wire) (intervals : List Interval) (track : List ℕ) (tracks net : ℕ) → IsChannel ch
    → Listed net_shapes (IsOfNet ch wire intervals track tracks net)
of_net ch wire intervals track tracks net is = by (slice_get intervals net) (slice_get track net) refl refl
  where
    none : ((s : Shape) → IsOfNet ch wire intervals track tracks net s → ⊥) → Listed net_shapes (IsOfNet ch wire intervals track tracks net)
    none never = listed_within 0 net_shapes (IsOfNet ch wire intervals track tracks net) (omega arith) (listed_none (IsOfNet ch wire intervals track tracks net) never)

    by : (a : Option Interval) (t : Option ℕ) → slice_get intervals net ≡ a → slice_get track net ≡ t
        → Listed net_shapes (IsOfNet ch wire intervals track tracks net)
    by None t e f = none (λ s o. let both : ◌≡◌ {A = Option Interval} (Some o.interval) None = sym o.has.there ∙ e in absurd cc)
    by (Some a) None e f = none (λ s o. let both : ◌≡◌ {A = Option ℕ} (Some o.t) None = sym o.has.on ∙ f in absurd cc)
    by (Some a) (Some t) e f =
        listed_as net_shapes (IsWireOf ch wire tracks net a t) (IsOfNet ch wire intervals track tracks net)
        (λ s w. record { interval = a; t = t; has = record { there = e; on = f }; wires = w })
        (λ s o. subst (λ (u : ℕ). IsWireOf ch wire tracks net a u s) (one_at track net o.t t o.has.on f) (subst (λ (c : Interval). IsWireOf ch wire tracks net c o.t s) (one_at intervals net o.interval a o.has.there e) o.wires))
        (wires_of ch wire tracks net a t is)

-- the shapes of a channel
record HasWires (ch : Channel) (wire : Wire) (intervals : List Interval) (track : List ℕ) (tracks : ℕ) : Type 0 where
  shapes : List Shape
  are : AreWires ch wire intervals track tracks shapes
  few : length shapes ≤ length track * 17592186044416

shapes_there : (ch : Channel) (wire : Wire) (intervals : List Interval) (track : List ℕ) (tracks : ℕ) → IsChannel ch
    → HasWires ch wire intervals track tracks
shapes_there ch wire intervals track tracks is =
    let found = listed_below (length track) net_shapes (λ net s. IsOfNet ch wire intervals track tracks net s) (λ net lt. of_net ch wire intervals track tracks net is) in
    record {
      shapes = found.list;
      are = record {
        all = λ net s o. (found.has s).1 (net, slice_get_within track net o.t o.has.on, o);
        only = λ s h. let p = (found.has s).0 h in (p.0, p.2);
      };
      few =
          let least = found.few in
          let up = times_up (length track) net_shapes (length track) 17592186044416 (omega arith) most in
          omega (arith, least, up);
    }
  where
    most : net_shapes ≤ 17592186044416
    most = net_shapes_few

positive_pitch : (wire : Wire) → AreSizes wire → pos 0 ≤ℤ pitch wire
positive_pitch wire sizes = let w = sizes.width in let s = sizes.space in omega (arith, ints, w.from, s.from)

pub channels_are_routed : ChannelsAreRouted
channels_are_routed ch wire is sizes =
    let found = intervals_there ch is in
    let intervals = found.0 in
    let on = tracks_there (pitch wire) intervals (positive_pitch wire sizes) (forward ch intervals found.1) in
    let shapes = shapes_there ch wire intervals on.track on.tracks is in
    let routed : Routed = record { shapes = shapes.shapes; track = on.track; tracks = on.tracks; height = channel_height wire on.tracks } in
    record {
      intervals = intervals;
      routed = routed;
      is = record { nets = found.1; lowest = on.assigned.lowest; count = on.assigned.count; height = refl; wires = shapes.are };
      each = on.assigned.lowest.each ∙ found.1.each;
      short = subst (λ (n : ℕ). length routed.shapes ≤ n * 17592186044416) (on.assigned.lowest.each ∙ found.1.each) shapes.few;
      few = let few = on.few in let sized = found.1.each in omega (arith, few, sized);
    }

pub close_numbers_are_found : CloseNumbersAreFound
close_numbers_are_found = first_close_or_none

pub close_pins_are_found : ClosePinsAreFound
close_pins_are_found ch wire = elim (first_close_or_none (pitch wire) (pin_xs ch.top)) [
  | inr top ↦ inr (0, top.0, top.1, inl (refl, top.2))
  | inl none ↦ elim (first_close_or_none (pitch wire) (pin_xs ch.bottom)) [
    | inl neither ↦ inl (λ close. elim close [ inl top ↦ none top | inr bottom ↦ neither bottom ])
    | inr bottom ↦ inr (1, bottom.0, bottom.1, inr (refl, none, bottom.2))
  ]
]
