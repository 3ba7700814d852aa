-- A channel that is moved is drawn as it was, moved.
use Rattle.std.proofs.Common.{◌≡◌, inl, inr, ◌↔◌, ℕ, zero, suc, ℤ, pos, ◌+ℤ◌, ◌-ℤ◌, List, [], ◌∷◌, map, length, Option, Some, None, refl, sym, ap, subst, ◌∙◌, arith}
use Rattle.std.proofs.lemmas.Int.{ints}
use Rattle.std.proofs.lemmas.Option.{same_Some}
use Rattle.std.specs.Prelude.{slice_get, slice_index}
use Rattle.or_geom.specs.declared.shape.Shape.{Shape}
use Rattle.tech_rules.specs.declared.tech.Wire.{Wire}
use Rattle.wire_drawing.specs.Drawing.{pitch, IsBox, IsVia}
use Rattle.tech_rules.specs.WireRules.{margin}
use Rattle.channel_router.specs.declared.channel.Channel.{Channel}
use Rattle.channel_router.specs.declared.channel.ChannelPin.{ChannelPin}
use Rattle.channel_router.specs.declared.channel.Interval.{Interval}
use Rattle.channel_router.specs.Channel.{IsPinOf, places}
use Rattle.channel_router.specs.Intervals.{IsIntervalOf, AreIntervals}
use Rattle.channel_router.specs.Tracks.{HasTrack, IsLowest}
use Rattle.channel_router.specs.Wires.{IsWireOf, IsOfNet, channel_height, track_y}
use Rattle.macro_layout.specs.Channels.{ArePins, IsColumnChannel, IsMainChannel, IsRoutedBy, IsChannelWire}
use Rattle.macro_layout.specs.Stated.{IsShifted}
use Rattle.macro_layout.specs.Moved.{ArePinsMoved, IsChannelMoved, IsThe, IsOfSomeNet, ColumnChannelsAreDrawn, MainChannelsAreDrawn}
use Rattle.macro_layout.proofs.RoutingLaws.{before_moves, before_moved, IsItemAt, item_at, below_length, places_moved, moved_back, IsIntervalMoved, AreIntervalsMoved, intervals_move, AreTwo, other_track, same_track}

-- boxes

pub box_moves : (dx dy : ℤ) (layer : ℕ) (a b c d e f g h : ℤ) (s t : Shape) → IsShifted dx dy s t → e ≡ a +ℤ dx → f ≡ b +ℤ dy → g ≡ c +ℤ dx → h ≡ d +ℤ dy → IsBox layer a b c d s → IsBox layer e f g h t
box_moves dx dy layer a b c d e f g h s t m p q u v box = record {
  on = m.layer ∙ box.on;
  left = m.x1 ∙ (ap (λ (z : ℤ). z +ℤ dx) box.left ∙ sym p);
  low = m.y1 ∙ (ap (λ (z : ℤ). z +ℤ dy) box.low ∙ sym q);
  right = m.x2 ∙ (ap (λ (z : ℤ). z +ℤ dx) box.right ∙ sym u);
  high = m.y2 ∙ (ap (λ (z : ℤ). z +ℤ dy) box.high ∙ sym v);
}

plus_swapped : (a e m d : ℤ) → e ≡ a +ℤ d → e +ℤ m ≡ (a +ℤ m) +ℤ d
plus_swapped a e m d p = omega (arith, ints, p)

pub via_moves : (dx dy : ℤ) (wire : Wire) (cut : ℕ) (x y u v : ℤ) (s t : Shape) → IsShifted dx dy s t → u ≡ x +ℤ dx → v ≡ y +ℤ dy → IsVia wire cut x y s → IsVia wire cut u v t
via_moves dx dy wire cut x y u v s t m p q via =
    let ex = plus_swapped x u (margin wire) dx p in
    let ey = plus_swapped y v (margin wire) dy q in
    box_moves dx dy (slice_index wire.cuts cut) _ _ _ _ _ _ _ _ s t m ex ey (plus_swapped (x +ℤ margin wire) (u +ℤ margin wire) wire.cut dx ex) (plus_swapped (y +ℤ margin wire) (v +ℤ margin wire) wire.cut dy ey) via

-- the wires of a net

wires_move : (dx dy : ℤ) (from to : Channel) (wire : Wire) (tracks net on : ℕ) (a b : Interval) (s t : Shape) → IsChannelMoved dx dy from to → IsIntervalMoved dx a b → IsShifted dx dy s t → IsWireOf from wire tracks net a on s → IsWireOf to wire tracks net b on t
wires_move dx dy from to wire tracks net on a b s t m i shift w =
    let y = plus_swapped from.low to.low (channel_height wire on) dy m.low in
    let top = plus_swapped from.low to.low (channel_height wire tracks) dy m.low in
    let above = plus_swapped (track_y from.low wire on) (track_y to.low wire on) wire.width dy y in
    elim w [
      | inl trunk ↦ inl (box_moves dx dy (slice_index wire.metals 2) _ _ _ _ _ _ _ _ s t shift i.left y (plus_swapped a.right b.right wire.width dx i.right) above trunk)
      | inr (inl up) ↦
          let x = up.0 in
          inr (inl (
            x +ℤ dx,
            (m.top net x).1 up.1,
            elim up.2 [
              | inl branch ↦ inl (box_moves dx dy (slice_index wire.metals 3) _ _ _ _ _ _ _ _ s t shift refl y (plus_swapped x (x +ℤ dx) wire.width dx refl) top branch)
              | inr via ↦ inr (via_moves dx dy wire 2 x (track_y from.low wire on) (x +ℤ dx) (track_y to.low wire on) s t shift refl y via)
            ],
          ))
      | inr (inr down) ↦
          let x = down.0 in
          inr (inr (
            x +ℤ dx,
            (m.bottom net x).1 down.1,
            elim down.2 [
              | inl branch ↦ inl (box_moves dx dy (slice_index wire.metals 1) _ _ _ _ _ _ _ _ s t shift refl m.low (plus_swapped x (x +ℤ dx) wire.width dx refl) above branch)
              | inr via ↦ inr (via_moves dx dy wire 1 x (track_y from.low wire on) (x +ℤ dx) (track_y to.low wire on) s t shift refl y via)
            ],
          ))
    ]

-- a wire of a routed channel is one of the same channel elsewhere, however that is routed
pub net_moves : (dx dy : ℤ) (from to : Channel) (wire : Wire) (xs ys : List Interval) (track other : List ℕ) (tracks net : ℕ) (s t : Shape) → IsChannelMoved dx dy from to → AreTwo dx (pitch wire) xs ys track other → IsShifted dx dy s t
    → IsOfNet from wire xs track tracks net s → IsOfNet to wire ys other tracks net t
net_moves dx dy from to wire xs ys track other tracks net s t m two shift w =
    let o = other_track dx (pitch wire) xs ys track other two net w.interval w.has.there in
    let same = same_track dx (pitch wire) xs ys track other two net w.interval o.interval w.t o.track w.has o.has in
    record {
      interval = o.interval;
      t = w.t;
      has = subst (HasTrack ys other net o.interval) (sym same) o.has;
      wires = wires_move dx dy from to wire tracks net w.t w.interval o.interval s t m o.moved shift w.wires;
    }

-- the same routing elsewhere

abbrev move_interval : ℤ → Interval → Interval
move_interval dx a = record { left = a.left +ℤ dx; right = a.right +ℤ dx }

length_moved : (f : Interval → Interval) (xs : List Interval) → length (map f xs) ≡ length xs
length_moved f [] = refl
length_moved f (x ∷ xs) = ap suc (length_moved f xs)

get_moved : (f : Interval → Interval) (xs : List Interval) (i : ℕ) (a : Interval) → slice_get xs i ≡ Some a → slice_get (map f xs) i ≡ Some (f a)
get_moved f [] i a e = absurd cc
get_moved f (x ∷ xs) zero a e = ap (λ (o : Option Interval). moved_option o) e
  where
    moved_option : Option Interval → Option Interval
    moved_option None = None
    moved_option (Some b) = Some (f b)
get_moved f (x ∷ xs) (suc i) a e = get_moved f xs i a e

same_item : (o : Option Interval) (a b : Interval) → o ≡ Some a → o ≡ Some b → a ≡ b
same_item o a b e f = same_Some a b (sym e ∙ f)

list_moved : (dx : ℤ) (xs : List Interval) → AreIntervalsMoved dx xs (map (move_interval dx) xs)
list_moved dx xs = record {
  each = length_moved (move_interval dx) xs;
  moved = λ i a b at_a at_b. (let same = same_item (slice_get (map (move_interval dx) xs) i) b (move_interval dx a) at_b (get_moved (move_interval dx) xs i a at_a) in record { left = ap (λ (c : Interval). c.left) same; right = ap (λ (c : Interval). c.right) same });
}

interval_kept : (dx : ℤ) (xs us : List ChannelPin) (net : ℕ) (a b : Interval) → ArePinsMoved dx xs us → IsIntervalMoved dx a b → IsIntervalOf xs net a → IsIntervalOf us net b
interval_kept dx xs us net a b pins m i = record {
  begins = subst (IsPinOf us net) (sym m.left) ((pins net a.left).1 i.begins);
  ends = subst (IsPinOf us net) (sym m.right) ((pins net a.right).1 i.ends);
  least = λ x p. (let le = i.least (x -ℤ dx) (at_start x p) in let e = m.left in omega (arith, ints, le, e));
  greatest = λ x p. (let le = i.greatest (x -ℤ dx) (at_start x p) in let e = m.right in omega (arith, ints, le, e));
}
  where
    back_again : (x : ℤ) → x ≡ (x -ℤ dx) +ℤ dx
    back_again x = omega (arith, ints)

    at_start : (x : ℤ) → IsPinOf us net x → IsPinOf xs net (x -ℤ dx)
    at_start x p = (pins net (x -ℤ dx)).0 (subst (IsPinOf us net) (back_again x) p)

intervals_kept : (dx dy : ℤ) (from to : Channel) (xs : List Interval) → IsChannelMoved dx dy from to → AreIntervals from xs → AreIntervals to (map (move_interval dx) xs)
intervals_kept dx dy from to xs m a = record {
  each = length_moved (move_interval dx) xs ∙ (a.each ∙ sym m.nets);
  of_net = λ net b at.
      let moved = list_moved dx xs in
      let each = moved.each in
      let lt = below_length (map (move_interval dx) xs) net b at in
      let x = item_at xs net (omega (arith, lt, each)) in
      interval_kept dx (places from) (places to) net x.item b (places_moved dx dy from to m) (moved.moved net x.item b x.is at) (a.of_net net x.item x.is);
}

moves_by : (dx : ℤ) (a : Interval) → IsIntervalMoved dx a (move_interval dx a)
moves_by dx a = record { left = refl; right = refl }

lowest_kept : (dx p : ℤ) (xs : List Interval) (track : List ℕ) → IsLowest p xs track → IsLowest p (map (move_interval dx) xs) track
lowest_kept dx p xs track low = record {
  each = low.each ∙ sym (length_moved (move_interval dx) xs);
  free = λ j t d h i c g before.
      let a = at_first j d h.there in
      let b = at_first i c g.there in
      let m = moved.moved j a.item d a.is h.there in
      let n = moved.moved i b.item c b.is g.there in
      let le = low.free j t a.item (record { there = a.is; on = h.on }) i b.item (record { there = b.is; on = g.on }) (before_moved dx i j b.item a.item c d n m before) in
      let e = m.left in
      let f = n.right in
      omega (arith, ints, le, e, f);
  lowest = λ j t lower d h lt.
      let a = at_first j d h.there in
      let m = moved.moved j a.item d a.is h.there in
      let busy = low.lowest j t lower a.item (record { there = a.is; on = h.on }) lt in
      let e = m.left in
      let reaches = busy.reaches in
      record {
        i = busy.i;
        a = move_interval dx busy.a;
        on = record { there = get_moved (move_interval dx) xs busy.i busy.a busy.on.there; on = busy.on.on };
        before = before_moves dx busy.i j busy.a a.item (move_interval dx busy.a) d (moves_by dx busy.a) m busy.before;
        reaches = omega (arith, ints, e, reaches);
      };
}
  where
    moved : AreIntervalsMoved dx xs (map (move_interval dx) xs)
    moved = list_moved dx xs

    at_first : (i : ℕ) (d : Interval) → slice_get (map (move_interval dx) xs) i ≡ Some d → IsItemAt xs i
    at_first i d e = let lt = below_length (map (move_interval dx) xs) i d e in let each = moved.each in item_at xs i (omega (arith, lt, each))

-- channels that are meant

nothing : (x : ℤ) → x +ℤ pos 0 ≡ x
nothing x = omega (arith, ints)

same_pins : (xs ys : List ChannelPin) (M : ℕ → ℤ → Type 0) → ArePins xs M → ArePins ys M → ArePinsMoved (pos 0) xs ys
same_pins xs ys M a b net x = (
  λ p. (a net x).1 ((b net x).0 (subst (IsPinOf ys net) (nothing x) p)),
  λ p. subst (IsPinOf ys net) (sym (nothing x)) ((b net x).1 ((a net x).0 p)),
)

pins_then : (dx : ℤ) (xs ys zs : List ChannelPin) → ArePinsMoved (pos 0) xs ys → ArePinsMoved dx ys zs → ArePinsMoved dx xs zs
pins_then dx xs ys zs a b net x = (
  λ p. (a net x).0 (subst (IsPinOf ys net) (sym (nothing x)) ((b net x).0 p)),
  λ p. (b net x).1 (subst (IsPinOf ys net) (nothing x) ((a net x).1 p)),
)

low_then : (a b c d : ℤ) → b ≡ a +ℤ pos 0 → c ≡ b +ℤ d → c ≡ a +ℤ d
low_then a b c d e f = omega (arith, ints, e, f)

moved_then : (dx dy : ℤ) (c e ch : Channel) → IsChannelMoved (pos 0) (pos 0) c e → IsChannelMoved dx dy e ch → IsChannelMoved dx dy c ch
moved_then dx dy c e ch a b = record {
  low = low_then c.low e.low ch.low dy a.low b.low;
  nets = b.nets ∙ a.nets;
  top = pins_then dx c.top e.top ch.top a.top b.top;
  bottom = pins_then dx c.bottom e.bottom ch.bottom a.bottom b.bottom;
  exits = pins_then dx c.exits e.exits ch.exits a.exits b.exits;
}

side_back : (a b d : ℤ) → b ≡ a +ℤ d → a ≡ b +ℤ (pos 0 -ℤ d)
side_back a b d e = omega (arith, ints, e)

pub shift_back : (dx dy : ℤ) (s t : Shape) → IsShifted dx dy s t → IsShifted (pos 0 -ℤ dx) (pos 0 -ℤ dy) t s
shift_back dx dy s t m = record { layer = sym m.layer; x1 = side_back s.rect.x1 t.rect.x1 dx m.x1; y1 = side_back s.rect.y1 t.rect.y1 dy m.y1; x2 = side_back s.rect.x2 t.rect.x2 dx m.x2; y2 = side_back s.rect.y2 t.rect.y2 dy m.y2 }

drawn_elsewhere : (IsMeant : Channel → Type 0) → ((c e : Channel) → IsMeant c → IsMeant e → IsChannelMoved (pos 0) (pos 0) c e) → (wire : Wire) (meant ch : Channel) (dx dy : ℤ) (intervals : List Interval) (track : List ℕ) (tracks : ℕ) → IsMeant meant → IsChannelMoved dx dy meant ch
    → IsRoutedBy (IsThe ch) wire tracks ch intervals track → (s t : Shape) → IsShifted dx dy s t → IsChannelWire IsMeant wire tracks s ↔ IsOfSomeNet ch wire intervals track tracks t
drawn_elsewhere IsMeant one wire meant ch dx dy intervals track tracks is moved r s t shift = (
  λ w.
      let there = moved_then dx dy w.channel meant ch (one w.channel meant w.routed.meant is) moved in
      let two : AreTwo dx (pitch wire) w.intervals intervals w.track track = record { moved = intervals_move dx dy w.channel ch w.intervals intervals there w.routed.nets r.nets; lowest = w.routed.lowest; lows = r.lowest } in
      (w.net, net_moves dx dy w.channel ch wire w.intervals intervals w.track track tracks w.net s t there two shift w.drawn),
  λ w.
      let x = pos 0 -ℤ dx in
      let y = pos 0 -ℤ dy in
      let back = moved_back dx dy meant ch moved in
      let low = lowest_kept x (pitch wire) intervals track r.lowest in
      let two : AreTwo x (pitch wire) intervals (map (move_interval x) intervals) track track = record { moved = list_moved x intervals; lowest = r.lowest; lows = low } in
      record {
        channel = meant;
        intervals = map (move_interval x) intervals;
        track = track;
        routed = record { meant = is; nets = intervals_kept x y ch meant intervals back r.nets; lowest = low; count = r.count };
        net = w.0;
        drawn = net_moves x y ch meant wire intervals (map (move_interval x) intervals) track track tracks w.0 t s back two (shift_back dx dy s t shift) w.1;
      },
)

same_low : (a b z : ℤ) → a ≡ z → b ≡ z → b ≡ a +ℤ pos 0
same_low a b z e f = omega (arith, ints, e, f)

pub column_channels_are_drawn : ColumnChannelsAreDrawn
column_channels_are_drawn plan kit wire floorplan meant ch dx dy intervals track tracks is moved r s t shift =
    drawn_elsewhere (IsColumnChannel plan kit wire floorplan) (λ c e a b. record {
      low = same_low c.low e.low _ a.low b.low;
      nets = b.nets ∙ sym a.nets;
      top = same_pins c.top e.top _ a.top b.top;
      bottom = same_pins c.bottom e.bottom _ a.bottom b.bottom;
      exits = same_pins c.exits e.exits _ a.exits b.exits;
    }) wire meant ch dx dy intervals track tracks is moved r s t shift

pub main_channels_are_drawn : MainChannelsAreDrawn
main_channels_are_drawn plan kit wire floorplan meant ch dx dy intervals track tracks is moved r s t shift =
    drawn_elsewhere (IsMainChannel plan kit wire floorplan) (λ c e a b. record {
      low = same_low c.low e.low _ a.low b.low;
      nets = b.nets ∙ sym a.nets;
      top = same_pins c.top e.top _ a.top b.top;
      bottom = same_pins c.bottom e.bottom _ a.bottom b.bottom;
      exits = same_pins c.exits e.exits _ a.exits b.exits;
    }) wire meant ch dx dy intervals track tracks is moved r s t shift
