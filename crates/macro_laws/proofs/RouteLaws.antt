-- A channel whose pins are given is routed in one way.
use Rattle.std.proofs.Common.{◌≡◌, ℕ, zero, suc, ◌+◌, ◌*◌, ◌<◌, ◌≤◌, ℤ, pos, negsuc, ◌+ℤ◌, ◌-ℤ◌, ◌*ℤ◌, ◌≤ℤ◌, List, length, Option, Some, refl, sym, ap, subst, ◌∙◌, arith}
use Rattle.std.proofs.lemmas.Int.{ints}
use Rattle.std.proofs.lemmas.List.{same_lists}
use Rattle.std.proofs.lemmas.Nat.{same_from_place}
use Rattle.std.proofs.lemmas.Option.{unwrap_or-slice_get}
use Rattle.std.specs.Prelude.{slice_get, unwrap_or}
use Rattle.tech_rules.specs.declared.tech.Wire.{Wire}
use Rattle.wire_drawing.specs.Drawing.{pitch}
use Rattle.tech_rules.specs.Facts.{AreSizes}
use Rattle.channel_router.specs.declared.channel.Channel.{Channel}
use Rattle.channel_router.specs.declared.channel.Interval.{Interval}
use Rattle.channel_router.specs.Intervals.{AreIntervals}
use Rattle.channel_router.specs.Tracks.{AreAssigned}
use Rattle.channel_router.specs.Wires.{channel_height}
use Rattle.macro_layout.specs.Moved.{IsChannelMoved}
use Rattle.macro_layout.proofs.RoutingLaws.{item_at, AreTwo, intervals_move, same_track}

-- lists with the same at each place
pub same_by_places : {X : Type 0} (xs ys : List X) → length xs ≡ length ys → ((k : ℕ) → k < length xs → slice_get xs k ≡ slice_get ys k) → xs ≡ ys
same_by_places {X} xs ys sized each =
    same_lists xs ys sized (λ k d lt. sym (unwrap_or-slice_get xs k d) ∙ (ap (λ (o : Option X). unwrap_or o d) (each k lt) ∙ unwrap_or-slice_get ys k d))

pub one_end : (a b z : ℤ) → a ≡ z → b ≡ z → b ≡ a +ℤ pos 0
one_end a b z e f = omega (arith, ints, e, f)

-- two routings of a channel have the same tracks
pub record IsOneRouting (track other : List ℕ) (n m : ℕ) : Type 0 where
  pub tracks : track ≡ other
  pub count : n ≡ m

pub one_routing : (p : ℤ) (c e : Channel) (xs ys : List Interval) (track other : List ℕ) (n m : ℕ) → IsChannelMoved (pos 0) (pos 0) c e → AreIntervals c xs → AreIntervals e ys → AreAssigned p xs track n → AreAssigned p ys other m → IsOneRouting track other n m
one_routing p c e xs ys track other n m same a b is also = record {
  tracks = lists;
  count = counts;
}
  where
    two : AreTwo (pos 0) p xs ys track other
    two = record { moved = intervals_move (pos 0) (pos 0) c e xs ys same a b; lowest = is.lowest; lows = also.lowest }

    sized : length track ≡ length other
    sized = is.lowest.each ∙ sym two.moved.each ∙ sym also.lowest.each

    lists : track ≡ other
    lists = same_by_places track other sized (λ k lt.
        let each = is.lowest.each in
        let moved = two.moved.each in
        let t = item_at track k lt in
        let u = item_at other k (omega (arith, lt, sized)) in
        let x = item_at xs k (omega (arith, lt, each)) in
        let y = item_at ys k (omega (arith, lt, each, moved)) in
        t.is ∙ ap (λ (z : ℕ). Some z) (same_track (pos 0) p xs ys track other two k x.item y.item t.item u.item (record { there = x.is; on = t.is }) (record { there = y.is; on = u.is })) ∙ sym u.is)

    fewer : n ≤ m
    fewer = is.count.least m (λ i t at. also.count.below i t (subst (λ (l : List ℕ). slice_get l i ≡ Some t) lists at))

    more : m ≤ n
    more = also.count.least n (λ i t at. is.count.below i t (subst (λ (l : List ℕ). slice_get l i ≡ Some t) (sym lists) at))

    counts : n ≡ m
    counts = let le = fewer in let ge = more in omega (arith, le, ge)

-- as many pitches, as many tracks

one_factor : (m n p : ℕ) (z : ℤ) → 0 < p → pos p ≡ z → pos m *ℤ z ≡ pos n *ℤ z → m ≡ n
one_factor m n p z some is same =
    let e : pos (m * p) ≡ pos (n * p) = (λ i. pos m *ℤ is i) ∙ same ∙ sym (λ i. pos n *ℤ is i) in
    (same_from_place m 0 n 0 p some some (omega (arith, ints, e))).0

natural_pitch : (wire : Wire) → AreSizes wire → (p : ℕ) × (0 < p) × (pos p ≡ pitch wire)
natural_pitch wire sizes = by wire.width wire.space sizes.width.from sizes.space.from
  where
    by : (w s : ℤ) → pos 1 ≤ℤ w → pos 1 ≤ℤ s → (p : ℕ) × (0 < p) × (pos p ≡ w +ℤ s)
    by (pos w) (pos s) a b = (w + s, omega (arith, ints, a, b), refl)
    by (pos w) (negsuc s) a b = absurd (omega (arith, ints, b))
    by (negsuc w) s a b = absurd (omega (arith, ints, a))

pub one_height : (wire : Wire) (low : ℤ) (m n : ℕ) → AreSizes wire → low +ℤ channel_height wire m ≡ low +ℤ channel_height wire n → m ≡ n
one_height wire low m n sizes same =
    let p = natural_pitch wire sizes in
    one_factor m n p.0 (pitch wire) p.1 p.2 (less low wire.space (pos m *ℤ pitch wire) (pos n *ℤ pitch wire) same)
  where
    less : (a b x y : ℤ) → a +ℤ (b +ℤ x) ≡ a +ℤ (b +ℤ y) → x ≡ y
    less a b x y e = omega (arith, ints, e)
