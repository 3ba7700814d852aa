-- The intervals of a channel, and all its shapes.
use Rattle.std.proofs.Common.{◌≡◌, ◌⊎◌, inl, inr, ℕ, suc, ◌<◌, ℤ, pos, List, [], ◌∷◌, ◌++◌, length, get_or, refl, sym, ap, subst, ◌∙◌, arith}
use Rattle.std.specs.Prelude.{Contains, slice_get, Some}
use Rattle.std.proofs.lemmas.Int.{ints}
use Rattle.std.proofs.lemmas.Option.{slice_get-get_or, slice_get_within}
use Rattle.or_geom.specs.declared.shape.Shape.{Shape}
use Rattle.or_geom.specs.Adds.{Adds}
use Rattle.or_geom.specs.Gathering.{SomeGives}
use Rattle.or_geom.proofs.AddsLaws.{adds_both}
use Rattle.or_geom.proofs.GatheringLaws.{giver, gives_some}
use Rattle.tech_rules.specs.declared.tech.Wire.{Wire}
use Rattle.tech_rules.specs.Facts.{AreSizes}
use Rattle.wire_drawing.specs.Drawing.{pitch}
use Rattle.channel_router.specs.declared.channel.Channel.{Channel}
use Rattle.channel_router.specs.declared.channel.ChannelPin.{ChannelPin}
use Rattle.channel_router.specs.declared.channel.Interval.{Interval}
use Rattle.channel_router.specs.Channel.{AreInChannel, AreOfNets, IsChannel, places}
use Rattle.channel_router.specs.Intervals.{AreIntervals, AreNearIntervals, IsIntervalOf}
use Rattle.channel_router.specs.Placed.{IsOfBottomPin, IsOfTopPin, IsTrunkBelow}
use Rattle.channel_router.specs.Tracks.{AreForward, HasTrack, LeaveRoom}
use Rattle.channel_router.specs.Wires.{AreWires, IsBottomBranch, IsOfNet, IsTopBranch}
use Rattle.channel_router.proofs.PinLaws.{pin_near}

pub near_intervals : (ch : Channel) (intervals : List Interval) → IsChannel ch → AreIntervals ch intervals → AreNearIntervals intervals
near_intervals ch intervals channel are k d lt =
    let is = are.of_net k (get_or intervals k d) (slice_get-get_or intervals k d lt) in
    record { left = pin_near ch channel k _ is.begins; right = pin_near ch channel k _ is.ends }

pub forward : (ch : Channel) (intervals : List Interval) → AreIntervals ch intervals → AreForward intervals
forward ch intervals are i a at = let is = are.of_net i a at in is.least a.right is.ends

pub room_behind : (wire : Wire) (intervals : List Interval) → AreSizes wire → AreNearIntervals intervals → LeaveRoom (pitch wire) intervals
room_behind wire intervals sizes near k d lt =
    let is = near k d lt in
    let w = sizes.width in
    let s = sizes.space in
    omega (arith, ints, is.right.above, is.right.below, w.from, w.to, s.from, s.to)

same_interval : (a b : Interval) → a.left ≡ b.left → a.right ≡ b.right → a ≡ b
same_interval a b left right = λ i. record { left = left i; right = right i }

one_interval : (pins : List ChannelPin) (net : ℕ) (a b : Interval) → IsIntervalOf pins net a → IsIntervalOf pins net b → a ≡ b
one_interval pins net a b p q =
    let left_le = p.least b.left q.begins in
    let left_ge = q.least a.left p.begins in
    let right_le = q.greatest a.right p.ends in
    let right_ge = p.greatest b.right q.ends in
    same_interval a b (omega (arith, ints, left_le, left_ge)) (omega (arith, ints, right_le, right_ge))

one_list : (xs ys : List Interval) → length xs ≡ length ys → ((k : ℕ) (a b : Interval) → slice_get xs k ≡ Some a → slice_get ys k ≡ Some b → a ≡ b) → xs ≡ ys
one_list [] [] sized same = refl
one_list [] (y ∷ ys) sized same = absurd (omega (arith, sized))
one_list (x ∷ xs) [] sized same = absurd (omega (arith, sized))
one_list (x ∷ xs) (y ∷ ys) sized same =
    let first = same 0 x y refl refl in
    let rest = one_list xs ys (omega (arith, sized)) (λ k a b. same (suc k) a b) in
    λ i. first i ∷ rest i

-- the intervals of a channel's nets are one list
pub one_intervals : (ch : Channel) (xs ys : List Interval) → AreIntervals ch xs → AreIntervals ch ys → xs ≡ ys
one_intervals ch xs ys p q = one_list xs ys (p.each ∙ sym q.each) (λ k a b at_a at_b. one_interval (places ch) k a b (p.of_net k a at_a) (q.of_net k b at_b))

-- pins of the channel's nets are pins of nets that have tracks
pub of_tracks : (nets n : ℕ) (pins : List ChannelPin) → AreInChannel nets pins → n ≡ nets → AreOfNets n pins
of_tracks nets n pins are same k d lt = let inside = are.of_nets k d lt in omega (arith, inside, same)

-- trunks, and branches with their cuts, are all shapes
pub all_wires : (ch : Channel) (wire : Wire) (intervals : List Interval) (track : List ℕ) (tracks : ℕ) (none trunks tops all : List Shape) → none ≡ [] → length track ≡ length intervals
    → Adds none trunks (IsTrunkBelow ch.low wire intervals track (length intervals)) → Adds trunks tops (SomeGives (IsOfTopPin ch.low wire track tracks) ch.top) → Adds tops all (SomeGives (IsOfBottomPin ch.low wire track) ch.bottom) → AreWires ch wire intervals track tracks all
all_wires ch wire intervals track tracks none trunks tops all empty sized first second third =
    let both = adds_both none trunks tops _ _ first second in
    let each = adds_both none tops all _ _ both third in
    let is : all ≡ each.added = each.is ∙ ap (λ (l : List Shape). l ++ each.added) empty in
    record {
      all = λ net s of_net. subst (λ (l : List Shape). Contains l s) (sym is) (each.each s (kind_of net s of_net));
      only = λ s there. of_kind s (each.only s (subst (λ (l : List Shape). Contains l s) is there));
    } where
      kind_of : (net : ℕ) (s : Shape) → IsOfNet ch wire intervals track tracks net s → (IsTrunkBelow ch.low wire intervals track (length intervals) s ⊎ SomeGives (IsOfTopPin ch.low wire track tracks) ch.top s) ⊎ SomeGives (IsOfBottomPin ch.low wire track) ch.bottom s
      kind_of net s of_net = elim of_net.wires [
        | inl trunk ↦ inl (inl (net, slice_get_within intervals net of_net.interval of_net.has.there, of_net.interval, of_net.t, of_net.has, trunk))
        | inr (inl top) ↦ (let p = top.1 in inl (inr (gives_some (IsOfTopPin ch.low wire track tracks) ch.top s p.pin p.listed (of_net.t, ap (λ (n : ℕ). slice_get track n) p.of_net ∙ of_net.has.on, subst (λ (x : ℤ). IsTopBranch ch.low wire tracks of_net.t x s) (sym p.at_x) top.2))))
        | inr (inr bottom) ↦ (let p = bottom.1 in inr (gives_some (IsOfBottomPin ch.low wire track) ch.bottom s p.pin p.listed (of_net.t, ap (λ (n : ℕ). slice_get track n) p.of_net ∙ of_net.has.on, subst (λ (x : ℤ). IsBottomBranch ch.low wire of_net.t x s) (sym p.at_x) bottom.2)))
      ]

      interval_at : (net t : ℕ) → slice_get track net ≡ Some t → (a : Interval) × HasTrack intervals track net a t
      interval_at net t on =
          let inside : net < length intervals = let lt = slice_get_within track net t on in omega (arith, lt, sized) in
          let none : Interval = record { left = pos 0; right = pos 0 } in
          (get_or intervals net none, record { there = slice_get-get_or intervals net none inside; on = on })

      of_kind : (s : Shape) → (IsTrunkBelow ch.low wire intervals track (length intervals) s ⊎ SomeGives (IsOfTopPin ch.low wire track tracks) ch.top s) ⊎ SomeGives (IsOfBottomPin ch.low wire track) ch.bottom s → (net : ℕ) × IsOfNet ch wire intervals track tracks net s
      of_kind s (inl (inl trunk)) = (trunk.0, record { interval = trunk.2; t = trunk.3; has = trunk.4; wires = inl trunk.5 })
      of_kind s (inl (inr tops)) =
          let g = giver (IsOfTopPin ch.low wire track tracks) ch.top s tops in
          let at = interval_at g.0.net g.2.0 g.2.1 in
          (g.0.net, record { interval = at.0; t = g.2.0; has = at.1; wires = inr (inl (g.0.x, record { pin = g.0; listed = g.1; at_x = refl; of_net = refl }, g.2.2)) })
      of_kind s (inr bottoms) =
          let g = giver (IsOfBottomPin ch.low wire track) ch.bottom s bottoms in
          let at = interval_at g.0.net g.2.0 g.2.1 in
          (g.0.net, record { interval = at.0; t = g.2.0; has = at.1; wires = inr (inr (g.0.x, record { pin = g.0; listed = g.1; at_x = refl; of_net = refl }, g.2.2)) })
