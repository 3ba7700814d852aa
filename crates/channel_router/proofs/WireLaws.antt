-- The shapes that one net more and one pin more add.
use Rattle.std.proofs.Common.{◌≡◌, ◌⊎◌, inl, inr, ℕ, ◌+◌, ◌<◌, ℤ, pos, ◌+ℤ◌, ◌*ℤ◌, ◌≤ℤ◌, ◌<ℤ◌, w64, to_z, of_z, List, [], ◌∷◌, ◌++◌, sym, ap, subst, ◌∙◌, arith}
use Rattle.std.specs.Prelude.{slice_get, slice_index, Some}
use Rattle.std.proofs.lemmas.Int.{ints}
use Rattle.or_geom.specs.declared.shape.Shape.{Shape}
use Rattle.or_geom.specs.Distance.{IsNear}
use Rattle.or_geom.proofs.ListLaws.{below_or, one_at}
use Rattle.or_geom.specs.Adds.{Adds}
use Rattle.or_geom.proofs.AddsLaws.{adds_one, adds_both, adds_as}
use Rattle.tech_rules.specs.declared.tech.Wire.{Wire}
use Rattle.wire_drawing.specs.Drawing.{LeavesRoom}
use Rattle.tech_rules.specs.Facts.{AreSizes}
use Rattle.wire_drawing.proofs.DrawingLaws.{same_box}
use Rattle.channel_router.specs.declared.channel.Interval.{Interval}
use Rattle.channel_router.specs.Tracks.{HasTrack}
use Rattle.channel_router.specs.Wires.{IsChannelHeight, IsTrunk, channel_height, track_y}
use Rattle.channel_router.specs.Placed.{IsTrunkBelow}
use Rattle.channel_router.proofs.HeightLaws.{pitch_apart}

-- one net more
pub trunk_more : (low : ℤ) (wire : Wire) (intervals : List Interval) (track : List ℕ) (k t : ℕ) (a : Interval) (old now new : List Shape) (shape : Shape) → HasTrack intervals track k a t → Adds old now (IsTrunkBelow low wire intervals track k) → new ≡ now ++ shape ∷ [] → IsTrunk low wire a t shape
    → Adds old new (IsTrunkBelow low wire intervals track (k + 1))
trunk_more low wire intervals track k t a old now new shape has before grown drawn =
    adds_as old new (λ s. IsTrunkBelow low wire intervals track k s ⊎ IsTrunk low wire a t s) (IsTrunkBelow low wire intervals track (k + 1))
    (λ s trunk. elim trunk [ inl (net, lt, c, u, on, is) ↦ (net, omega (arith, lt), c, u, on, is) | inr here ↦ (k, omega arith, a, t, has, here) ])
    (λ s trunk. elim (below_or trunk.0 k trunk.1) [
      | inl lt ↦ inl (trunk.0, lt, trunk.2, trunk.3, trunk.4, trunk.5)
      | inr same ↦
          let e = one_at intervals k trunk.2 a (ap (λ (i : ℕ). slice_get intervals i) (sym same) ∙ trunk.4.there) has.there in
          let f = one_at track k trunk.3 t (ap (λ (i : ℕ). slice_get track i) (sym same) ∙ trunk.4.on) has.on in
          inr (subst (λ (u : ℕ). IsTrunk low wire a u s) f (subst (λ (c : Interval). IsTrunk low wire c trunk.3 s) e trunk.5))
    ])
    (adds_both old now new (IsTrunkBelow low wire intervals track k) (IsTrunk low wire a t) before
    (adds_one now new shape (IsTrunk low wire a t) grown drawn (λ s is. same_box (slice_index wire.metals 2) a.left (track_y low wire t) (a.right +ℤ wire.width) (track_y low wire t +ℤ wire.width) s shape is drawn)))

-- the branch and the cut of one pin
pub pin_adds : (track : List ℕ) (net t : ℕ) (Branch Cut : ℕ → Shape → Type 0) (old now new : List Shape) (a b : Shape) → slice_get track net ≡ Some t → now ≡ old ++ a ∷ [] → new ≡ now ++ b ∷ [] → Branch t a → Cut t b
    → ((s : Shape) → Branch t s → s ≡ a) → ((s : Shape) → Cut t s → s ≡ b) → Adds old new (λ s. (u : ℕ) × (slice_get track net ≡ Some u) × (Branch u s ⊎ Cut u s))
pin_adds track net t Branch Cut old now new a b at grown more is_branch is_cut one_branch one_cut =
    adds_as old new (λ s. Branch t s ⊎ Cut t s) (λ s. (u : ℕ) × (slice_get track net ≡ Some u) × (Branch u s ⊎ Cut u s))
    (λ s kind. (t, at, kind))
    (λ s found. subst (λ (u : ℕ). Branch u s ⊎ Cut u s) (one_at track net found.0 t found.1 at) found.2)
    (adds_both old now new (Branch t) (Cut t) (adds_one old now a (Branch t) grown is_branch one_branch) (adds_one now new b (Cut t) more is_cut one_cut))

-- coordinates as they are computed
pub kept : (z : ℤ) → IsNear z → to_z w64 (of_z w64 z) ≡ z
kept z near = omega (arith, ints, near.above, near.below)

pub y_is : (low h z : ℤ) → IsNear low → IsChannelHeight h → h ≡ z → to_z w64 (of_z w64 (to_z w64 (of_z w64 low) +ℤ to_z w64 (of_z w64 h))) ≡ low +ℤ z
y_is low h z near height is = omega (arith, ints, near.above, near.below, height.above, height.below, is)

pub y_above : (low h z w : ℤ) → IsNear low → IsChannelHeight h → h ≡ z → pos 1 ≤ℤ w → w ≤ℤ pos 65536 → to_z w64 (of_z w64 (to_z w64 (of_z w64 (to_z w64 (of_z w64 low) +ℤ to_z w64 (of_z w64 h))) +ℤ to_z w64 (of_z w64 w))) ≡ low +ℤ z +ℤ w
y_above low h z w near height is from to = omega (arith, ints, near.above, near.below, height.above, height.below, is, from, to)

pub x_above : (x w : ℤ) → IsNear x → pos 1 ≤ℤ w → w ≤ℤ pos 65536 → to_z w64 (of_z w64 (to_z w64 (of_z w64 x) +ℤ to_z w64 (of_z w64 w))) ≡ x +ℤ w
x_above x w near from to = omega (arith, ints, near.above, near.below, from, to)

pub room_at : (low h : ℤ) → IsNear low → IsChannelHeight h → LeavesRoom (to_z w64 (of_z w64 (to_z w64 (of_z w64 low) +ℤ to_z w64 (of_z w64 h))))
room_at low h near height = record {
  above = omega (arith, ints, near.above, near.below, height.above, height.below);
  below = omega (arith, ints, near.above, near.below, height.above, height.below);
}

pub room_near : (x : ℤ) → IsNear x → LeavesRoom (to_z w64 (of_z w64 x))
room_near x near = record { above = omega (arith, ints, near.above, near.below); below = omega (arith, ints, near.above, near.below) }

-- a lower track is lower
pub track_below : (wire : Wire) (t n : ℕ) → AreSizes wire → t < n → channel_height wire t <ℤ channel_height wire n
track_below wire t n sizes lt =
    let w = sizes.width in
    let s = sizes.space in
    let gap = pitch_apart t n (wire.width +ℤ wire.space) lt (omega (arith, ints, w.from, s.from)) in
    strictly wire.space (pos t *ℤ (wire.width +ℤ wire.space)) (pos n *ℤ (wire.width +ℤ wire.space)) (wire.width +ℤ wire.space) (omega (arith, ints, w.from, s.from)) gap where
      strictly : (s a b p : ℤ) → pos 0 <ℤ p → (a +ℤ p) ≤ℤ b → (s +ℤ a) <ℤ (s +ℤ b)
      strictly s a b p positive gap = omega (arith, ints, positive, gap)
