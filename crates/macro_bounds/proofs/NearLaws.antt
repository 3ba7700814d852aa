-- The shapes of channels, rails and taps near the origin.
use Rattle.std.proofs.Common.{inl, inr, ℕ, suc, ◌*◌, ◌<◌, ◌≤◌, ◌^◌, ℤ, pos, negsuc, ◌+ℤ◌, ◌*ℤ◌, ◌≤ℤ◌, List, [], ◌∷◌, ◌++◌, length, Bool, true, false, cond, subst, arith}
use Rattle.std.specs.Prelude.{Contains, slice_index, FitsSigned}
use Rattle.std.specs.Int.{w32}
use Rattle.std.proofs.Math.Nat.{mul-le-mul_left}
use Rattle.std.proofs.lemmas.Int.{ints}
use Rattle.std.proofs.lemmas.List.Elements.{All-contains, Contains-append_cases}
use Rattle.or_geom.specs.declared.shape.Shape.{Shape}
use Rattle.or_geom.proofs.GatheringLaws.{giver}
use Rattle.or_geom.proofs.ListLaws.{contained_at}
use Rattle.wire_drawing.specs.declared.route.Tap.{Tap}
use Rattle.tech_rules.specs.declared.tech.Wire.{Wire}
use Rattle.wire_drawing.specs.Drawing.{pitch}
use Rattle.tech_rules.specs.Facts.{AreSizes}
use Rattle.channel_router.specs.declared.channel.Channel.{Channel}
use Rattle.channel_router.specs.declared.channel.ChannelPin.{ChannelPin}
use Rattle.channel_router.specs.declared.channel.Interval.{Interval}
use Rattle.channel_router.specs.Channel.{IsPinOf, places}
use Rattle.channel_router.specs.Density.{is_over, number_over}
use Rattle.channel_router.specs.Wires.{IsTrunk, IsTopBranch, IsBottomBranch, IsWireOf, channel_height, track_y}
use Rattle.rail_bus.specs.Rails.{IsOfTap, IsRailShape}
use Rattle.macro_bounds.specs.Near.{IsCoordinate, IsLengthUpTo, IsWireShape, IsSevenLayerWire, ArePinsWithin, IsChannelWithin, AreNearRails, RoutedShapesAreNear, TracksAreFew, RailShapesAreNear, NearWiresAreWritable}
use Rattle.macro_bounds.proofs.BoxLaws.{all_listed, metal, box_near, LeavesWidth, roomy, wider, via_near}

-- channels

small_product : (t p : ℕ) → t ≤ 4096 → p ≤ 131072 → t * p ≤ 536870912
small_product t p few high = let le = mul-le-mul_left t high in omega (arith, le, few)

product_near : (t : ℕ) (p : ℤ) → t ≤ 4096 → pos 0 ≤ℤ p → p ≤ℤ pos 131072 → (pos 0 ≤ℤ (pos t *ℤ p)) × ((pos t *ℤ p) ≤ℤ pos 536870912)
product_near t (pos p) few low high = let le = small_product t p few (omega (arith, ints, high)) in (omega (arith, ints, le), omega (arith, ints, le))
product_near t (negsuc p) few low high = absurd (omega (arith, ints, low))

height_room : (low s m : ℤ) → IsCoordinate (2 ^ 28) low → pos 1 ≤ℤ s → s ≤ℤ pos 65536 → pos 0 ≤ℤ m → m ≤ℤ pos 536870912 → LeavesWidth (2 ^ 30) (low +ℤ (s +ℤ m))
height_room low s m near from to some few = let above = near.above in let below = near.below in record { above = omega (arith, ints, above, from, some); below = omega (arith, ints, below, to, few) }

at_height : (low : ℤ) (wire : Wire) (t : ℕ) → AreSizes wire → IsCoordinate (2 ^ 28) low → t ≤ 4096 → LeavesWidth (2 ^ 30) (track_y low wire t)
at_height low wire t sizes near few =
    let w_from = sizes.width.from in
    let w_to = sizes.width.to in
    let s_from = sizes.space.from in
    let s_to = sizes.space.to in
    let p = product_near t (pitch wire) few (omega (arith, ints, w_from, s_from)) (omega (arith, ints, w_to, s_to)) in
    height_room low wire.space (pos t *ℤ pitch wire) near s_from s_to p.0 p.1

near_room : (z : ℤ) → IsCoordinate (2 ^ 28) z → LeavesWidth (2 ^ 30) z
near_room z near = let above = near.above in let below = near.below in record { above = omega (arith, ints, above); below = omega (arith, ints, below) }

pin_room : (pins : List ChannelPin) (net : ℕ) (x : ℤ) → ArePinsWithin (2 ^ 28) pins → IsPinOf pins net x → LeavesWidth (2 ^ 30) x
pin_room pins net x near pin = near_room x (subst (IsCoordinate (2 ^ 28)) pin.at_x (All-contains (λ (p : ChannelPin). IsCoordinate (2 ^ 28) p.x) pins pin.pin near pin.listed))

place_near : (ch : Channel) (pin : ChannelPin) → IsChannelWithin ch → Contains (places ch) pin → IsCoordinate (2 ^ 28) pin.x
place_near ch pin near there = elim (Contains-append_cases (ch.top ++ ch.bottom) ch.exits pin there) [
  | inl side ↦ elim (Contains-append_cases ch.top ch.bottom pin side) [
    | inl top ↦ All-contains (λ (p : ChannelPin). IsCoordinate (2 ^ 28) p.x) ch.top pin near.top top
    | inr bottom ↦ All-contains (λ (p : ChannelPin). IsCoordinate (2 ^ 28) p.x) ch.bottom pin near.bottom bottom
  ]
  | inr exit ↦ All-contains (λ (p : ChannelPin). IsCoordinate (2 ^ 28) p.x) ch.exits pin near.exits exit
]

end_room : (ch : Channel) (net : ℕ) (x : ℤ) → IsChannelWithin ch → IsPinOf (places ch) net x → LeavesWidth (2 ^ 30) x
end_room ch net x near pin = near_room x (subst (IsCoordinate (2 ^ 28)) pin.at_x (place_near ch pin.pin near pin.listed))

-- a channel of so many tracks, and a height and two ends in it that leave room for a wire
module _ (wire : Wire) (w : IsSevenLayerWire wire) (low : ℤ) (near : IsCoordinate (2 ^ 28) low) where
  trunk_near : (a : Interval) (t : ℕ) (s : Shape) → LeavesWidth (2 ^ 30) a.left → LeavesWidth (2 ^ 30) a.right → t ≤ 4096 → IsTrunk low wire a t s → IsWireShape wire (2 ^ 30) s
  trunk_near a t s left right few is =
      let y = at_height low wire t w.sizes near few in
      box_near wire (2 ^ 30) (slice_index wire.metals 2) a.left (track_y low wire t) (a.right +ℤ wire.width) (track_y low wire t +ℤ wire.width) s (metal wire 2 w (omega arith))
      (record { left = roomy (2 ^ 30) a.left left; low = roomy (2 ^ 30) (track_y low wire t) y; right = wider (2 ^ 30) a.right wire.width right w.sizes.width.from w.sizes.width.to; high = wider (2 ^ 30) (track_y low wire t) wire.width y w.sizes.width.from w.sizes.width.to }) is

  top_near : (tracks t : ℕ) (x : ℤ) (s : Shape) → LeavesWidth (2 ^ 30) x → t ≤ 4096 → tracks ≤ 4096 → IsTopBranch low wire tracks t x s → IsWireShape wire (2 ^ 30) s
  top_near tracks t x s room few all (inl is) =
      let y = at_height low wire t w.sizes near few in
      let end = at_height low wire tracks w.sizes near all in
      box_near wire (2 ^ 30) (slice_index wire.metals 3) x (track_y low wire t) (x +ℤ wire.width) (low +ℤ channel_height wire tracks) s (metal wire 3 w (omega arith))
      (record { left = roomy (2 ^ 30) x room; low = roomy (2 ^ 30) (track_y low wire t) y; right = wider (2 ^ 30) x wire.width room w.sizes.width.from w.sizes.width.to; high = roomy (2 ^ 30) (low +ℤ channel_height wire tracks) end }) is
  top_near tracks t x s room few all (inr is) = via_near wire (2 ^ 30) 2 x (track_y low wire t) s w (omega arith) room (at_height low wire t w.sizes near few) is

  bottom_near : (t : ℕ) (x : ℤ) (s : Shape) → LeavesWidth (2 ^ 30) x → t ≤ 4096 → IsBottomBranch low wire t x s → IsWireShape wire (2 ^ 30) s
  bottom_near t x s room few (inl is) =
      let y = at_height low wire t w.sizes near few in
      box_near wire (2 ^ 30) (slice_index wire.metals 1) x low (x +ℤ wire.width) (track_y low wire t +ℤ wire.width) s (metal wire 1 w (omega arith))
      (record { left = roomy (2 ^ 30) x room; low = roomy (2 ^ 30) low (near_room low near); right = wider (2 ^ 30) x wire.width room w.sizes.width.from w.sizes.width.to; high = wider (2 ^ 30) (track_y low wire t) wire.width y w.sizes.width.from w.sizes.width.to }) is
  bottom_near t x s room few (inr is) = via_near wire (2 ^ 30) 1 x (track_y low wire t) s w (omega arith) room (at_height low wire t w.sizes near few) is

wire_near : (ch : Channel) (wire : Wire) (tracks net t : ℕ) (a : Interval) (s : Shape) → IsSevenLayerWire wire → IsChannelWithin ch → t ≤ 4096 → tracks ≤ 4096 → LeavesWidth (2 ^ 30) a.left → LeavesWidth (2 ^ 30) a.right → IsWireOf ch wire tracks net a t s → IsWireShape wire (2 ^ 30) s
wire_near ch wire tracks net t a s w near few all left right (inl trunk) = trunk_near wire w ch.low near.low a t s left right few trunk
wire_near ch wire tracks net t a s w near few all left right (inr (inl (x, pin, top))) = top_near wire w ch.low near.low tracks t x s (pin_room ch.top net x near.top pin) few all top
wire_near ch wire tracks net t a s w near few all left right (inr (inr (x, pin, bottom))) = bottom_near wire w ch.low near.low t x s (pin_room ch.bottom net x near.bottom pin) few bottom

pub routed_shapes_are_near : RoutedShapesAreNear
routed_shapes_are_near ch wire intervals routed w near is few = all_listed (IsWireShape wire (2 ^ 30)) routed.shapes (λ s there.
    let one = is.wires.only s there in
    let net = one.0 in
    let of = one.1 in
    let its = is.nets.of_net net of.interval of.has.there in
    let below = is.count.below net of.t of.has.on in
    wire_near ch wire routed.tracks net of.t of.interval s w near (omega (arith, below, few)) few (end_room ch net of.interval.left near its.begins) (end_room ch net of.interval.right near its.ends) of.wires)

-- tracks

over_cond : (b : Bool) (n m : ℕ) → n ≤ m → cond b (suc n) n ≤ suc m
over_cond true n m le = omega (arith, le)
over_cond false n m le = omega (arith, le)

over_few : (p x : ℤ) (intervals : List Interval) → number_over p x intervals ≤ length intervals
over_few p x [] = omega arith
over_few p x (a ∷ rest) = over_cond (is_over p x a) (number_over p x rest) (length rest) (over_few p x rest)

pub tracks_are_few : TracksAreFew
tracks_are_few ch wire intervals tracks nets density =
    let few = over_few (pitch wire) density.x intervals in
    let all = nets.each in
    let is = density.reached in
    omega (arith, few, all, is)

-- rails

up_room : (z : ℤ) → IsLengthUpTo (2 ^ 29) z → LeavesWidth (2 ^ 30) z
up_room z up = let above = up.above in let below = up.below in record { above = omega (arith, ints, above); below = omega (arith, ints, below) }

rail_room : (z : ℤ) → IsLengthUpTo (2 ^ 28) z → LeavesWidth (2 ^ 30) z
rail_room z up = let above = up.above in let below = up.below in record { above = omega (arith, ints, above); below = omega (arith, ints, below) }

tap_room : (z : ℤ) → IsLengthUpTo 1073479680 z → LeavesWidth (2 ^ 30) z
tap_room z up = let above = up.above in let below = up.below in record { above = omega (arith, ints, above); below = omega (arith, ints, below) }

rail_shape_near : (xs : List ℤ) (taps : List Tap) (wire : Wire) (s : Shape) → IsSevenLayerWire wire → AreNearRails xs taps → IsRailShape (pos 0) xs taps wire s → IsWireShape wire (2 ^ 30) s
rail_shape_near xs taps wire s w near (inl some) =
    let found = giver (IsOfTap xs wire) taps s some in
    let tap = found.0 in
    let of = found.2 in
    let x = rail_room of.x (All-contains (IsLengthUpTo (2 ^ 28)) xs of.x near.rails (contained_at xs tap.rail of.x of.at_x)) in
    let y = tap_room tap.y (All-contains (λ (t : Tap). IsLengthUpTo 1073479680 t.y) taps tap near.heights found.1) in
    let end = up_room tap.end (All-contains (λ (t : Tap). IsLengthUpTo (2 ^ 29) t.end) taps tap near.ends found.1) in
    elim of.kind [
      | inl box ↦ box_near wire (2 ^ 30) (slice_index wire.metals 2) of.x tap.y tap.end (tap.y +ℤ wire.width) s (metal wire 2 w (omega arith))
          (record { left = roomy (2 ^ 30) of.x x; low = roomy (2 ^ 30) tap.y y; right = roomy (2 ^ 30) tap.end end; high = wider (2 ^ 30) tap.y wire.width y w.sizes.width.from w.sizes.width.to }) box
      | inr via ↦ via_near wire (2 ^ 30) 2 of.x tap.y s w (omega arith) x y via
    ]
rail_shape_near xs taps wire s w near (inr (rail, is)) =
    let x = rail_room is.x (All-contains (IsLengthUpTo (2 ^ 28)) xs is.x near.rails (contained_at xs rail is.x is.at_x)) in
    let tap = is.highest.tap in
    let y = tap_room is.y (subst (IsLengthUpTo 1073479680) tap.at_y (All-contains (λ (t : Tap). IsLengthUpTo 1073479680 t.y) taps tap.tap near.heights tap.listed)) in
    box_near wire (2 ^ 30) (slice_index wire.metals 3) is.x (pos 0) (is.x +ℤ wire.width) (is.y +ℤ wire.width) s (metal wire 3 w (omega arith))
    (record { left = roomy (2 ^ 30) is.x x; low = record { above = omega (arith, ints); below = omega (arith, ints) }; right = wider (2 ^ 30) is.x wire.width x w.sizes.width.from w.sizes.width.to; high = wider (2 ^ 30) is.y wire.width y w.sizes.width.from w.sizes.width.to }) is.drawn

pub rail_shapes_are_near : RailShapesAreNear
rail_shapes_are_near xs taps wire shapes w near rails = all_listed (IsWireShape wire (2 ^ 30)) shapes (λ s there. rail_shape_near xs taps wire s w near (rails.only s there))

-- what can be written

pub fits_32 : (most : ℕ) (z : ℤ) → most < 2 ^ 31 → IsCoordinate most z → FitsSigned w32 z
fits_32 most z few near = let above = near.above in let below = near.below in omega (arith, ints, few, above, below)

pub near_wires_are_writable : NearWiresAreWritable
near_wires_are_writable wire most [] few near = tt
near_wires_are_writable wire most (s ∷ shapes) few near = (
  record {
    low = record { x = fits_32 most s.rect.x1 few near.0.left; y = fits_32 most s.rect.y1 few near.0.low };
    high = record { x = fits_32 most s.rect.x2 few near.0.right; y = fits_32 most s.rect.y2 few near.0.high };
  },
  near_wires_are_writable wire most shapes few near.1,
)
