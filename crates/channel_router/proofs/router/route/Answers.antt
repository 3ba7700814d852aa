-- The intervals, the lowest tracks and the shapes of the channel.
use Rattle.std.proofs.Common.{◌≡◌, inl, inr, ◌≤◌, ℕ, ℤ, List, pos, ◌+ℤ◌, ◌<ℤ◌, w64, to_z, of_z, sym, subst, ◌∙◌, arith}
use Rattle.std.proofs.lemmas.Int.{ints}
use Rattle.or_geom.specs.declared.shape.Shape.{Shape}
use Rattle.tech_rules.specs.declared.tech.Wire.{Wire}
use Rattle.wire_drawing.specs.Drawing.{pitch}
use Rattle.tech_rules.specs.Facts.{AreSizes}
use Rattle.channel_router.specs.declared.channel.Channel.{Channel}
use Rattle.channel_router.specs.declared.channel.Interval.{Interval}
use Rattle.channel_router.specs.Density.{IsDensity}
use Rattle.channel_router.specs.Intervals.{AreIntervals}
use Rattle.channel_router.specs.Tracks.{AreAssigned, AreTracksBelow, AreForward, IsAssignment, IsLowest, IsTrackCount, LeaveRoom}
use Rattle.channel_router.specs.Wires.{AreWires, IsChannelHeight}
use Rattle.channel_router.specs.Apart.{AreChannelNets, AreSevenLayers}
use Rattle.channel_router.specs.Routed.{HasClosePins}
use Rattle.channel_router.proofs.ApartLaws.{apart}
use Rattle.channel_router.proofs.OneNetLaws.{one_net}
use Rattle.channel_router.proofs.TrackLaws.{lowest_assigns}
use Rattle.channel_router.proofs.DensityLaws.{needed, enough}
use Rattle.channel_router.proofs.RouteLaws.{forward, near_intervals, one_intervals, room_behind}
use Rattle.channel_router.proofs.router.route.Goals as goal

pitch_is : (wire : Wire) → AreSizes wire → to_z w64 (of_z w64 (to_z w64 (of_z w64 wire.width) +ℤ to_z w64 (of_z w64 wire.space))) ≡ pitch wire
pitch_is wire sizes = let w = sizes.width in let s = sizes.space in omega (arith, ints, w.from, w.to, s.from, s.to)

height_is : (h : ℤ) → IsChannelHeight h → to_z w64 (of_z w64 h) ≡ h
height_is h height = omega (arith, ints, height.above, height.below)

positive : (wire : Wire) → AreSizes wire → pos 0 <ℤ pitch wire
positive wire sizes = let w = sizes.width in let s = sizes.space in omega (arith, ints, w.from, s.from)

dense : (ch : Channel) (wire : Wire) (intervals : List Interval) (track : List ℕ) (tracks : ℕ) → AreSizes wire → AreIntervals ch intervals → AreAssigned (pitch wire) intervals track tracks → (others : List Interval) → AreIntervals ch others → IsDensity (pitch wire) others tracks
dense ch wire intervals track tracks sizes are assigned others same =
    subst (λ (l : List Interval). IsDensity (pitch wire) l tracks) (one_intervals ch intervals others are same) (enough (pitch wire) intervals track tracks (positive wire sizes) (forward ch intervals are) assigned.lowest assigned.count)

least : (ch : Channel) (wire : Wire) (intervals : List Interval) (track : List ℕ) (tracks : ℕ) → AreSizes wire → AreIntervals ch intervals → AreAssigned (pitch wire) intervals track tracks
    → (others : List Interval) (other : List ℕ) (n : ℕ) → AreIntervals ch others → IsAssignment (pitch wire) others other → AreTracksBelow other n → tracks ≤ n
least ch wire intervals track tracks sizes are assigned others other n same assignment below =
    let d = dense ch wire intervals track tracks sizes are assigned others same in
    let reached = d.reached in
    let le = needed (pitch wire) d.x others other n assignment below in
    omega (arith, reached, le)

pub lowest_tracks-requires-clause-room : goal.lowest_tracks-requires-clause-room
lowest_tracks-requires-clause-room c =
    let are = c.in_ok-intervals.ensures in
    subst (λ (l : List Interval). LeaveRoom (to_z w64 (of_z w64 (to_z w64 (of_z w64 c.args.wire.now.width) +ℤ to_z w64 (of_z w64 c.args.wire.now.space)))) l) (sym c.deref.ensures.value)
    (subst (λ (p : ℤ). LeaveRoom p c.in_ok-intervals.intervals.items) (sym (pitch_is c.args.wire.now c.requires.sizes))
    (room_behind c.args.wire.now c.in_ok-intervals.intervals.items c.requires.sizes (near_intervals c.args.ch.now c.in_ok-intervals.intervals.items c.requires.channel are)))

pub lowest_tracks-requires-clause-forward : goal.lowest_tracks-requires-clause-forward
lowest_tracks-requires-clause-forward c = subst AreForward (sym c.deref.ensures.value) (forward c.args.ch.now c.in_ok-intervals.intervals.items c.in_ok-intervals.ensures)

pub wires_of-requires-clause-below : goal.wires_of-requires-clause-below
wires_of-requires-clause-below c = subst (λ (l : List ℕ). AreTracksBelow l c.in_ok-track.tracks) (sym c.deref-3.ensures.value) c.in_ok-track.ensures.count.below

pub returns-clause-routed : goal.returns-clause-routed
returns-clause-routed c =
    let assigned = rw (pitch_is c.args.wire.now c.requires.sizes, c.deref.ensures.value) at c.in_ok-track.ensures in
    let wires = rw (c.deref-2.ensures.value, c.deref-3.ensures.value) at c.in_ok-shapes.ensures in (
      c.in_ok-intervals.intervals.items,
      record {
        nets = c.in_ok-intervals.ensures;
        lowest = subst (λ (l : List ℕ). IsLowest (pitch c.args.wire.now) c.in_ok-intervals.intervals.items l) (sym c.from_vec-2.ensures) assigned.lowest;
        count = subst (λ (l : List ℕ). IsTrackCount l c.in_ok-track.tracks) (sym c.from_vec-2.ensures) assigned.count;
        height = height_is c.channel_height.result c.channel_height.ensures.room ∙ c.channel_height.ensures.value;
        wires = subst (λ (l : List ℕ). AreWires c.args.ch.now c.args.wire.now c.in_ok-intervals.intervals.items l c.in_ok-track.tracks c.from_vec.result) (sym c.from_vec-2.ensures)
            (subst (λ (l : List Shape). AreWires c.args.ch.now c.args.wire.now c.in_ok-intervals.intervals.items c.in_ok-track.track.items c.in_ok-track.tracks l) (sym c.from_vec.ensures) wires);
      },
    )

pub returns-clause-dense : goal.returns-clause-dense
returns-clause-dense c =
    let assigned = rw (pitch_is c.args.wire.now c.requires.sizes, c.deref.ensures.value) at c.in_ok-track.ensures in
    dense c.args.ch.now c.args.wire.now c.in_ok-intervals.intervals.items c.in_ok-track.track.items c.in_ok-track.tracks c.requires.sizes c.in_ok-intervals.ensures assigned

pub returns-clause-least : goal.returns-clause-least
returns-clause-least c =
    let assigned = rw (pitch_is c.args.wire.now c.requires.sizes, c.deref.ensures.value) at c.in_ok-track.ensures in
    least c.args.ch.now c.args.wire.now c.in_ok-intervals.intervals.items c.in_ok-track.track.items c.in_ok-track.tracks c.requires.sizes c.in_ok-intervals.ensures assigned

nets : (ch : Channel) (wire : Wire) (intervals : List Interval) (track : List ℕ) (tracks : ℕ) (shapes : List Shape) → AreSizes wire → AreSevenLayers wire → AreIntervals ch intervals → AreAssigned (pitch wire) intervals track tracks → AreWires ch wire intervals track tracks shapes → (HasClosePins ch wire → ⊥)
    → (others : List Interval) → AreIntervals ch others → AreChannelNets ch wire others track tracks shapes
nets ch wire intervals track tracks shapes sizes layers are assigned wires none others same =
    subst (λ (l : List Interval). AreChannelNets ch wire l track tracks shapes) (one_intervals ch intervals others are same) (record {
      apart = λ tech i j s u wired. apart ch wire intervals track tracks sizes layers are (lowest_assigns (pitch wire) intervals track assigned.lowest) (λ close. none (inl close)) (λ close. none (inr close)) tech i j s u wired;
      one = λ tech net s u wired. one_net ch wire intervals track tracks shapes sizes are assigned.count.below wires tech wired net s u;
    })

pub returns-clause-nets : goal.returns-clause-nets
returns-clause-nets c =
    let assigned = rw (pitch_is c.args.wire.now c.requires.sizes, c.deref.ensures.value) at c.in_ok-track.ensures in
    let wires = rw (c.deref-2.ensures.value, c.deref-3.ensures.value) at c.in_ok-shapes.ensures in
    λ others same.
    subst (λ (l : List ℕ). AreChannelNets c.args.ch.now c.args.wire.now others l c.in_ok-track.tracks c.from_vec.result) (sym c.from_vec-2.ensures)
    (subst (λ (l : List Shape). AreChannelNets c.args.ch.now c.args.wire.now others c.in_ok-track.track.items c.in_ok-track.tracks l) (sym c.from_vec.ensures)
    (nets c.args.ch.now c.args.wire.now c.in_ok-intervals.intervals.items c.in_ok-track.track.items c.in_ok-track.tracks c.in_ok-shapes.shapes.items c.requires.sizes c.requires.layers c.in_ok-intervals.ensures assigned wires c.in_ok-refuse_close_pins.ensures.apart others same))
