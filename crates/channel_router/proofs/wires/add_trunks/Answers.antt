-- One net more.
use Rattle.std.proofs.Common.{◌≡◌, ◌<◌, ℕ, pos, length, get_or, w64, refl, subst, arith}
use Rattle.std.proofs.lemmas.Int.{ints, to_z-of_z}
use Rattle.std.proofs.lemmas.Option.{slice_get-get_or}
use Rattle.or_geom.specs.Adds.{Adds}
use Rattle.channel_router.specs.declared.channel.Interval.{Interval}
use Rattle.channel_router.specs.Placed.{IsTrunkBelow}
use Rattle.channel_router.specs.Wires.{channel_height}
use Rattle.channel_router.proofs.WireLaws.{trunk_more, kept, y_is, y_above, x_above}
use Rattle.channel_router.proofs.wires.add_trunks.Goals as goal

pub invariant_of-rect : goal.invariant_of-rect
invariant_of-rect c =
    let none : Interval = record { left = pos 0; right = pos 0 } in
    let a : Interval = get_or c.args.intervals.now c.loop-net.net none in
    let near = c.requires.near_intervals c.loop-net.net none c.loop-net-test.true in
    let there = slice_get-get_or c.args.intervals.now c.loop-net.net none c.loop-net-test.true in
    let forward = c.requires.forward c.loop-net.net a there in
    let w = c.requires.sizes.width in
    let value = c.channel_height.ensures.value in
    let room = c.channel_height.ensures.room in
    let x2 = x_above a.right c.args.wire.now.width near.right w.from w.to in
    let x1 = kept a.left near.left in
    let y1 = y_is c.args.low c.channel_height.result c.channel_height.result c.requires.near room refl in
    let y2 = y_above c.args.low c.channel_height.result c.channel_height.result c.args.wire.now.width c.requires.near room refl w.from w.to in
    record {
      wide = rw (x2, x1) (omega (arith, ints, forward, w.from));
      tall = rw (y2, y1) (omega (arith, ints, w.from));
    }

pub loop-net-preserved : goal.loop-net-preserved
loop-net-preserved c =
    let none : Interval = record { left = pos 0; right = pos 0 } in
    let a : Interval = get_or c.args.intervals.now c.loop-net.net none in
    let t : ℕ = get_or c.args.track.now c.loop-net.net 0 in
    let near = c.requires.near_intervals c.loop-net.net none c.loop-net-test.true in
    let there = slice_get-get_or c.args.intervals.now c.loop-net.net none c.loop-net-test.true in
    let sized = c.requires.each in
    let lt : c.loop-net.net < length c.args.intervals.now = c.loop-net-test.true in
    let inside : c.loop-net.net < length c.args.track.now = omega (arith, lt, sized) in
    let w = c.requires.sizes.width in
    let value = c.channel_height.ensures.value in
    let room = c.channel_height.ensures.room in
    rw (to_z-of_z w64 c.args.low c.ranges.low)
    (trunk_more c.args.low c.args.wire.now c.args.intervals.now c.args.track.now c.loop-net.net t a _ _ _ _ (record { there = there; on = slice_get-get_or c.args.track.now c.loop-net.net 0 inside }) (rw (to_z-of_z w64 c.args.low c.ranges.low) at c.loop-net.invariant) c.in_ok-push.ensures.items
    (record {
      on = refl;
      left = kept a.left near.left;
      low = y_is c.args.low c.channel_height.result (channel_height c.args.wire.now t) c.requires.near room value;
      right = x_above a.right c.args.wire.now.width near.right w.from w.to;
      high = y_above c.args.low c.channel_height.result (channel_height c.args.wire.now t) c.args.wire.now.width c.requires.near room value w.from w.to;
    }))

pub returns : goal.returns
returns c =
    let all : c.loop-net.net ≡ length c.args.intervals.now = omega arith in
    subst (λ (n : ℕ). Adds c.args.shapes.now.items c.loop-net.shapes.items (IsTrunkBelow c.args.low c.args.wire.now c.args.intervals.now c.args.track.now n)) all (rw (to_z-of_z w64 c.args.low c.ranges.low) at c.loop-net.invariant)
