-- One tap more.
use Rattle.std.proofs.Common.{◌≡◌, ◌<◌, ◌≤ℤ◌, ◌+ℤ◌, ℤ, pos, get_or, refl, sym, arith}
use Rattle.std.specs.Prelude.{slice_get}
use Rattle.std.proofs.lemmas.Int.{ints}
use Rattle.std.proofs.lemmas.List.{drop_all}
use Rattle.std.proofs.lemmas.Option.{slice_get-get_or, get_or_from_slice_get}
use Rattle.or_geom.proofs.ListLaws.{rest_at, contained_at}
use Rattle.or_geom.proofs.GatheringLaws.{gather_goes_on, gather_ends}
use Rattle.wire_drawing.specs.declared.route.Tap.{Tap}
use Rattle.rail_bus.proofs.RailLaws.{tap_adds, kept}
use Rattle.rail_bus.proofs.shapes.add_taps.Goals as goal

pub invariant_of-rect : goal.invariant_of-rect
invariant_of-rect c =
    let tap : Tap = get_or c.args.taps.now c.loop-tap.tap-index (record { rail = 0; y = pos 0; end = pos 0 }) in
    let near = c.requires.near_taps c.loop-tap.tap-index (record { rail = 0; y = pos 0; end = pos 0 }) c.loop-tap-test.true in
    let inside = c.requires.of_rails c.loop-tap.tap-index (record { rail = 0; y = pos 0; end = pos 0 }) c.loop-tap-test.true in
    let x = c.requires.near_xs tap.rail (pos 0) inside in
    let listed = contained_at c.args.taps.now c.loop-tap.tap-index tap (slice_get-get_or c.args.taps.now c.loop-tap.tap-index (record { rail = 0; y = pos 0; end = pos 0 }) c.loop-tap-test.true) in
    let end = c.requires.ends tap (get_or c.args.xs.now tap.rail (pos 0)) listed (slice_get-get_or c.args.xs.now tap.rail (pos 0) inside) in
    let w = c.requires.sizes.width in
    record {
      wide = omega (arith, ints, x.above, x.below, near.end.above, near.end.below, end, w.from, w.to);
      tall = omega (arith, ints, near.y.above, near.y.below, w.from, w.to);
    }

pub via-requires-clause-room_x : goal.via-requires-clause-room_x
via-requires-clause-room_x c =
    let inside = c.requires.of_rails c.loop-tap.tap-index (record { rail = 0; y = pos 0; end = pos 0 }) c.loop-tap-test.true in
    let x = c.requires.near_xs (get_or c.args.taps.now c.loop-tap.tap-index (record { rail = 0; y = pos 0; end = pos 0 })).rail (pos 0) inside in
    record { above = omega (arith, ints, x.above, x.below); below = omega (arith, ints, x.above, x.below) }

pub via-requires-clause-room_y : goal.via-requires-clause-room_y
via-requires-clause-room_y c =
    let near = c.requires.near_taps c.loop-tap.tap-index (record { rail = 0; y = pos 0; end = pos 0 }) c.loop-tap-test.true in
    record { above = omega (arith, ints, near.y.above, near.y.below); below = omega (arith, ints, near.y.above, near.y.below) }

pub loop-tap-preserved : goal.loop-tap-preserved
loop-tap-preserved c =
    let none : Tap = record { rail = 0; y = pos 0; end = pos 0 } in
    let tap : Tap = get_or c.args.taps.now c.loop-tap.tap-index none in
    let near = c.requires.near_taps c.loop-tap.tap-index none c.loop-tap-test.true in
    let inside = c.requires.of_rails c.loop-tap.tap-index none c.loop-tap-test.true in
    let x = c.requires.near_xs tap.rail (pos 0) inside in
    let w = c.requires.sizes.width in
    let here = slice_get-get_or c.args.taps.now c.loop-tap.tap-index none c.loop-tap-test.true in
    let cut = rw (kept (get_or c.args.xs.now tap.rail (pos 0)) x, kept tap.y near.y) at c.via.ensures in
    gather_goes_on _ c.args.taps.now _ _ tap _ _ _ (rest_at c.args.taps.now c.loop-tap.tap-index tap c.loop-tap-test.true (sym (get_or_from_slice_get c.args.taps.now c.loop-tap.tap-index tap tap here))) c.loop-tap.invariant
    (tap_adds c.args.xs.now c.args.wire.now tap (get_or c.args.xs.now tap.rail (pos 0)) _ _ _ _ _ (slice_get-get_or c.args.xs.now tap.rail (pos 0) inside) c.in_ok-push.ensures.items c.in_ok-push-2.ensures.items
    (record {
      on = refl;
      left = omega (arith, ints, x.above, x.below);
      low = omega (arith, ints, near.y.above, near.y.below);
      right = omega (arith, ints, near.end.above, near.end.below);
      high = omega (arith, ints, near.y.above, near.y.below, w.from, w.to);
    }) cut)

pub returns : goal.returns
returns c = gather_ends _ _ _ _ _ (drop_all c.loop-tap.tap-index c.args.taps.now c.loop-tap-test.false) c.loop-tap.invariant
