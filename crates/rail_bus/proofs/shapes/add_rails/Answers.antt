-- One rail more.
use Rattle.std.proofs.Common.{◌≡◌, ◌<◌, ◌≤ℤ◌, ℤ, pos, length, ℕ, w64, get_or, refl, subst, arith}
use Rattle.std.proofs.lemmas.Int.{ints, to_z-of_z}
use Rattle.std.proofs.lemmas.Option.{slice_get-get_or}
use Rattle.or_geom.specs.Adds.{Adds}
use Rattle.rail_bus.specs.Highest.{IsRailBelow}
use Rattle.rail_bus.proofs.RailLaws.{rail_more}
use Rattle.rail_bus.proofs.shapes.add_rails.Goals as goal

pub invariant_of-rect : goal.invariant_of-rect
invariant_of-rect c =
    let at_x : c.loop-rail.rail < length c.args.xs.now = c.loop-rail-test.true in
    let sized = c.requires.each in
    let at_y : c.loop-rail.rail < length c.args.highest.now = omega (arith, at_x, sized) in
    let x = c.requires.near_xs c.loop-rail.rail (pos 0) at_x in
    let y = c.requires.near c.loop-rail.rail (pos 0) at_y in
    let low = c.requires.from_low c.loop-rail.rail (pos 0) at_y in
    let w = c.requires.sizes.width in
    record {
      wide = omega (arith, ints, x.above, x.below, w.from, w.to);
      tall = omega (arith, ints, y.above, y.below, low, w.from, w.to);
    }

pub loop-rail-preserved : goal.loop-rail-preserved
loop-rail-preserved c =
    let at_x : c.loop-rail.rail < length c.args.xs.now = c.loop-rail-test.true in
    let sized = c.requires.each in
    let at_y : c.loop-rail.rail < length c.args.highest.now = omega (arith, at_x, sized) in
    let x = c.requires.near_xs c.loop-rail.rail (pos 0) at_x in
    let y = c.requires.near c.loop-rail.rail (pos 0) at_y in
    let w = c.requires.sizes.width in
    rw (to_z-of_z w64 c.args.low c.ranges.low) (rail_more c.args.low c.args.xs.now c.args.highest.now c.args.wire.now c.loop-rail.rail _ _ _ _ (rw (to_z-of_z w64 c.args.low c.ranges.low) at c.loop-rail.invariant) c.in_ok-push.ensures.items
    (record {
      x = get_or c.args.xs.now c.loop-rail.rail (pos 0);
      at_x = slice_get-get_or c.args.xs.now c.loop-rail.rail (pos 0) at_x;
      y = get_or c.args.highest.now c.loop-rail.rail (pos 0);
      at_y = slice_get-get_or c.args.highest.now c.loop-rail.rail (pos 0) at_y;
      drawn = record {
        on = refl;
        left = omega (arith, ints, x.above, x.below);
        low = to_z-of_z w64 c.args.low c.ranges.low;
        right = omega (arith, ints, x.above, x.below, w.from, w.to);
        high = omega (arith, ints, y.above, y.below, w.from, w.to);
      };
    }))

pub returns : goal.returns
returns c =
    let all : c.loop-rail.rail ≡ length c.args.xs.now = omega arith in
    subst (λ (n : ℕ). Adds c.args.shapes.now.items c.loop-rail.shapes.items (IsRailBelow c.args.low c.args.xs.now c.args.highest.now c.args.wire.now n)) all (rw (to_z-of_z w64 c.args.low c.ranges.low) at c.loop-rail.invariant)
