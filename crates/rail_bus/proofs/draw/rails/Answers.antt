-- The highest taps are near, and the shapes of taps and rails are all.
use Rattle.std.proofs.Common.{◌≡◌, ◌≤ℤ◌, ◌<◌, ℕ, ℤ, List, length, get_or, w64, sym, subst}
use Rattle.std.proofs.lemmas.Int.{to_z-of_z}
use Rattle.or_geom.specs.Distance.{IsNear}
use Rattle.rail_bus.proofs.RailLaws.{near_highest, above_low, all_drawn}
use Rattle.rail_bus.proofs.draw.rails.Goals as goal

pub add_rails-requires-clause-near : goal.add_rails-requires-clause-near
add_rails-requires-clause-near c =
    subst (λ (ys : List ℤ). (k : ℕ) (d : ℤ) → k < length ys → IsNear (get_or ys k d)) (sym c.deref.ensures.value)
    (near_highest c.args.low (length c.args.xs.now) c.args.taps.now c.in_ok-highest.highest.items c.requires.near_low c.requires.near_taps (rw (to_z-of_z w64 c.args.low c.ranges.low) at c.in_ok-highest.ensures))

pub add_rails-requires-clause-from_low : goal.add_rails-requires-clause-from_low
add_rails-requires-clause-from_low c =
    rw (to_z-of_z w64 c.args.low c.ranges.low)
    (subst (λ (ys : List ℤ). (k : ℕ) (d : ℤ) → k < length ys → c.args.low ≤ℤ get_or ys k d) (sym c.deref.ensures.value)
    (above_low c.args.low (length c.args.xs.now) c.args.taps.now c.in_ok-highest.highest.items (rw (to_z-of_z w64 c.args.low c.ranges.low) at c.in_ok-highest.ensures)))

pub returns-clause-drawn : goal.returns-clause-drawn
returns-clause-drawn c =
    let drawn = rw (to_z-of_z w64 c.args.low c.ranges.low, c.deref.ensures.value) at c.in_ok-add_rails.ensures in
    all_drawn c.args.low c.args.xs.now c.in_ok-highest.highest.items c.args.taps.now c.args.wire.now c.new-shapes.result.items c.add_taps.new.shapes.items c.add_rails.new.shapes.items c.new-shapes.ensures.items (rw (to_z-of_z w64 c.args.low c.ranges.low) at c.in_ok-highest.ensures) c.requires.tapped c.in_ok-add_taps.ensures drawn
