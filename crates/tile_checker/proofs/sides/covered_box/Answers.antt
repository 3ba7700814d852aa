use Rattle.std.proofs.Common.{arith, pos, ◌+ℤ◌, ◌-ℤ◌}
use Rattle.std.proofs.lemmas.Int.{ints, by_lt_z}
use Rattle.shape_bins.specs.Layers.{rects_on}
use Rattle.tile_checker.specs.Strips.{IsStripAt, AreRights}
use Rattle.tile_checker.proofs.StripLaws.{window_begins, falls_less}
use Rattle.tile_checker.proofs.SideLaws.{rights_moved, rights_sooner, strip_moved, within_low, none_left, none_there, window_left, slides}
use Rattle.tile_checker.proofs.sides.covered_box.Goals as goal

pub leftward-init : goal.leftward-init
leftward-init c = record {
  rights = rights_moved _ _ _ _ _ _ c.as_slice-kept.ensures.value (omega (arith, ints)) c.in_ok-strips.ensures;
  window = window_begins _ _ _ _ _ _ c.requires.frame (omega (arith, ints)) (omega (arith, ints, c.requires.hull.low)) (omega (arith, ints, c.requires.hull.high));
  from = omega (arith, ints, c.requires.frame.across);
  to = omega (arith, ints);
  slides = λ corner b. record { corner = corner; box = b; within = omega (arith, ints, b.right) };
}

pub strips_below-kept-requires-clause-rights : goal.strips_below-kept-requires-clause-rights
strips_below-kept-requires-clause-rights c = rights_sooner _ _ _ _ _ (omega (arith, ints)) c.leftward.invariant.rights

pub box_at-requires-clause-rights : goal.box_at-requires-clause-rights
box_at-requires-clause-rights c = rights_sooner _ _ _ _ _ (omega (arith, ints)) c.strips_below-kept.ensures.rights

pub box_at-requires-clause-before : goal.box_at-requires-clause-before
box_at-requires-clause-before c = λ rest last e. let before = c.strips_below-kept.ensures.before rest last e in omega (arith, ints, before)

pub returns-then-window-frame : goal.returns-then-window-frame
returns-then-window-frame c = λ corner b. none_left (rects_on c.args.layer c.args.bins.now) c.args.frame c.leftward.window.left (omega (arith, ints)) c.in_default.ensures (c.leftward.invariant.slides corner b)

pub has_room-requires : goal.has_room-requires
has_room-requires c =
    within_low (rects_on c.args.layer c.args.bins.now) c.args.frame _ _ _ c.leftward.window c.strip_at.result c.within-next.result c.leftward.invariant.window c.strip_at.ensures c.within-next.ensures

pub returns-then-not-has_room : goal.returns-then-not-has_room
returns-then-not-has_room c = λ corner b.
    none_there (rects_on c.args.layer c.args.bins.now) c.args.frame c.leftward.window c.strip_at.result c.within-next.result c.requires.frame c.leftward.invariant.to c.leftward.invariant.window
    (strip_moved _ _ _ _ _ (omega (arith, ints)) c.strip_at.ensures) c.within-next.ensures (by_lt_z _ _ (λ lt. lt) (λ ge. let yes = c.if-not-has_room.ensures.1 ge in absurd cc)) c.in_default.ensures (c.leftward.invariant.slides corner b)

pub leftward-smaller : goal.leftward-smaller
leftward-smaller c =
    let before = c.strip_at.ensures.before in
    let left = c.strip_at.ensures.left in
    let same = c.within-next.ensures.left in
    falls_less c.leftward.window.left c.within-next.result.left c.args.frame.low.x (omega (arith, ints, before, same)) (omega (arith, ints, left, same))

pub leftward-preserved : goal.leftward-preserved
leftward-preserved c =
    let rects = rects_on c.args.layer c.args.bins.now in
    let to = c.leftward.invariant.to in
    let st : IsStripAt rects c.args.frame (c.leftward.window.left -ℤ pos 1) c.strip_at.result = strip_moved _ _ _ _ _ (omega (arith, ints)) c.strip_at.ensures in
    let before = st.before in
    let left = st.left in
    let same = c.within-next.ensures.left in
    let rights : AreRights rects c.args.frame c.strips_below-kept.result.now (c.leftward.window.left +ℤ c.args.frame.width) = rights_sooner _ _ _ _ _ (omega (arith, ints)) c.strips_below-kept.ensures.rights in
    record {
      rights = rights_sooner _ _ _ _ _ (omega (arith, ints, before, same)) rights;
      window = window_left rects c.args.frame c.leftward.window c.strip_at.result c.within-next.result to c.leftward.invariant.window st c.within-next.ensures;
      from = omega (arith, ints, left, same);
      to = omega (arith, ints, before, same, to);
      slides = λ corner b.
          slides rects c.args.frame c.leftward.window c.strip_at.result c.within-next.result c.requires.frame to st c.within-next.ensures c.in_default.ensures (c.leftward.invariant.slides corner b);
    }
