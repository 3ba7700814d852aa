use Rattle.std.proofs.Common.{arith, sym, subst, List, ◌≤ℤ◌, ◌<ℤ◌, w64, to_z, of_z}
use Rattle.std.proofs.lemmas.Int.{ints, by_lt_z}
use Rattle.shape_bins.specs.Layers.{rects_on}
use Rattle.tile_checker.specs.declared.strip.Strip.{Strip}
use Rattle.tile_checker.specs.Strips.{AreStripsUpTo, IsLink}
use Rattle.tile_checker.proofs.StripLaws.{window_begins, rises_less}
use Rattle.tile_checker.proofs.SideLaws.{chain_begins, chain_push, strip_moved, rights_full, rights_end, link_of, within_low}
use Rattle.tile_checker.proofs.sides.right_strips.Goals as goal

pub loop-window-init : goal.loop-window-init
loop-window-init c = record {
  chain = chain_begins _ _ _ _ _ c.new-strips.ensures.items (omega (arith, ints));
  after = omega (arith, ints);
  window = window_begins _ _ _ _ _ _ c.requires.frame (omega (arith, ints)) (omega (arith, ints, c.requires.hull.low)) (omega (arith, ints, c.requires.hull.high));
}

pub has_room-requires : goal.has_room-requires
has_room-requires c =
    within_low (rects_on c.args.layer c.args.bins.now) c.args.frame _ _ c.loop-window.window.right c.loop-window.window c.strip_at.result c.within-next.result c.loop-window.invariant.window (strip_moved _ _ _ _ _ (omega (arith, ints)) c.strip_at.ensures) c.within-next.ensures

pub returns-then-not-has_room : goal.returns-then-not-has_room
returns-then-not-has_room c =
    rights_end (rects_on c.args.layer c.args.bins.now) c.args.frame c.loop-window.strips.items _ c.loop-window.window c.strip_at.result c.within-next.result c.loop-window.invariant.chain c.loop-window.invariant.after c.loop-window.invariant.window
    (strip_moved _ _ _ _ _ (omega (arith, ints)) c.strip_at.ensures) c.within-next.ensures (by_lt_z _ _ (λ lt. lt) (λ ge. let yes = c.if-not-has_room.ensures.1 ge in absurd cc))

pub loop-window-smaller : goal.loop-window-smaller
loop-window-smaller c =
    let after = c.strip_at.ensures.after in
    let right = c.strip_at.ensures.right in
    let same = c.within-next.ensures.right in
    let end = c.requires.hull.right in
    let more : c.loop-window.window.right <ℤ c.within-next.result.right = omega (arith, ints, after, same) in
    let within : c.within-next.result.right ≤ℤ c.args.hull.x2 = omega (arith, ints, right, same, end) in
    rises_less c.loop-window.window.right (to_z w64 (of_z w64 c.within-next.result.right)) c.args.hull.x2 (omega (arith, ints, more)) (omega (arith, ints, within))

pub loop-window-preserved : goal.loop-window-preserved
loop-window-preserved c =
    let rects = rects_on c.args.layer c.args.bins.now in
    let next : Strip = record {
      left = to_z w64 (of_z w64 c.loop-window.window.right);
      right = to_z w64 (of_z w64 c.within-next.result.right);
      bottom = to_z w64 (of_z w64 c.within-next.result.bottom);
      top = to_z w64 (of_z w64 c.within-next.result.top);
    } in
    let link : IsLink rects c.args.frame c.loop-window.window.right next = link_of rects c.args.frame c.loop-window.window c.strip_at.result c.within-next.result next c.loop-window.invariant.after c.loop-window.invariant.window
    (strip_moved _ _ _ _ _ (omega (arith, ints)) c.strip_at.ensures) c.within-next.ensures (omega (arith, ints)) (omega (arith, ints)) (omega (arith, ints)) (omega (arith, ints)) in
    let longer = link.longer in
    let after = c.loop-window.invariant.after in
    record {
      chain = subst (λ (ss : List Strip). AreStripsUpTo rects c.args.frame c.args.frame.high.x ss next.right) (sym c.in_ok-push.ensures.items)
          (chain_push rects c.args.frame c.args.frame.high.x c.loop-window.window.right c.loop-window.strips.items next c.loop-window.invariant.chain link);
      after = omega (arith, ints, longer, after);
      window = link.each next.right longer (omega (arith, ints));
    }

pub returns : goal.returns
returns c = rights_full (rects_on c.args.layer c.args.bins.now) c.args.frame c.loop-window.strips.items _ _ c.loop-window.invariant.chain (omega (arith, ints, c.requires.hull.right))
