use Rattle.std.proofs.Common.{arith, ◌∙◌, ◌≤ℤ◌}
use Rattle.std.proofs.lemmas.Int.{ints, clamps}
use Rattle.tile_checker.proofs.StripLaws.{lowered_along, falls_less, lower, cell_moved, along_at}
use Rattle.tile_checker.proofs.strip.downward.Goals as goal

pub loop-strip-smaller : goal.loop-strip-smaller
loop-strip-smaller c =
    let less = lower c.args.hull c.loop-strip.strip c.lowered-strip.result _ c.in-Some.rect (omega (arith, ints)) (omega (arith, ints)) c.in-Some.ensures.holds c.lowered-strip.ensures in
    let e = c.lowered-strip.ensures.bottom in
    let within : c.args.hull.y1 ≤ℤ c.lowered-strip.result.bottom = omega (arith, ints, clamps, e) in
    falls_less _ _ _ less within

pub loop-strip-preserved : goal.loop-strip-preserved
loop-strip-preserved c =
    let less = lower c.args.hull c.loop-strip.strip c.lowered-strip.result _ c.in-Some.rect (omega (arith, ints)) (omega (arith, ints)) c.in-Some.ensures.holds c.lowered-strip.ensures in
    let before = c.loop-strip.invariant.lower in
    record {
      along = lowered_along _ _ _ c.loop-strip.strip c.lowered-strip.result _ c.in-Some.rect c.loop-strip.invariant.along (omega (arith, ints)) (omega (arith, ints)) (omega (arith, ints)) c.in-Some.ensures c.lowered-strip.ensures;
      top = c.lowered-strip.ensures.top ∙ c.loop-strip.invariant.top;
      lower = omega (arith, ints, less, before);
    }

pub returns-in_default : goal.returns-in_default
returns-in_default c = record {
  along = along_at _ _ _ _ _ (omega (arith, ints)) c.loop-strip.invariant.along;
  top = c.loop-strip.invariant.top;
  lower = c.loop-strip.invariant.lower;
  ends = λ more h. c.in_default.ensures (cell_moved _ _ _ _ _ (omega (arith, ints)) (omega (arith, ints)) h);
}
