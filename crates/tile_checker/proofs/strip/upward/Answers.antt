use Rattle.std.proofs.Common.{arith, ◌∙◌, ◌≤ℤ◌, ◌<ℤ◌}
use Rattle.std.proofs.lemmas.Int.{ints, clamps}
use Rattle.tile_checker.proofs.StripLaws.{raised_along, rises_less}
use Rattle.tile_checker.proofs.strip.upward.Goals as goal

pub loop-strip-smaller : goal.loop-strip-smaller
loop-strip-smaller c =
    let e = c.raised-strip.ensures.top in
    let h = c.in-Some.ensures.holds.high in
    let more : c.loop-strip.strip.top <ℤ c.raised-strip.result.top = omega (arith, ints, clamps, e, h, c.loop-strip-test.true) in
    let within : c.raised-strip.result.top ≤ℤ c.args.hull.y2 = omega (arith, ints, clamps, e) in
    rises_less _ _ _ more within

pub loop-strip-preserved : goal.loop-strip-preserved
loop-strip-preserved c = record {
  along = raised_along _ _ _ c.loop-strip.strip c.raised-strip.result _ c.in-Some.rect c.loop-strip.invariant.along (omega (arith, ints)) (omega (arith, ints)) (omega (arith, ints)) c.in-Some.ensures c.raised-strip.ensures;
  from = c.raised-strip.ensures.bottom ∙ c.loop-strip.invariant.from;
}
