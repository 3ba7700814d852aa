use Rattle.std.proofs.Common.{arith}
use Rattle.std.proofs.lemmas.Int.{ints, to_z-of_z}
use Rattle.or_geom.proofs.CoverLaws.{row_ends, row_goes_on}
use Rattle.or_geom.proofs.cover.covered_rows.Goals as goal

pub returns-then-area-rect : goal.returns-then-area-rect
returns-then-area-rect c =
    row_ends _ _ _ c.along.corner _ _ _ c.along.invariant (omega (arith, ints)) (omega (arith, ints)) c.in-Some.ensures (omega (arith, ints)) (omega (arith, ints)) (grind (arith, to_z-of_z))

pub along-preserved : goal.along-preserved
along-preserved c =
    row_goes_on _ _ _ c.along.corner _ _ _ c.along.invariant (omega (arith, ints)) (omega (arith, ints)) c.in-Some.ensures (omega (arith, ints)) (omega (arith, ints)) (grind (arith, to_z-of_z))
