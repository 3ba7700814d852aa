use Rattle.std.proofs.Common.{arith}
use Rattle.std.proofs.lemmas.Int.{ints, clamps, to_z-of_z}
use Rattle.or_geom.proofs.GapLaws.{gap_after, gap_touching_before, gap_touching_after, gap_shared}
use Rattle.or_geom.proofs.gap.gap.Goals as goal

pub returns-then-b-a : goal.returns-then-b-a
returns-then-b-a c = gap_after _ _ _ (omega (arith, ints)) (omega (arith, ints)) (omega (arith, ints))

pub returns-then-a-b-2 : goal.returns-then-a-b-2
returns-then-a-b-2 c = gap_touching_before _ _ _ (omega (arith, ints)) (omega (arith, ints)) (omega (arith, ints))

pub returns-then-b-a-2 : goal.returns-then-b-a-2
returns-then-b-a-2 c = gap_touching_after _ _ _ (omega (arith, ints)) (omega (arith, ints)) (omega (arith, ints))

pub invariant_of-result-2 : goal.invariant_of-result-2
invariant_of-result-2 c = record { ordered = grind (arith, ints, clamps, to_z-of_z) }

pub returns : goal.returns
returns c = gap_shared _ _ _ (omega (arith, ints)) (omega (arith, ints)) (grind (arith, to_z-of_z)) (grind (arith, to_z-of_z))
