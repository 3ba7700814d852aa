use Rattle.std.proofs.Common.{arith}
use Rattle.std.proofs.lemmas.Int.{ints}
use Rattle.std.proofs.lemmas.List.{nil_from_length}
use Rattle.tile_checker.proofs.SideLaws.{rights_less, rights_sooner, before_last, ends_empty}
use Rattle.tile_checker.proofs.sides.strips_below.Goals as goal

pub returns-then-last-to-clause-rights : goal.returns-then-last-to-clause-rights
returns-then-last-to-clause-rights c = rights_sooner _ _ _ _ _ (omega (arith, ints)) c.loop-last.invariant

pub returns-then-last-to-clause-before : goal.returns-then-last-to-clause-before
returns-then-last-to-clause-before c = let right = c.requires.right in before_last _ _ _ _ c.in-Some.ensures.cases.0 (omega (arith, ints, right))

pub loop-last-preserved : goal.loop-last-preserved
loop-last-preserved c = let right = c.requires.right in rights_less _ _ _ c.in-Some.rest.now c.in-Some.last.now _ c.loop-last.invariant c.in-Some.ensures.cases.0 (omega (arith, ints, right))

pub returns-clause-rights : goal.returns-clause-rights
returns-clause-rights c = rights_sooner _ _ _ _ _ (omega (arith, ints)) c.loop-last.invariant

pub returns-clause-before : goal.returns-clause-before
returns-clause-before c = ends_empty _ _ (nil_from_length _ c.in_default.ensures.cases)
