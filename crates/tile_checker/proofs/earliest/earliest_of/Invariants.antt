use Rattle.cell_hierarchy.specs.Below.{SomeBelow}
use Rattle.tile_checker.specs.Earliest.{IsEarliestWith, StandsAt}
use Rattle.tile_checker.proofs.earliest.earliest_of.Given as goal

abbrev pub invariant-loop-violation : goal.invariant-loop-violation
invariant-loop-violation l = IsEarliestWith l.fn.kept (SomeBelow (StandsAt l.list) l.violation-index) l.least
