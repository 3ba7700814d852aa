use Rattle.std.proofs.Common.{None}
use Rattle.cell_hierarchy.specs.Below.{SomeBelow}
use Rattle.tile_checker.specs.Earliest.{AreFound, HasFirstAt, IsEarliestWith}
use Rattle.tile_checker.proofs.first_found.first_of_all.Given as goal

abbrev pub invariant-loop-found : goal.invariant-loop-found
invariant-loop-found l = record {
  there : AreFound l.results l.found-index;
  first : IsEarliestWith None (SomeBelow (HasFirstAt l.results) l.found-index) l.least;
}
