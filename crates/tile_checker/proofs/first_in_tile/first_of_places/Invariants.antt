use Rattle.cell_hierarchy.specs.Below.{SomeBelow}
use Rattle.tile_checker.specs.Earliest.{IsEarliestWith, IsFromIndex}
use Rattle.tile_checker.specs.Seen.{AreTrueNotes}
use Rattle.tile_checker.proofs.first_in_tile.first_of_places.Given as goal

abbrev pub invariant-loop-place : goal.invariant-loop-place
invariant-loop-place l = record {
  first : IsEarliestWith l.fn.kept (SomeBelow (IsFromIndex l.number l.fn.rule l.bins l.fn.tile l.places) l.place-index) l.least;
  seen : AreTrueNotes l.bins l.notes;
}
