use Rattle.tile_checker.specs.Earliest.{IsEarliestWith}
use Rattle.tile_checker.specs.Seen.{AreTrueNotes}
use Rattle.tile_checker.proofs.FirstLaws.{IsFoundBelow}
use Rattle.tile_checker.proofs.first_share.first_of_tile.Given as goal

abbrev pub invariant-loop-number : goal.invariant-loop-number
invariant-loop-number l = record {
  first : IsEarliestWith l.fn.kept (IsFoundBelow l.rules l.bins l.fn.tile l.number) l.least;
  seen : AreTrueNotes l.bins l.notes;
}
