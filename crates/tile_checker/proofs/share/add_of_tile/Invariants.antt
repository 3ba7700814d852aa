use Rattle.or_geom.specs.Adds.{Adds}
use Rattle.tile_checker.specs.Seen.{AreTrueNotes}
use Rattle.tile_checker.proofs.FirstLaws.{IsFoundBelow}
use Rattle.tile_checker.proofs.share.add_of_tile.Given as goal

abbrev pub invariant-loop-number : goal.invariant-loop-number
invariant-loop-number l = record {
  adds : Adds l.fn.notes.found.items l.notes.found.items (IsFoundBelow l.rules l.bins l.fn.tile l.number);
  seen : AreTrueNotes l.bins l.notes;
}
