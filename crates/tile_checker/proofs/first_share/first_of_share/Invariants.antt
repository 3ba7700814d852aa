use Rattle.std.proofs.Common.{None}
use Rattle.tile_checker.specs.Earliest.{IsEarliestWith}
use Rattle.tile_checker.specs.Seen.{AreTrueNotes}
use Rattle.tile_checker.proofs.FirstLaws.{IsOwnBelow}
use Rattle.tile_checker.proofs.first_share.first_of_share.Given as goal

abbrev pub invariant-loop-index : goal.invariant-loop-index
invariant-loop-index l = record {
  first : IsEarliestWith None (IsOwnBelow l.fn.tech.rules l.bins l.tiles l.workers l.worker l.index) l.least;
  seen : AreTrueNotes l.bins l.notes;
}
