use Rattle.std.proofs.Common.{[]}
use Rattle.or_geom.specs.Adds.{Adds}
use Rattle.tile_checker.specs.Seen.{AreTrueNotes}
use Rattle.tile_checker.proofs.FirstLaws.{IsOwnBelow}
use Rattle.tile_checker.proofs.share.share_of.Given as goal

abbrev pub invariant-loop-index : goal.invariant-loop-index
invariant-loop-index l = record {
  adds : Adds [] l.notes.found.items (IsOwnBelow l.fn.tech.rules l.bins l.tiles l.workers l.worker l.index);
  seen : AreTrueNotes l.bins l.notes;
}
