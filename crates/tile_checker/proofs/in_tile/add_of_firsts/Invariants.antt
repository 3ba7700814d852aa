use Rattle.std.proofs.Common.{drop}
use Rattle.or_geom.proofs.GatheringLaws.{IsGathering}
use Rattle.tile_checker.specs.Seen.{AreTrueNotes}
use Rattle.tile_checker.specs.Tiles.{IsFromPlace}
use Rattle.tile_checker.proofs.in_tile.add_of_firsts.Given as goal

abbrev pub invariant-loop-place : goal.invariant-loop-place
invariant-loop-place l = record {
  adds : IsGathering (IsFromPlace l.number l.fn.rule l.bins l.fn.tile) l.firsts (drop l.place-index l.firsts) l.fn.notes.found.items l.notes.found.items;
  seen : AreTrueNotes l.bins l.notes;
}
