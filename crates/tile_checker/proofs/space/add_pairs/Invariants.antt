use Rattle.std.proofs.Common.{drop}
use Rattle.or_geom.proofs.GatheringLaws.{IsGathering}
use Rattle.tile_checker.specs.Tiles.{IsPairAt}
use Rattle.tile_checker.proofs.space.add_pairs.Given as goal

abbrev pub invariant-loop-place : goal.invariant-loop-place
invariant-loop-place l = IsGathering (IsPairAt l.fn.rule l.bins l.fn.tile l.fn.first) l.places (drop l.place-index l.places) l.fn.out.items l.out.items
