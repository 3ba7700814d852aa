use Rattle.std.proofs.Common.{drop}
use Rattle.or_geom.proofs.GatheringLaws.{IsGathering}
use Rattle.tile_checker.specs.Candidates.{MeetsAt}
use Rattle.tile_checker.proofs.candidates.add_places.Given as goal

abbrev pub invariant-loop-candidate : goal.invariant-loop-candidate
invariant-loop-candidate l = IsGathering (MeetsAt l.fn.area) l.candidates (drop l.candidate-index l.candidates) l.fn.near.items l.near.items
