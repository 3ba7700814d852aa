use Rattle.std.proofs.Common.{[], drop}
use Rattle.or_geom.proofs.GatheringLaws.{IsGathering}
use Rattle.tile_checker.specs.Candidates.{IsCandidateAt}
use Rattle.tile_checker.proofs.candidates.candidates_at.Given as goal

abbrev pub invariant-loop-place : goal.invariant-loop-place
invariant-loop-place l = IsGathering (IsCandidateAt l.bins) l.places (drop l.place-index l.places) [] l.candidates.items
