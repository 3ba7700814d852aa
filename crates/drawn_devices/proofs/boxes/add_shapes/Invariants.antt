use Rattle.std.proofs.Common.{drop}
use Rattle.or_geom.proofs.GatheringLaws.{IsGathering}
use Rattle.drawn_devices.specs.Boxes.{IsOnLayer}
use Rattle.drawn_devices.proofs.boxes.add_shapes.Given as goal

abbrev pub invariant-loop-rect : goal.invariant-loop-rect
invariant-loop-rect l = IsGathering (IsOnLayer l.layer) l.boxes (drop l.rect-index l.boxes) l.fn.out.items l.out.items
