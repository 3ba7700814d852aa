use Rattle.std.proofs.Common.{drop}
use Rattle.or_geom.proofs.GatheringLaws.{IsGathering}
use Rattle.drawn_devices.specs.DrawnShapes.{GivesDrawn}
use Rattle.drawn_devices.proofs.cut_shapes.add_drawn.Given as goal

abbrev pub invariant-loop-shape : goal.invariant-loop-shape
invariant-loop-shape l = IsGathering (GivesDrawn l.devices) l.shapes (drop l.shape-index l.shapes) l.fn.out.items l.out.items
