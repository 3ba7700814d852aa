use Rattle.std.proofs.Common.{drop}
use Rattle.or_geom.proofs.GatheringLaws.{IsGathering}
use Rattle.cell_hierarchy.specs.Placed.{PointGives}
use Rattle.cell_hierarchy.proofs.own.add_points.Given as goal

abbrev pub invariant-loop-p : goal.invariant-loop-p
invariant-loop-p l = IsGathering (PointGives l.fn.place) l.points (drop l.p-index l.points) l.fn.out.items l.out.items
