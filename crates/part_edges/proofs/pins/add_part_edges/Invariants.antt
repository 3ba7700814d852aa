use Rattle.std.proofs.Common.{◌≡◌, ◌++◌, length}
use Rattle.std.specs.List.{AllByRecursion}
use Rattle.or_geom.specs.Place.{IsNearPoint}
use Rattle.cell_builder.specs.declared.cell.PlacedInstance.{PlacedInstance}
use Rattle.part_edges.specs.PartPins.{edges_at, part_pins}
use Rattle.part_edges.proofs.pins.add_part_edges.Given as goal

abbrev pub invariant-loop-role : goal.invariant-loop-role
invariant-loop-role l = record {
  edges : l.edges.items ++ edges_at l.side (part_pins l.kit.leaves l.rest l.instances l.placed) ≡ l.fn.edges.items ++ edges_at l.side (part_pins l.kit.leaves l.roles l.fn.instances l.fn.placed);
  near : AllByRecursion (λ (cell : PlacedInstance). IsNearPoint cell.place.at) l.placed;
}

abbrev pub decreases-loop-role : goal.decreases-loop-role
decreases-loop-role l = length l.rest
