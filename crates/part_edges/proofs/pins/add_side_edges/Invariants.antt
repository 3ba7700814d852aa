use Rattle.std.proofs.Common.{◌≡◌, ◌++◌, length, map}
use Rattle.std.specs.List.{AllByRecursion}
use Rattle.or_geom.specs.Distance.{IsReachable}
use Rattle.leaf_shapes.specs.declared.pins.LeafPin.{LeafPin}
use Rattle.leaf_shapes.specs.Demands.{plain_demand}
use Rattle.part_edges.specs.PartPins.{edges_at, side_pins}
use Rattle.part_edges.proofs.pins.add_side_edges.Given as goal

abbrev pub invariant-loop-demand : goal.invariant-loop-demand
invariant-loop-demand l = record {
  edges : l.edges.items ++ edges_at l.side (side_pins l.leaf.role l.nets l.leaf.place (map plain_demand l.rest) l.pins) ≡ l.fn.edges.items ++ edges_at l.side (side_pins l.leaf.role l.nets l.leaf.place (map plain_demand l.demands) l.fn.pins);
  near : AllByRecursion (λ (pin : LeafPin). IsReachable pin.rect) l.pins;
}

abbrev pub decreases-loop-demand : goal.decreases-loop-demand
decreases-loop-demand l = length l.rest
