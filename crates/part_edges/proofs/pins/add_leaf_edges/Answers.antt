use Rattle.std.proofs.Common.{List, sym, subst}
use Rattle.std.specs.List.{AllByRecursion}
use Rattle.or_geom.specs.Distance.{IsReachable}
use Rattle.leaf_shapes.specs.declared.pins.LeafPin.{LeafPin}
use Rattle.part_edges.proofs.SideLaws.{all_reachable}
use Rattle.part_edges.proofs.pins.add_leaf_edges.Goals as goal

pub add_side_edges-requires-clause-pins : goal.add_side_edges-requires-clause-pins
add_side_edges-requires-clause-pins c =
    subst (λ (pins : List LeafPin). AllByRecursion (λ (pin : LeafPin). IsReachable pin.rect) pins) (sym c.as_slice-pins.ensures) (all_reachable _ c.leaf_of.ensures.near.pins)
