use Rattle.std.proofs.Common.{map, ap, sym, subst, ◌∙◌, List}
use Rattle.std.specs.List.{AllByRecursion}
use Rattle.or_geom.specs.Distance.{IsReachable}
use Rattle.leaf_shapes.specs.declared.pins.LeafPin.{LeafPin}
use Rattle.leaf_shapes.specs.Demands.{plain_demand}
use Rattle.part_edges.proofs.SideLaws.{pin_more}
use Rattle.part_edges.proofs.pins.add_side_edges.Goals as goal

pub loop-demand-preserved-in_ok-add_pin_edge : goal.loop-demand-preserved-in_ok-add_pin_edge
loop-demand-preserved-in_ok-add_pin_edge c =
    record {
      edges = pin_more c.args.side c.args.leaf.role c.args.nets.now c.args.leaf.place (plain_demand c.in-Some.demand.now) _ c.in-Some-split_first.pin.now _ _ _ c.loop-demand.edges.items _ _ c.net_of-net.result.now
          (ap (map plain_demand) c.in-Some.ensures.cases.0) c.in-Some-split_first.ensures.cases.0 (sym c.is_at_side.ensures ∙ c.if-is_at_side.true) c.net_of-net.ensures c.in_ok-add_pin_edge.ensures c.loop-demand.invariant.edges;
      near = (subst (λ (pins : List LeafPin). AllByRecursion (λ (pin : LeafPin). IsReachable pin.rect) pins) c.in-Some-split_first.ensures.cases.0 c.loop-demand.invariant.near).1;
    }
