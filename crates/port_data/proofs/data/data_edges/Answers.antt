use Rattle.std.proofs.Common.{List, IfOk, sym, subst, ◌∙◌}
use Rattle.std.specs.List.{AllByRecursion}
use Rattle.or_geom.specs.Place.{IsNearPoint}
use Rattle.cell_builder.specs.declared.cell.PlacedInstance.{PlacedInstance}
use Rattle.part_edges.specs.PartPins.{PartPin, part_pins, AreEdgesOf}
use Rattle.port_data.proofs.data.data_edges.Goals as goal

pub edges_of-requires-clause-near : goal.edges_of-requires-clause-near
edges_of-requires-clause-near c = subst (AllByRecursion (λ (i : PlacedInstance). IsNearPoint i.place.at)) (sym c.as_slice-placed.ensures) c.requires.near

pub returns-clause-edges : goal.returns-clause-edges
returns-clause-edges c =
    let roles = c.deref.ensures.value ∙ c.in_ok-roles.ensures in
    subst (λ (pins : List PartPin). IfOk c.edges_of.result (AreEdgesOf pins)) (λ i. part_pins c.args.kit.now.leaves (roles i) (c.as_slice-instances.ensures i) (c.as_slice-placed.ensures i)) c.edges_of.ensures.edges
