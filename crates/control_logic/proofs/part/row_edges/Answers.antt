use Rattle.std.proofs.Common.{◌≡◌, ℤ, pos, to_z, of_z, w64, List, IfOk, ap, sym, subst, ◌∙◌, arith}
use Rattle.std.specs.List.{AllByRecursion}
use Rattle.std.proofs.lemmas.Int.{ints}
use Rattle.or_geom.specs.Place.{IsNearPoint}
use Rattle.cell_builder.specs.declared.cell.PlacedInstance.{PlacedInstance}
use Rattle.cell_builder.specs.declared.cell.DrawnCell.{DrawnCell}
use Rattle.sram_netlist.specs.InstanceList.{logic_cells}
use Rattle.sram_plan.specs.PlanNumbers.{organization}
use Rattle.leaf_tables.specs.declared.part.Edges.{Edges}
use Rattle.floorplan.specs.LayoutOfKit.{layout_kit}
use Rattle.part_edges.specs.PartPins.{PartPin, part_pins, AreEdgesOf}
use Rattle.control_logic.specs.LogicPart.{logic_width}
use Rattle.control_logic.proofs.RowLaws.{near_row}
use Rattle.control_logic.proofs.part.row_edges.Goals as goal

pub edges_of-requires-clause-near : goal.edges_of-requires-clause-near
edges_of-requires-clause-near c =
    let plan = organization c.args.plan.now in
    let kit = layout_kit c.args.kit.now in
    let few = c.row_width.ensures.few in
    let is = c.row_width.ensures.is plan c.requires.row in
    subst (AllByRecursion (λ (i : PlacedInstance). IsNearPoint i.place.at)) (sym (c.as_slice.ensures ∙ ap (λ (d : DrawnCell). d.instances) c.requires.cell))
    (near_row plan kit (logic_cells plan) 0 (omega (arith, few, is)))

pub returns-clause-edges : goal.returns-clause-edges
returns-clause-edges c =
    let roles = c.deref.ensures.value ∙ c.requires.row.roles in
    let gates = c.deref-2.ensures.value ∙ c.requires.row.gates in
    let cells = c.as_slice.ensures ∙ ap (λ (d : DrawnCell). d.instances) c.requires.cell in
    subst (λ (pins : List PartPin). IfOk c.edges_of.result (AreEdgesOf pins)) (λ i. part_pins c.args.kit.now.leaves (roles i) (gates i) (cells i)) c.edges_of.ensures.edges

pub returns-clause-width : goal.returns-clause-width
returns-clause-width c =
    let is = c.row_width.ensures.is (organization c.args.plan.now) c.requires.row in
    let few = c.row_width.ensures.few in
    let read = c.from-width.ensures in
    let wide : to_z w64 (of_z w64 c.from-width.result) ≡ pos (logic_width (organization c.args.plan.now) (layout_kit c.args.kit.now)) = omega (arith, ints, is, few, read) in
    subst (λ (z : ℤ). IfOk c.edges_of.result (λ (edges : Edges). edges.width ≡ z)) wide c.edges_of.ensures.width
