-- The data on the floorplan of a main channel without tracks, and so on each.
use Rattle.std.proofs.Common.{◌≡◌, List, ap, sym, subst, ◌∙◌, pos, ℕ, ◌*◌, to_z, of_z, w64, arith}
use Rattle.std.specs.Prelude.{◌-ℤ◌}
use Rattle.std.specs.List.{AllByRecursion}
use Rattle.std.proofs.lemmas.Int.{ints}
use Rattle.std.proofs.lemmas.Option.{same_Some}
use Rattle.or_geom.specs.Distance.{IsNear}
use Rattle.or_geom.specs.Place.{IsNearPoint}
use Rattle.tech_rules.specs.declared.tech.RoleName.{RoleName}
use Rattle.tech_rules.specs.declared.tech.Wire.{Wire}
use Rattle.netlist.specs.declared.deck.Subckt.{Subckt}
use Rattle.cell_builder.specs.declared.cell.PlacedInstance.{PlacedInstance}
use Rattle.cell_builder.specs.declared.cell.DrawnCell.{DrawnCell}
use Rattle.cell_builder.specs.CellList.{with_drawn}
use Rattle.sram_netlist.specs.Organization.{columns_of}
use Rattle.sram_plan.specs.PlanNumbers.{organization}
use Rattle.port_lists.specs.Cells.{cell_in}
use Rattle.macro_layout.specs.Floorplan.{IsFloorplan}
use Rattle.macro_layout.specs.Cells.{data_cell}
use Rattle.floorplan.specs.LayoutOfKit.{layout_kit}
use Rattle.floorplan.specs.FloorplanNumbers.{floorplan_of}
use Rattle.floorplan.proofs.JoinerLaws.{apart}
use Rattle.part_edges.specs.Additions.{with_subckt}
use Rattle.part_edges.specs.PartPins.{PartPin, part_pins, AreEdgesOf}
use Rattle.port_data.specs.DataPart.{data_part_subckt, data_roles}
use Rattle.port_data.proofs.DataLaws.{data_near, same_heights, HaveSameHeights}
use Rattle.port_data.proofs.data.add_data.Goals as goal

pub data_edges-requires-clause-near : goal.data_edges-requires-clause-near
data_edges-requires-clause-near c =
    let plan = organization c.args.plan.now in
    let kit = layout_kit c.args.kit.now in
    let fl = floorplan_of c.floorplan-stands.result in
    let near = c.floorplan-stands.ensures.near in
    let narrow = c.in_ok-sides.ensures.are.bit_width.to in
    let bit = c.in_ok-sides.ensures.of.bit_width in
    let sense : IsNear (fl.sense_y -ℤ fl.write_y) = record { above = omega (arith, ints, near.sense_y.above, near.write_y.below); below = omega (arith, ints, near.sense_y.below, near.write_y.above) } in
    let column : IsNear (fl.column_y -ℤ fl.write_y) = record { above = omega (arith, ints, near.column_y.above, near.write_y.below); below = omega (arith, ints, near.column_y.below, near.write_y.above) } in
    let cell = c.in_ok-cell.ensures fl (apart _ _ near.sense_y near.write_y) (apart _ _ near.column_y near.write_y) in
    subst (λ (d : DrawnCell). AllByRecursion (λ (i : PlacedInstance). IsNearPoint i.place.at) d.instances) (sym cell)
    (data_near plan kit fl c.args.name.now c.requires.plan.plan.columns (omega (arith, narrow, bit)) sense column)

pub returns-clause-drawn : goal.returns-clause-drawn
returns-clause-drawn c = λ wire main fl wired on.
    let plan = organization c.args.plan.now in
    let kit = layout_kit c.args.kit.now in
    let n = c.args.name.now in
    let here = c.wire_of.result.now in
    let same = same_Some here wire (sym c.wire_of.ensures.is ∙ wired) in
    let stands = floorplan_of c.floorplan-stands.result in
    let near = c.floorplan-stands.ensures.near in
    let at = subst (λ (w : Wire). IsFloorplan plan kit w (record { main = 0; column = c.args.tracks }) stands) same (c.floorplan-stands.ensures.stated kit c.in_ok-sides.ensures.of) in
    let heights : HaveSameHeights stands fl = same_heights plan kit wire c.args.tracks 0 main stands fl at on in
    let cell : c.in_ok-cell.cell ≡ data_cell plan kit fl n = c.in_ok-cell.ensures fl (apart _ _ near.sense_y near.write_y ∙ heights.sense) (apart _ _ near.column_y near.write_y ∙ heights.column) in
    let subckt : c.in_ok-subckt.subckt ≡ data_part_subckt plan (cell_in c.args.kit.now.tech.roles) n = c.in_ok-subckt.ensures ∙ ap (λ (roles : List RoleName). data_part_subckt plan (cell_in roles) n) c.as_slice.ensures in
    let wide = c.columns_width-width.ensures.is in
    let few = c.columns_width-width.ensures.few in
    let width : to_z w64 (of_z w64 c.columns_width-width.result) ≡ pos (columns_of plan * c.in_ok-sides.sides.bit_width) = omega (arith, ints, wide, few) in
    record {
      cell = c.in_ok-add_part.ensures.cells ∙ ap (λ (d : DrawnCell). with_drawn d c.args.cells.now) cell;
      edges_are = subst (λ (pins : List PartPin). AreEdgesOf pins c.in_ok-edges.edges) (λ i. part_pins c.args.kit.now.leaves (data_roles plan) (subckt i).instances (cell i).instances) c.in_ok-edges.ensures.edges;
      width = c.in_ok-edges.ensures.width ∙ (width ∙ ap (λ (w : ℕ). pos (columns_of plan * w)) c.in_ok-sides.ensures.of.bit_width);
      height = c.in_ok-edges.ensures.height ∙ (apart _ _ near.array_y near.write_y ∙ heights.array);
    }

pub returns-clause-deck : goal.returns-clause-deck
returns-clause-deck c =
    let subckt = c.in_ok-subckt.ensures ∙ ap (λ (roles : List RoleName). data_part_subckt (organization c.args.plan.now) (cell_in roles) c.args.name.now) c.as_slice.ensures in
    c.in_ok-add_part.ensures.deck ∙ ap (λ (s : Subckt). with_subckt s c.args.deck.now) subckt
