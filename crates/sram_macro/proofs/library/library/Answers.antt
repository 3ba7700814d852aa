-- Three cells more, and the library of all.
use Rattle.std.proofs.Common.{[], ap, subst, sym, ◌∙◌, arith}
use Rattle.std.specs.List.{AllByRecursion}
use Rattle.cell_builder.specs.CellList.{CellList}
use Rattle.cell_builder.specs.Flat.{HasLayers}
use Rattle.cell_builder.specs.Finish.{IsLibraryOf}
use Rattle.sram_plan.specs.PlanNumbers.{organization}
use Rattle.floorplan.specs.LayoutOfKit.{layout_kit}
use Rattle.macro_layout.specs.Cells.{bank_cell, logic_row_cell, macro_cell}
use Rattle.floorplan.specs.FloorplanNumbers.{floorplan_of}
use Rattle.sram_macro.specs.Library.{part_cells, macro_list, drawing_with}
use Rattle.port_lists.specs.Held.{held_of}
use Rattle.sram_macro.specs.Macro.{macro_bits}
use Rattle.sram_macro.proofs.LibraryLaws.{three_more, all_cells, few_parts, still_adopted, now_adopted, same_cells, list_is, on_layers}
use Rattle.bitcell_array.proofs.RowLaws.{one_longer}
use Rattle.sram_macro.proofs.library.library.Goals as goal

pub draw_parts-requires-clause-none : goal.draw_parts-requires-clause-none
draw_parts-requires-clause-none c = same_cells _ _ c.args.kit.now.lib.structs [] (ap (λ (l : CellList). l.cells) c.in_ok-cells.ensures) c.in_ok-adopt.ensures.ok

pub draw-requires : goal.draw-requires
draw-requires c =
    let bits = macro_bits c.args.kit.now c.args.plan.now (held_of c.args.contents) in
    let few = few_parts c.args.kit.now (organization c.args.plan.now) bits c.args.name.now (floorplan_of c.args.frame.now.floorplan) _ c.requires.plan.plan c.in_ok-draw_parts.ensures.cells in
    record { few = omega (arith, few) }

pub draw-requires-2 : goal.draw-requires-2
draw-requires-2 c =
    let bits = macro_bits c.args.kit.now c.args.plan.now (held_of c.args.contents) in
    let few = few_parts c.args.kit.now (organization c.args.plan.now) bits c.args.name.now (floorplan_of c.args.frame.now.floorplan) _ c.requires.plan.plan c.in_ok-draw_parts.ensures.cells in
    let one = one_longer _ _ _ 259 c.in_ok-draw.ensures.ok few in
    record { few = omega (arith, one) }

pub draw-requires-3 : goal.draw-requires-3
draw-requires-3 c =
    let bits = macro_bits c.args.kit.now c.args.plan.now (held_of c.args.contents) in
    let few = few_parts c.args.kit.now (organization c.args.plan.now) bits c.args.name.now (floorplan_of c.args.frame.now.floorplan) _ c.requires.plan.plan c.in_ok-draw_parts.ensures.cells in
    let one = one_longer _ _ _ 259 c.in_ok-draw.ensures.ok few in
    let two = one_longer _ _ _ 260 c.in_ok-draw-2.ensures.ok one in
    record { few = omega (arith, two) }

pub finish-requires : goal.finish-requires
finish-requires c =
    let plan = organization c.args.plan.now in
    let kit = layout_kit c.args.kit.now in
    let n = c.args.name.now in
    let fl = floorplan_of c.args.frame.now.floorplan in
    let bits = macro_bits c.args.kit.now c.args.plan.now (held_of c.args.contents) in
    let parts = part_cells c.args.kit.now plan bits n fl in
    let d = drawing_with bits c.args.frame.now.floorplan c.args.wires in
    let cells =
    three_more parts _ _ _ _ _ _ _ (bank_cell plan kit fl n d.bank_wires) (logic_row_cell plan kit n) (macro_cell plan fl n d.wires d.labels) c.in_ok-draw_parts.ensures.cells c.in_ok-draw.ensures.ok c.in_ok-draw-2.ensures.ok c.in_ok-draw-3.ensures.ok
    (c.in_ok-bank_cell.ensures plan kit c.requires.of) (c.in_ok-logic_row_cell.ensures plan c.requires.row) c.in_ok-macro_cell.ensures
    ∙ all_cells c.args.kit.now plan n d in
    record { layers = subst (AllByRecursion (HasLayers c.args.kit.now.tech.layers)) (sym cells) (on_layers c.args.kit.now.tech.layers c.args.kit.now plan n bits c.args.frame.now.floorplan c.args.wires c.requires.layers) }

pub returns : goal.returns
returns c =
    let plan = organization c.args.plan.now in
    let kit = layout_kit c.args.kit.now in
    let n = c.args.name.now in
    let fl = floorplan_of c.args.frame.now.floorplan in
    let bits = macro_bits c.args.kit.now c.args.plan.now (held_of c.args.contents) in
    let parts = part_cells c.args.kit.now plan bits n fl in
    let d = drawing_with bits c.args.frame.now.floorplan c.args.wires in
    let cells =
    three_more parts _ _ _ _ _ _ _ (bank_cell plan kit fl n d.bank_wires) (logic_row_cell plan kit n) (macro_cell plan fl n d.wires d.labels) c.in_ok-draw_parts.ensures.cells c.in_ok-draw.ensures.ok c.in_ok-draw-2.ensures.ok c.in_ok-draw-3.ensures.ok
    (c.in_ok-bank_cell.ensures plan kit c.requires.of) (c.in_ok-logic_row_cell.ensures plan c.requires.row) c.in_ok-macro_cell.ensures
    ∙ all_cells c.args.kit.now plan n d in
    let first = now_adopted _ _ c.args.kit.now.lib.structs (ap (λ (l : CellList). l.adopted) c.in_ok-cells.ensures) c.in_ok-adopt.ensures.ok in
    let adopted = still_adopted _ _ _ _ (still_adopted _ _ _ _ (still_adopted _ _ _ _ (c.in_ok-draw_parts.ensures.adopted ∙ first) c.in_ok-draw.ensures.ok) c.in_ok-draw-2.ensures.ok) c.in_ok-draw-3.ensures.ok in
    subst (λ (l : CellList). IsLibraryOf c.args.kit.now.tech.layers l n c.in_ok-finish.field-0) (list_is _ c.args.kit.now.lib.structs (macro_list c.args.kit.now plan n d).cells adopted cells) c.in_ok-finish.ensures

pub logic_row_cell-requires-clause-row : goal.logic_row_cell-requires-clause-row
logic_row_cell-requires-clause-row c = (organization c.args.plan.now, c.requires.plan.plan, c.requires.row)
