-- The cells of the array, and that of the data.
use Rattle.std.proofs.Common.{[], ◌∷◌, ◌++◌, append_assoc, ap, ◌∙◌, arith}
use Rattle.cell_builder.specs.CellList.{CellList}
use Rattle.port_lists.specs.Held.{held_of}
use Rattle.sram_plan.specs.PlanNumbers.{organization}
use Rattle.floorplan.specs.LayoutOfKit.{layout_kit}
use Rattle.macro_layout.specs.Cells.{array_cell, pre_cell, data_cell}
use Rattle.floorplan.specs.FloorplanNumbers.{floorplan_of}
use Rattle.bitcell_array.specs.ArrayPart.{row_cells, array_cells}
use Rattle.sram_macro.specs.Macro.{macro_bits}
use Rattle.sram_macro.proofs.LibraryLaws.{parts_are, few_array, apart}
use Rattle.sram_macro.proofs.library.draw_parts.Goals as goal

pub draw-requires : goal.draw-requires
draw-requires c =
    let plan = organization c.args.plan.now in
    let bits = macro_bits c.args.kit.now c.args.plan.now (held_of c.args.contents) in
    let few = few_array plan (layout_kit c.args.kit.now) bits c.args.name.now _ _ c.requires.plan.plan c.requires.none c.in_ok-add_cells.ensures in
    record { few = omega (arith, few) }

pub returns-clause-adopted : goal.returns-clause-adopted
returns-clause-adopted c = ap (λ (l : CellList). l.adopted) c.in_ok-draw.ensures.ok ∙ ap (λ (l : CellList). l.adopted) c.in_ok-add_cells.ensures

pub returns-clause-cells : goal.returns-clause-cells
returns-clause-cells c =
    let plan = organization c.args.plan.now in
    let kit = layout_kit c.args.kit.now in
    let n = c.args.name.now in
    let near = c.requires.near in
    let bits = macro_bits c.args.kit.now c.args.plan.now (held_of c.args.contents) in
    let drawn = c.in_ok-data_cell.ensures (floorplan_of c.args.floorplan.now) (apart _ _ near.sense_y near.write_y) (apart _ _ near.column_y near.write_y) in
    parts_are _ _ _ (array_cells plan kit bits n) _ (data_cell plan kit (floorplan_of c.args.floorplan.now) n) c.requires.none c.in_ok-add_cells.ensures c.in_ok-draw.ensures.ok drawn
    ∙ append_assoc (row_cells plan kit bits n) (array_cell plan kit bits n ∷ pre_cell plan kit n ∷ []) (data_cell plan kit (floorplan_of c.args.floorplan.now) n ∷ [])
