-- The rows, and two cells more.
use Rattle.std.proofs.Common.{◌+◌, length, arith}
use Rattle.floorplan.specs.LayoutOfKit.{layout_kit}
use Rattle.macro_layout.specs.Cells.{row_cell, array_cell, pre_cell}
use Rattle.port_lists.specs.Contents.{bit_cells}
use Rattle.sram_plan.specs.PlanNumbers.{organization}
use Rattle.bitcell_array.specs.ArrayPart.{row_cells}
use Rattle.bitcell_array.proofs.RowLaws.{more_kinds, one_longer, rows_and_two}
use Rattle.bitcell_array.proofs.part.add_cells.Goals as goal

pub draw-requires : goal.draw-requires
draw-requires c =
    let plan = organization c.args.plan.now in
    let bits = bit_cells c.args.kit.now.tech.roles plan c.args.contents in
    let few = more_kinds plan bits (row_cell plan (layout_kit c.args.kit.now) bits c.args.name.now) c.args.cells.now.cells _ c.requires.plan.plan c.in_ok-draw_rows.ensures.cells in
    record { few = omega (arith, few, c.requires.few) }

pub draw-requires-2 : goal.draw-requires-2
draw-requires-2 c =
    let plan = organization c.args.plan.now in
    let bits = bit_cells c.args.kit.now.tech.roles plan c.args.contents in
    let few = more_kinds plan bits (row_cell plan (layout_kit c.args.kit.now) bits c.args.name.now) c.args.cells.now.cells _ c.requires.plan.plan c.in_ok-draw_rows.ensures.cells in
    let one = one_longer _ _ _ (length c.args.cells.now.cells + 256) c.in_ok-draw.ensures.ok few in
    record { few = omega (arith, one, c.requires.few) }

pub returns : goal.returns
returns c =
    let plan = organization c.args.plan.now in
    let kit = layout_kit c.args.kit.now in
    let n = c.args.name.now in
    let bits = bit_cells c.args.kit.now.tech.roles plan c.args.contents in
    rows_and_two c.args.cells.now _ _ _ (row_cells plan kit bits n) _ _ (array_cell plan kit bits n) (pre_cell plan kit n) c.in_ok-draw_rows.ensures.adopted c.in_ok-draw_rows.ensures.cells c.in_ok-draw.ensures.ok c.in_ok-draw-2.ensures.ok c.in_ok-array_cell.ensures c.in_ok-pre_cell.ensures
