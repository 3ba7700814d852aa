-- A row more.
use Rattle.std.proofs.Common.{ap, ◌∙◌, arith}
use Rattle.cell_builder.specs.CellList.{CellList}
use Rattle.floorplan.specs.LayoutOfKit.{layout_kit}
use Rattle.macro_layout.specs.Cells.{row_cell}
use Rattle.port_lists.proofs.TabulateLaws.{grown_as, all_of}
use Rattle.port_lists.specs.Contents.{bit_cells}
use Rattle.sram_netlist.specs.BitCells.{row_kinds}
use Rattle.sram_netlist.specs.Organization.{bank_rows}
use Rattle.sram_plan.specs.PlanNumbers.{organization}
use Rattle.bitcell_array.proofs.RowLaws.{row_below, more_rows}
use Rattle.bitcell_array.proofs.part.draw_rows.Goals as goal

pub row_cell-requires-clause-row : goal.row_cell-requires-clause-row
row_cell-requires-clause-row c =
    let plan = organization c.args.plan.now in
    row_below (bit_cells c.args.kit.now.tech.roles plan c.args.contents) plan c.loop-row.row _ (c.row_kinds-row-end.ensures c.args.kit.now.tech.roles) c.loop-row-test.true

pub draw-requires : goal.draw-requires
draw-requires c =
    let plan = organization c.args.plan.now in
    let bits = bit_cells c.args.kit.now.tech.roles plan c.args.contents in
    let below = row_below bits plan c.loop-row.row _ (c.row_kinds-row-end.ensures c.args.kit.now.tech.roles) c.loop-row-test.true in
    let few = more_rows plan (row_cell plan (layout_kit c.args.kit.now) bits c.args.name.now) c.args.cells.now.cells _ c.loop-row.row c.requires.plan.plan below c.loop-row.invariant.1 in
    record { few = omega (arith, few, c.requires.few) }

pub loop-row-preserved : goal.loop-row-preserved
loop-row-preserved c =
    let plan = organization c.args.plan.now in
    let bits = bit_cells c.args.kit.now.tech.roles plan c.args.contents in
    let adopted = ap (λ (l : CellList). l.adopted) c.in_ok-draw.ensures.ok in
    let cells = ap (λ (l : CellList). l.cells) c.in_ok-draw.ensures.ok in
    (adopted ∙ c.loop-row.invariant.0, grown_as c.args.cells.now.cells _ _ _ c.loop-row.row (row_cell plan (layout_kit c.args.kit.now) bits c.args.name.now) c.loop-row.invariant.1 cells c.in_ok-row_cell.ensures)

pub returns-clause-cells : goal.returns-clause-cells
returns-clause-cells c =
    let plan = organization c.args.plan.now in
    let bits = bit_cells c.args.kit.now.tech.roles plan c.args.contents in
    let end = c.row_kinds-row-end.ensures c.args.kit.now.tech.roles in
    all_of c.args.cells.now.cells _ c.loop-row.row (row_kinds bits (bank_rows plan)) (row_cell plan (layout_kit c.args.kit.now) bits c.args.name.now) c.loop-row.invariant.1 (omega (arith, end))
