-- A column more.
use Rattle.std.proofs.Common.{◌≡◌, ◌<◌, ◌≤◌, ◌+◌, ◌*◌, List, ap, subst, ℕ, ◌∙◌, arith}
use Rattle.tech_rules.specs.declared.tech.RoleName.{RoleName}
use Rattle.sram_netlist.specs.BitCells.{bit_cell}
use Rattle.sram_plan.specs.PlanNumbers.{numbers_of, organization}
use Rattle.port_lists.specs.Contents.{bit_cells}
use Rattle.macro_layout.specs.Cells.{row_bit_at}
use Rattle.floorplan.specs.LayoutOfKit.{layout_kit}
use Rattle.port_lists.proofs.TabulateLaws.{grown_as, all_of}
use Rattle.port_lists.proofs.NumberLaws.{columns_are}
use Rattle.floorplan.proofs.PlaceLaws.{of_same_cell, few_columns}
use Rattle.bitcell_array.proofs.row_cell.add_bits.Goals as goal

pub loop-column-preserved : goal.loop-column-preserved
loop-column-preserved c =
    grown_as _ _ _ _ c.loop-column.column (row_bit_at (organization c.args.plan.now) (layout_kit c.args.kit.now) (bit_cells c.args.kit.now.tech.roles (organization c.args.plan.now) c.args.contents) c.args.row) c.loop-column.invariant c.in_ok-push.ensures.items
    (of_same_cell _ _ _ _ _ _ _ c.in_ok-cell_at.ensures
    (c.bit_cell-cell.ensures ∙ ap (λ (roles : List RoleName). bit_cell (bit_cells roles (organization c.args.plan.now) c.args.contents) c.args.row c.loop-column.column) c.as_slice.ensures)
    (c.column_x-x.ensures ∙ (λ i. c.requires.from i + c.loop-column.column * c.leaf_width-width.ensures.is i)))

pub returns : goal.returns
returns c = all_of _ _ c.loop-column.column _ (row_bit_at (organization c.args.plan.now) (layout_kit c.args.kit.now) (bit_cells c.args.kit.now.tech.roles (organization c.args.plan.now) c.args.contents) c.args.row) c.loop-column.invariant
    (let far : c.loop-column.column ≡ c.args.plan.now.columns = omega arith in far ∙ columns_are (numbers_of c.args.plan.now) c.requires.plan)

pub column_x-x-requires-clause-column : goal.column_x-x-requires-clause-column
column_x-x-requires-clause-column c = let few : c.args.plan.now.columns ≤ 256 = few_columns (numbers_of c.args.plan.now) c.requires.plan in omega (arith, few)

pub bit_cell-cell-requires-clause-column : goal.bit_cell-cell-requires-clause-column
bit_cell-cell-requires-clause-column c =
    let below : c.loop-column.column < c.args.plan.now.columns = omega arith in
    subst (λ (n : ℕ). c.loop-column.column < n) (columns_are (numbers_of c.args.plan.now) c.requires.plan) below
