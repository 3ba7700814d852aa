-- A column more.
use Rattle.std.proofs.Common.{◌≡◌, ◌≤◌, ◌*◌, pos, ◌∙◌, zero-add, ◌-ℤ◌, to_z, of_z, w64, arith}
use Rattle.std.proofs.lemmas.Int.{ints}
use Rattle.sram_plan.specs.PlanNumbers.{numbers_of, organization}
use Rattle.macro_layout.specs.Cells.{column_at, column_leaf, leaf_in_cell}
use Rattle.floorplan.specs.LayoutOfKit.{layout_kit}
use Rattle.port_lists.proofs.TabulateLaws.{grown_as, all_of}
use Rattle.port_lists.proofs.NumberLaws.{columns_are}
use Rattle.floorplan.proofs.PlaceLaws.{few_columns}
use Rattle.port_data.proofs.cell.add_columns.Goals as goal

pub loop-column-preserved : goal.loop-column-preserved
loop-column-preserved c = λ floorplan level.
    let fits = c.ranges.y in
    let at : to_z w64 (of_z w64 c.args.y) ≡ floorplan.column_y -ℤ floorplan.write_y = omega (arith, ints, fits, level) in
    grown_as _ _ _ _ c.loop-column.column (column_at (organization c.args.plan.now) (layout_kit c.args.kit.now) floorplan) (c.loop-column.invariant floorplan (omega (arith, ints, fits, level))) c.in_ok-push.ensures.items
    (c.in_ok-column_leaf.ensures ∙ (λ i. leaf_in_cell (organization c.args.plan.now) (layout_kit c.args.kit.now) (column_leaf c.args.plan.now.col_bits 0 c.loop-column.column)
    (pos ((c.column_x-x.ensures ∙ (zero-add _ ∙ (λ j. c.loop-column.column * c.leaf_width-width.ensures.is j))) i)) (at i)))

pub returns : goal.returns
returns c = λ floorplan level. all_of _ _ c.loop-column.column _ (column_at (organization c.args.plan.now) (layout_kit c.args.kit.now) floorplan) (c.loop-column.invariant floorplan (let fits = c.ranges.y in omega (arith, ints, fits, level)))
    (let far : c.loop-column.column ≡ c.args.plan.now.columns = omega arith in far ∙ columns_are (numbers_of c.args.plan.now) c.requires.plan)

pub column_x-x-requires-clause-column : goal.column_x-x-requires-clause-column
column_x-x-requires-clause-column c = let few : c.args.plan.now.columns ≤ 256 = few_columns (numbers_of c.args.plan.now) c.requires.plan in omega (arith, few)
